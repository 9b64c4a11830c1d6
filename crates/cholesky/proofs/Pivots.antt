-- What a factor makes of a pivot step: with a root it goes on, and in any other case it stops with the early writes. Each pivot is above zero, at most
-- zero or NaN, and the code of its step tells which.
use Rattle.std.specs.Prelude.{Result, Ok, Err}
use Rattle.float.proofs.Words.{◌≡◌, refl, sym, ap, ◌∙◌, List, Bool, true, false, false≢true, ⊎_elim, ℕ, arith, Float, Format, lt, le, is_nan}
use Rattle.float.specs.Choice.{pick}
use Rattle.float.specs.Constants.{zero_f}
use Rattle.float.specs.Exactly.{Exactly, OneOfThree}
use Rattle.float.specs.Root.{root_of}
use Rattle.float.specs.Width.{F}
use Rattle.float.proofs.Invalid.{one_of_three}
use Rattle.cholesky.specs.Pivot.{PivotAnswer, with_root_of, without_root, pivot_answer, pivot_of, has_root, Cases}
use Rattle.cholesky.specs.Factor.{FactorAnswer, stopped, with_root}
use Rattle.cholesky.specs.declared.answers.FactorError.{FactorError}
use Rattle.cholesky.specs.declared.answers.FactorError.TheVariants.{AtMostZero, NotANumber, InputNotFinite, AnswerNotFinite}
use Rattle.cholesky.proofs.pivot.pivot_step.Reads as pivot-step

module _ (f : Format) (p : Result Float FactorError) {a : PivotAnswer} (h : pivot_answer f p ≡ a) (early : List Float) (go : Float → FactorAnswer) where
  pub goes_on : {x : Float} → p ≡ Ok x → go x ≡ with_root a early go
  goes_on {x} e = ap (λ (b : PivotAnswer). with_root b early go) (sym (ap (pivot_answer f) e) ∙ h)

  pub stops_at : has_root (pivot_answer f p) ≡ false → stopped (pivot_answer f p) early ≡ with_root a early go
  stops_at e = rw h (rw (rw h at e))

-- the cases behind the first have no root
pub no_root : (f : Format) (p : Result Float FactorError) → ((x : Float) → p ≡ Ok x → ⊥) → has_root (pivot_answer f p) ≡ false
no_root f (Ok x) h = absurd (h x refl)
no_root f (Err InputNotFinite) h = refl
no_root f (Err (AtMostZero k)) h = refl
no_root f (Err (NotANumber k)) h = refl
no_root f (Err AnswerNotFinite) h = refl

-- ---- root, at most zero, NaN: each pivot is in exactly one of the three cases, and its case is told by its number

met : (k : ℕ) → Exactly (k ≡ k) (true ≡ true)
met k = ((λ _. refl), (λ _. refl))

unmet : (k n : ℕ) → (k ≡ n → ⊥) → Exactly (k ≡ n) (false ≡ true)
unmet k n h = ((λ e. absurd (h e)), (λ e. absurd (false≢true e)))

by_tests : (a b c : Bool) → OneOfThree a b c → let code : ℕ = pick b 6 (pick c 9 0) in
    Exactly (code ≡ 0) (a ≡ true) × Exactly (code ≡ 6) (b ≡ true) × Exactly (code ≡ 9) (c ≡ true)
by_tests a b c =
    ⊎_elim (λ h. rw (h.0, h.1, h.2) (met 0, unmet 0 6 (λ e. omega arith), unmet 0 9 (λ e. omega arith)))
    (⊎_elim (λ h. rw (h.0, h.1, h.2) (unmet 6 0 (λ e. omega arith), met 6, unmet 6 9 (λ e. omega arith)))
    (λ h. rw (h.0, h.1, h.2) (unmet 9 0 (λ e. omega arith), unmet 9 6 (λ e. omega arith), met 9)))

pub pivot_told : (f : Format) (t : Float) (k : ℕ) → Cases f t (pivot_of f t k).code
unfolding pivot_of
pivot_told f t k = rw (code (le t (zero_f f)) (is_nan t)) (by_tests (lt (zero_f f) t) (le t (zero_f f)) (is_nan t) (one_of_three f t))
  where
    code : (b c : Bool) → (pick b (without_root f 6 k) (pick c (without_root f 9 k) (with_root_of (root_of f t)))).code ≡ pick b 6 (pick c 9 0)
    code true c = refl
    code false true = refl
    code false false = refl

-- of any answer within the promise of the pivot step
pub pivot_told_call : (t : Float) (k : ℕ) (p : Result Float FactorError) → pivot-step.Post tt (t, (k, tt)) p (t, (k, tt)) → Cases F t (pivot_answer F p).code
pivot_told_call t k p h = rw h (pivot_told F t k)
