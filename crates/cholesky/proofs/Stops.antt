-- Steps stop at the first pivot that has no root: a pivot step stops them by its own pivot, and by those after it what follows. After a NaN every pivot is
-- NaN, so that none is at most zero.
use Rattle.float.proofs.Words.{◌≡◌, refl, sym, ◌∙◌, Bool, true, false, true≢false, ◌||◌, List, [], ◌∷◌, inl, inr, ⊎_elim, ℕ, suc, eqb, length, Float, Format}
use Rattle.float.proofs.Words.{sub, mul, div, le, is_nan, eq-eqb, eqb-true}
use Rattle.float.specs.Choice.{pick}
use Rattle.float.specs.Constants.{zero_f}
use Rattle.float.specs.Root.{root_of}
use Rattle.float.proofs.Choice.{chosen, so_or_not, by_either, neither}
use Rattle.float.proofs.Invalid.{nan_root, nan_divisor, nan_square, nan_taken_off, nan_not_at_most}
use Rattle.matrix.specs.Places.{at}
use Rattle.cholesky.specs.Pivot.{pivot_of, with_root_of, without_root}
use Rattle.cholesky.specs.Factor.{FactorAnswer, with_root, plain, second2_of, row_three_of, second3_of, steps2_of, steps3_of}
use Rattle.cholesky.specs.Pivots.{l11_of, l21_of, second_of, l22_of, l31_of, l32_of, third_of, pivots2_of, pivots3_of, one, one_at_most_zero, one_nan}
use Rattle.cholesky.specs.Pivots.{refused_pivot}
use Rattle.cholesky.specs.Pivots.{Stopped, Stops}

-- ---- after a NaN: its root, the quotient by it, the square of that and what it is taken off are NaN

next_nan : (f : Format) (x y p : Float) → is_nan p ≡ true → let q = div f y (root_of f p) in is_nan (sub f x (mul f q q)) ≡ true
next_nan f x y p e = let q = div f y (root_of f p) in nan_taken_off f x (mul f q q) (nan_square f q (nan_divisor f y (root_of f p) (nan_root f p e)))

past_nan : (f : Format) (p : Float) (ps : List Float) → is_nan p ≡ true → one_at_most_zero f ps ≡ false → one_at_most_zero f (p ∷ ps) ≡ false
unfolding one
past_nan f p ps e h = rw (nan_not_at_most f p e) h

last_nan : (f : Format) (p : Float) → is_nan p ≡ true → one_at_most_zero f (p ∷ []) ≡ false
unfolding one
last_nan f p e = past_nan f p [] e refl

-- ---- one pivot step, and then the next

module _ (f : Format) (l : List Float) (s : ℕ) where
  whole_stops : (k : ℕ) (xs : List Float) → length xs ≡ s → Stops f l s k [] (plain 0 xs)
  unfolding one refused_pivot
  whole_stops k xs e = record { code = refl; pivot = refl; full = λ _. e }

  root_stops : (t : Float) (k : ℕ) (early : List Float) (go : Float → FactorAnswer) (ps : List Float) → (length l ≡ s → length early ≡ s)
      → (is_nan t ≡ true → one_at_most_zero f ps ≡ false)
      → Stops f l s (suc k) ps (go (root_of f t)) → Stops f l s k (t ∷ ps) (with_root (pivot_of f t k) early go)
  unfolding pivot_of one refused_pivot
  root_stops t k early go ps e later h =
      record { code = code (le t (zero_f f)) (is_nan t) later; pivot = pivot (le t (zero_f f)) (is_nan t); full = full (le t (zero_f f)) (is_nan t) }
    where
      step : Bool → Bool → FactorAnswer
      step b n = with_root (pick b (without_root f 6 k) (pick n (without_root f 9 k) (with_root_of (root_of f t)))) early go

      code : (b n : Bool) → (n ≡ true → one_at_most_zero f ps ≡ false) → (step b n).code ≡ pick (b || one_at_most_zero f ps) 6 (pick (n || one_nan ps) 9 0)
      code true n later = refl
      code false true later = rw (later refl)
      code false false later = h.code

      pivot : (b n : Bool) → (step b n).pivot ≡ pick (b || n) k (refused_pivot f (suc k) ps)
      pivot true n = refl
      pivot false true = refl
      pivot false false = h.pivot

      full : (b n : Bool) → length l ≡ s → length (step b n).factor ≡ s
      full true n = e
      full false true = e
      full false false = h.full

module _ (f : Format) (l a : List Float) where
  pub steps2_stops : Stops f l 3 1 (pivots2_of f a) (steps2_of f l a)
  unfolding steps2_of one
  steps2_stops =
      let l11 = l11_of f a in
      let l21 = l21_of f a in
      let second = second_of f a in
      root_stops f l 3 (at a 0) 1 l (λ (x : Float). second2_of f l a x (div f (at a 1) x)) (second ∷ []) (λ e. e)
      (λ e. last_nan f second (next_nan f (at a 2) (at a 1) (at a 0) e))
      (root_stops f l 3 second 2 (l11 ∷ l21 ∷ at l 2 ∷ []) (λ (x : Float). plain 0 (l11 ∷ l21 ∷ x ∷ [])) [] (λ _. refl) (λ _. refl)
      (whole_stops f l 3 3 (l11 ∷ l21 ∷ l22_of f a ∷ []) refl))

  third_after : is_nan (second_of f a) ≡ true → is_nan (third_of f a) ≡ true
  third_after = next_nan f (sub f (at a 5) (mul f (l31_of f a) (l31_of f a))) (sub f (at a 4) (mul f (l21_of f a) (l31_of f a))) (second_of f a)

  pub steps3_stops : Stops f l 6 1 (pivots3_of f a) (steps3_of f l a)
  unfolding steps3_of one
  steps3_stops =
      let l11 = l11_of f a in
      let l21 = l21_of f a in
      let l22 = l22_of f a in
      let l31 = l31_of f a in
      let l32 = l32_of f a in
      let second = second_of f a in
      let third = third_of f a in
      root_stops f l 6 (at a 0) 1 l (λ (x : Float). second3_of f l a x (div f (at a 1) x)) (second ∷ third ∷ []) (λ e. e)
      (λ e. let n = next_nan f (at a 2) (at a 1) (at a 0) e in past_nan f second (third ∷ []) n (last_nan f third (third_after n)))
      (root_stops f l 6 second 2 (l11 ∷ l21 ∷ at l 2 ∷ at l 3 ∷ at l 4 ∷ at l 5 ∷ []) (λ (x : Float). row_three_of f l a l11 l21 x l31) (third ∷ []) (λ _. refl)
      (λ e. last_nan f third (third_after e))
      (root_stops f l 6 third 3 (l11 ∷ l21 ∷ l22 ∷ l31 ∷ l32 ∷ at l 5 ∷ []) (λ (x : Float). plain 0 (l11 ∷ l21 ∷ l22 ∷ l31 ∷ l32 ∷ x ∷ [])) [] (λ _. refl)
      (λ _. refl)
      (whole_stops f l 6 4 (l11 ∷ l21 ∷ l22 ∷ l31 ∷ l32 ∷ root_of f third ∷ []) refl)))

-- ---- the codes of steps that stopped

pub unstopped : (k : ℕ) → eqb k 6 || eqb k 9 ≡ false → Stopped k → ⊥
unstopped k e =
    let n = neither (eqb k 6) (eqb k 9) e in
    ⊎_elim (λ (q : k ≡ 6). true≢false (sym (eq-eqb k 6 q) ∙ n.0)) (λ (q : k ≡ 9). true≢false (sym (eq-eqb k 9 q) ∙ n.1))

pub by_stopped : {X : Type 0} (k : ℕ) → (Stopped k → X) → ((Stopped k → ⊥) → X) → X
by_stopped k h n =
    so_or_not (eqb k 6 || eqb k 9)
    (λ e. h (by_either (eqb k 6) (eqb k 9) e (λ q. inl (eqb-true k 6 q)) (λ q. inr (eqb-true k 9 q))))
    (λ e. n (unstopped k e))

-- steps end with 0, 6 or 9, and so never with 5
pub zero_or_stopped : {f : Format} {l : List Float} {s k : ℕ} {pivots : List Float} {r : FactorAnswer} → Stops f l s k pivots r
    → (r.code ≡ 0 → ⊥) → Stopped r.code
zero_or_stopped {f} {pivots = pivots} {r} known h =
    let P : ℕ → Type 0 = λ (k : ℕ). r.code ≡ k → Stopped r.code in
    chosen P (one_at_most_zero f pivots) 6 (pick (one_nan pivots) 9 0) inl (chosen P (one_nan pivots) 9 0 inr (λ e. absurd (h e))) known.code
