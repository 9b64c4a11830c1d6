-- A refusal is told by its code, never 0, and the number of its pivot: so what is told of a call leaves one answer.
use Rattle.std.proofs.Common.{Result, Ok, Err}
use Rattle.float.proofs.Words.{◌≡◌, refl, sym, ap, ◌∙◌, false, List, ℕ, eqb, Float, Format}
use Rattle.float.specs.Choice.{pick}
use Rattle.cholesky.specs.Error.{error_code, pivot_number}
use Rattle.cholesky.specs.Pivot.{PivotAnswer, pivot_answer}
use Rattle.cholesky.specs.Factor.{FactorAnswer, factored}
use Rattle.cholesky.specs.Solve.{SolvedAnswer, solved_answer}
use Rattle.cholesky.specs.declared.answers.FactorError.{FactorError}
use Rattle.cholesky.specs.declared.answers.FactorError.TheVariants.{AtMostZero, NotANumber, InputNotFinite, AnswerNotFinite}
use Rattle.cholesky.specs.declared.answers.Solved.{Solved}

-- the refusal of a code and a pivot's number
abbrev error_of : ℕ → ℕ → FactorError
error_of code k = pick (eqb code 6) (AtMostZero k) (pick (eqb code 9) (NotANumber k) (pick (eqb code 5) InputNotFinite AnswerNotFinite))

-- what was returned, by its code, its pivot's number and its value
abbrev answer_of : {A : Type 0} → ℕ → ℕ → A → Result A FactorError
answer_of code k x = pick (eqb code 0) (Ok x) (Err (error_of code k))

refused_back : {A : Type 0} (e : FactorError) (x : A) → answer_of (error_code e) (pivot_number e) x ≡ Err e
refused_back (AtMostZero k) x = refl
refused_back (NotANumber k) x = refl
refused_back InputNotFinite x = refl
refused_back AnswerNotFinite x = refl

pub coded : (e : FactorError) → eqb (error_code e) 0 ≡ false
coded (AtMostZero k) = refl
coded (NotANumber k) = refl
coded InputNotFinite = refl
coded AnswerNotFinite = refl

-- ---- a pivot step, a factor, and a factor with its solution

pivot_back : (f : Format) (p : Result Float FactorError) → let a = pivot_answer f p in answer_of a.code a.pivot a.root ≡ p
pivot_back f (Ok x) = refl
pivot_back f (Err e) = refused_back e _

pub same_pivot : (f : Format) (p q : Result Float FactorError) → pivot_answer f p ≡ pivot_answer f q → p ≡ q
same_pivot f p q e = sym (pivot_back f p) ∙ ap (λ (a : PivotAnswer). answer_of a.code a.pivot a.root) e ∙ pivot_back f q

factor_back : (r : Result (Unit {0}) FactorError) (l : List Float) → let a = factored r l in answer_of a.code a.pivot tt ≡ r
factor_back (Ok tt) l = refl
factor_back (Err e) l = refused_back e tt

pub same_factor : (r q : Result (Unit {0}) FactorError) (l m : List Float) → factored r l ≡ factored q m → r ≡ q
same_factor r q l m e = sym (factor_back r l) ∙ ap (λ (a : FactorAnswer). answer_of a.code a.pivot tt) e ∙ factor_back q m

-- a factor has the numbers that `numbers` reads, and `of` makes it of them again
module _ {M : Type 0} (numbers : M → List Float) (of : List Float → M) (made : (m : M) → of (numbers m) ≡ m) (f : Format) (n : ℕ) where
  abbrev solved_of : SolvedAnswer → Result (Solved M n) FactorError
  solved_of a = answer_of a.code a.pivot (record { factor = of a.factor; solution = a.solution })

  solved_back : (r : Result (Solved M n) FactorError) → solved_of (solved_answer numbers f n r) ≡ r
  solved_back (Ok x) = ap (λ (m : M). Ok (record { factor = m; solution = x.solution })) (made x.factor)
  solved_back (Err e) = refused_back e _

  pub same_solved : (r q : Result (Solved M n) FactorError) → solved_answer numbers f n r ≡ solved_answer numbers f n q → r ≡ q
  same_solved r q e = sym (solved_back r) ∙ ap solved_of e ∙ solved_back q
