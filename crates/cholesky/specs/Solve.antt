-- The solution x of L L' x = b by forward and backward substitution. Definitions only.
use Rattle.std.specs.Prelude.{List, [], ◌∷◌, ◌++◌, ℕ, eqb, Float, Result, Ok, Err}
use Rattle.std.specs.Float.{Format}
use Rattle.std.specs.Float.Ieee.{sub, mul, div}
use Rattle.float.specs.Choice.{pick}
use Rattle.float.specs.Judged.{judged}
use Rattle.matrix.specs.Answer.{Answer, answer_all, on_first}
use Rattle.matrix.specs.Places.{zeros, at, triangular}
use Rattle.matrix.specs.Symmetric.{Sym2, Sym3}
use Rattle.cholesky.specs.Factor.{FactorAnswer, if_whole, steps2_of, steps3_of}
use Rattle.cholesky.specs.Error.{error_code, pivot_number}
use Rattle.cholesky.specs.declared.answers.FactorError.{FactorError}
use Rattle.cholesky.specs.declared.answers.Solved.{Solved}

-- ---- L c = b from the first place on, and then L' x = c from the last

abbrev pub solution2_of : Format → List Float → List Float → List Float
solution2_of f l b =
    let c0 = div f (at b 0) (at l 0) in
    let c1 = div f (sub f (at b 1) (mul f (at l 1) c0)) (at l 2) in
    let x1 = div f c1 (at l 2) in
    div f (sub f c0 (mul f (at l 1) x1)) (at l 0) ∷ x1 ∷ []

abbrev pub solution3_of : Format → List Float → List Float → List Float
solution3_of f l b =
    let c0 = div f (at b 0) (at l 0) in
    let c1 = div f (sub f (at b 1) (mul f (at l 1) c0)) (at l 2) in
    let c2 = div f (sub f (sub f (at b 2) (mul f (at l 3) c0)) (mul f (at l 4) c1)) (at l 5) in
    let x2 = div f c2 (at l 5) in
    let x1 = div f (sub f c1 (mul f (at l 4) x2)) (at l 2) in
    div f (sub f (sub f c0 (mul f (at l 1) x1)) (mul f (at l 3) x2)) (at l 0) ∷ x1 ∷ x2 ∷ []

-- ---- judged, and on slices of n places or more

abbrev pub judged_solution : Format → ℕ → (List Float → List Float → List Float) → List Float → List Float → Answer (List Float)
judged_solution f n solution l b = answer_all f n (l ++ b) (solution l b)

unfoldable pub solve2_of : Format → List Float → List Float → List Float → Answer (List Float)
solve2_of f l b x = on_first 2 (judged_solution f 2 (solution2_of f) l) b x

unfoldable pub solve3_of : Format → List Float → List Float → List Float → Answer (List Float)
solve3_of f l b x = on_first 3 (judged_solution f 3 (solution3_of f) l) b x

-- ---- factor and solve in one: 5, then 6 or 9, then 7, and all numbers +0 on refusal but the pivot's

pub record SolvedAnswer : Type 0 where
  pub code : ℕ
  pub pivot : ℕ
  pub factor : List Float
  pub solution : List Float

-- of size n; with 6 and 9 the pivot's number, and else 0
abbrev pub refused_solved : Format → ℕ → ℕ → ℕ → SolvedAnswer
refused_solved f n pivot code = record { code = code; pivot = pivot; factor = zeros f (triangular n); solution = zeros f n }

-- what is told of a call of size n, whose factor has the numbers that `numbers` reads
abbrev pub solved_answer : {M : Type 0} → (M → List Float) → Format → (n : ℕ) → Result (Solved M n) FactorError → SolvedAnswer
solved_answer numbers f n (Ok x) = record { code = 0; pivot = 0; factor = numbers x.factor; solution = x.solution }
solved_answer numbers f n (Err e) = refused_solved f n (pivot_number e) (error_code e)

abbrev pub solved2_answer : Format → Result (Solved Sym2 2) FactorError → SolvedAnswer
solved2_answer f r = solved_answer (λ (l : Sym2). l.«data») f 2 r

abbrev pub solved3_answer : Format → Result (Solved Sym3 3) FactorError → SolvedAnswer
solved3_answer f r = solved_answer (λ (l : Sym3). l.«data») f 3 r

-- the steps r with the solution x that they give, or the refusal of steps that stopped
abbrev pub with_solution : Format → ℕ → FactorAnswer → List Float → SolvedAnswer
with_solution f n r x = pick (eqb r.code 0) (record { code = 0; pivot = 0; factor = r.factor; solution = x }) (refused_solved f n r.pivot r.code)

abbrev pub judged_solved : Format → ℕ → FactorAnswer → List Float → SolvedAnswer
judged_solved f n r x = judged (refused_solved f n 0) 7 (if_whole r (r.factor ++ x)) (with_solution f n r x)

abbrev pub factor_and_solve_of : Format → ℕ → List Float → List Float → FactorAnswer → List Float → SolvedAnswer
factor_and_solve_of f n a b r x = judged (refused_solved f n 0) 5 (a ++ b) (judged_solved f n r x)

-- by steps and a substitution of any size
abbrev pub solved_by : Format → ℕ → (List Float → List Float → FactorAnswer) → (List Float → List Float → List Float) → List Float → List Float → SolvedAnswer
solved_by f n steps solution a b = let r = steps (zeros f (triangular n)) a in factor_and_solve_of f n a b r (solution r.factor b)

unfoldable pub factor_and_solve2_of : Format → List Float → List Float → SolvedAnswer
factor_and_solve2_of f a b = let r = steps2_of f (zeros f 3) a in factor_and_solve_of f 2 a b r (solution2_of f r.factor b)

unfoldable pub factor_and_solve3_of : Format → List Float → List Float → SolvedAnswer
factor_and_solve3_of f a b = let r = steps3_of f (zeros f 6) a in factor_and_solve_of f 3 a b r (solution3_of f r.factor b)
