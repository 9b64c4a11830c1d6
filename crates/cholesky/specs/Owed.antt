-- The code that a factor has, alone or with its solution, and what it leaves on refusal. Definitions only.
use Rattle.std.specs.Prelude.{List, [], ◌∷◌, ℕ, ◌||◌, eqb, Float}
use Rattle.std.specs.Float.{Format}
use Rattle.float.specs.Choice.{pick}
use Rattle.float.specs.Sign.{all_finite}
use Rattle.matrix.specs.Owed.{Part}
use Rattle.matrix.specs.Places.{triangular}
use Rattle.cholesky.specs.Factor.{FactorAnswer, refused_factor}
use Rattle.cholesky.specs.Solve.{SolvedAnswer}
use Rattle.cholesky.specs.Pivots.{pivot_code}

-- 5 where a used number is not finite, else 6 where a pivot is at most zero, else 9 where one is NaN, else 7 where a number that was made is not finite, else 0
abbrev pub code_of : Format → List Float → List Float → List Float → ℕ
code_of f used pivots made = pick (all_finite used) (pivot_code f pivots (pick (all_finite made) 0 7)) 5

-- with 6 and 9 the writes of the steps r stand, with 5 and 7 the old factor l
abbrev pub left_factor : List Float → FactorAnswer → ℕ → FactorAnswer
left_factor l r k = pick (eqb k 6 || eqb k 9) r (refused_factor l k)

-- ---- the numbers of an answer of size n

abbrev pub factor_parts : ℕ → FactorAnswer → List Part
factor_parts n r = record { size = triangular n; numbers = r.factor } ∷ []

abbrev pub solved_parts : ℕ → SolvedAnswer → List Part
solved_parts n r = record { size = triangular n; numbers = r.factor } ∷ record { size = n; numbers = r.solution } ∷ []
