-- The pivots by the formula, and where the steps of a factor stop by them. Definitions only.
use Rattle.std.specs.Prelude.{◌≡◌, Bool, false, ◌||◌, ◌⊎◌, List, [], ◌∷◌, ℕ, suc, length, Float}
use Rattle.std.specs.Float.{Format}
use Rattle.std.specs.Float.Ieee.{sub, mul, div, le, is_nan}
use Rattle.float.specs.Choice.{pick}
use Rattle.float.specs.Constants.{zero_f}
use Rattle.float.specs.Root.{root_of}
use Rattle.matrix.specs.Places.{at}
use Rattle.cholesky.specs.Factor.{FactorAnswer}

-- ---- the factor and its pivots by the formula

abbrev pub l11_of : Format → List Float → Float
l11_of f a = root_of f (at a 0)

abbrev pub l21_of : Format → List Float → Float
l21_of f a = div f (at a 1) (l11_of f a)

abbrev pub second_of : Format → List Float → Float
second_of f a = sub f (at a 2) (mul f (l21_of f a) (l21_of f a))

abbrev pub l22_of : Format → List Float → Float
l22_of f a = root_of f (second_of f a)

abbrev pub l31_of : Format → List Float → Float
l31_of f a = div f (at a 3) (l11_of f a)

abbrev pub l32_of : Format → List Float → Float
l32_of f a = div f (sub f (at a 4) (mul f (l21_of f a) (l31_of f a))) (l22_of f a)

abbrev pub third_of : Format → List Float → Float
third_of f a = sub f (sub f (at a 5) (mul f (l31_of f a) (l31_of f a))) (mul f (l32_of f a) (l32_of f a))

-- A pivot counts only if those before it are above zero. If one of them is not, the steps have stopped already; and after a NaN all are NaN.

abbrev pub pivots2_of : Format → List Float → List Float
pivots2_of f a = at a 0 ∷ second_of f a ∷ []

abbrev pub pivots3_of : Format → List Float → List Float
pivots3_of f a = at a 0 ∷ second_of f a ∷ third_of f a ∷ []

-- ---- what stops the steps

-- whether one of them passes a test
unfoldable pub one : (Float → Bool) → List Float → Bool
one test [] = false
one test (p ∷ ps) = test p || one test ps

abbrev pub one_at_most_zero : Format → List Float → Bool
one_at_most_zero f = one (λ (p : Float). le p (zero_f f))

abbrev pub one_nan : List Float → Bool
one_nan = one is_nan

-- the number of the first that has no root, counted from k: it is at most zero or NaN; 0 where all have one
unfoldable pub refused_pivot : Format → ℕ → List Float → ℕ
refused_pivot f k [] = 0
refused_pivot f k (p ∷ ps) = pick (le p (zero_f f) || is_nan p) k (refused_pivot f (suc k) ps)

-- 6 where a pivot is at most zero, 9 where one is NaN, and else the code that the numbers give
abbrev pub pivot_code : Format → List Float → ℕ → ℕ
pivot_code f pivots code = pick (one_at_most_zero f pivots) 6 (pick (one_nan pivots) 9 code)

-- the codes of a factor that stopped at a pivot
abbrev pub Stopped : ℕ → Type 0
Stopped code = (code ≡ 6) ⊎ (code ≡ 9)

-- ---- where steps stop

-- the steps r from pivot k on, over the old factor l of s numbers: they stop at the first pivot that has no root, and are whole where each has one

pub record Stops (f : Format) (l : List Float) (s k : ℕ) (pivots : List Float) (r : FactorAnswer) : Type 0 where
  pub code : r.code ≡ pivot_code f pivots 0
  pub pivot : r.pivot ≡ refused_pivot f k pivots
  pub full : length l ≡ s → length r.factor ≡ s
