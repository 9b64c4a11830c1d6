-- The 2x2 call: one two-sided rotation. Definitions only.
use Rattle.std.specs.Prelude.{Bool, false, not, List, [], ◌∷◌, ◌++◌, ℕ, Float}
use Rattle.std.specs.Float.{Format}
use Rattle.std.specs.Float.Ieee.{neg}
use Rattle.float.specs.Judged.{judged_call}
use Rattle.matrix.specs.Places.{zeros, at}
use Rattle.matrix.specs.Square.{mat2, Mat2}
use Rattle.svd.specs.Polar.{two_sided_of, blind_sides}
use Rattle.svd.specs.Order.{Factors, order2_of}
use Rattle.svd.specs.declared.polar.TwoSided.{TwoSided}
use Rattle.svd.specs.declared.svd2x2.Svd2.{Svd2}

-- the answer of a call, with its code
pub record Svd2Answer : Type 0 where
  pub code : ℕ
  pub settled : Bool
  pub values : List Float
  pub u : Mat2
  pub v : Mat2

-- what a call that is not refused hands out
abbrev pub whole_svd2 : Svd2 → Svd2Answer
whole_svd2 x = record { code = 0; settled = x.settled; values = x.values; u = x.u; v = x.v }

-- the turn by cosine c and sine s as columns (c, -s) and (s, c)
abbrev pub turn2 : Float → Float → List Float
turn2 c s = c ∷ neg s ∷ s ∷ c ∷ []

-- A11, A21, A12, A22 are at 0, 1, 2, 3
abbrev pub sides2_of : Format → List Float → TwoSided
sides2_of f a = two_sided_of f (at a 0) (at a 1) (at a 2) (at a 3)

unfoldable pub factors2_of : TwoSided → Factors
factors2_of r = order2_of r.d1 r.d2 (turn2 r.cl r.sl) (turn2 r.cr r.sr)

-- ---- the answer

abbrev pub refused_svd2 : Format → ℕ → Svd2Answer
refused_svd2 f k = record { code = k; settled = false; values = zeros f 2; u = mat2 (zeros f 4); v = mat2 (zeros f 4) }

-- the numbers worked out: the values, U and V
abbrev pub numbers2_of : Factors → List Float
numbers2_of w = w.values ++ (w.carried.u ++ w.carried.v)

-- the mark: its rotation is not blind
abbrev pub answer2_of : Bool → Factors → Svd2Answer
answer2_of blind w = record { code = 0; settled = not blind; values = w.values; u = mat2 w.carried.u; v = mat2 w.carried.v }

-- the answer to a, whose factors are w
unfoldable pub end2_of : Format → List Float → Bool → Factors → Svd2Answer
end2_of f a blind w = judged_call (refused_svd2 f) a (numbers2_of w) (answer2_of blind w)

unfoldable pub svd2_of : Format → List Float → Svd2Answer
svd2_of f a = let r = sides2_of f a in end2_of f a (blind_sides f r) (factors2_of r)
