-- The 2x2 call: one rotation. Definitions only.
use Rattle.std.specs.Prelude.{Bool, false, not, List, [], ◌∷◌, ◌++◌, ℕ, Float}
use Rattle.std.specs.Float.{Format}
use Rattle.std.specs.Float.Ieee.{add, sub, mul, lt, neg}
use Rattle.float.specs.Judged.{judged_call}
use Rattle.matrix.specs.Places.{zeros, at}
use Rattle.matrix.specs.Square.{Mat2, mat2, exchange_of}
use Rattle.jacobi.specs.Rotation.{rotation_of}
use Rattle.jacobi.specs.Blind.{blind_of}
use Rattle.jacobi.specs.Order.{Ranked, ordered}
use Rattle.jacobi.specs.declared.rotation.Rotation.{Rotation}
use Rattle.eigen.specs.declared.eigen2x2.Eigen2.{Eigen2}
use Rattle.eigen.specs.declared.eigen2x2.Axes2.{Axes2}

-- two values, and the vectors by columns
abbrev pub axes2 : Ranked (List Float) → Axes2
axes2 x = record { values = x.values; vectors = mat2 x.carried }

abbrev pub of_axes2 : Axes2 → Ranked (List Float)
of_axes2 x = record { values = x.values; carried = x.vectors.«data» }

-- A11, A12, A22 are at 0, 1, 2
abbrev pub turn2_of : Format → List Float → Rotation
turn2_of f a = rotation_of f (at a 1) (at a 0) (at a 2)

abbrev pub blind2_of : Format → List Float → Bool
blind2_of f a = blind_of f (at a 1) (at a 0) (at a 2)

abbrev pub lower_of : Format → Rotation → List Float → Float
lower_of f r a = sub f (at a 0) (mul f r.t (at a 1))

abbrev pub upper_of : Format → Rotation → List Float → Float
upper_of f r a = add f (at a 2) (mul f r.t (at a 1))

-- the columns (c, -s) and (s, c) stay with their values only where the first value is below the second: a tie exchanges them
abbrev pub not_below : Float → Float → Bool
not_below x y = not (lt x y)

unfoldable pub axes_of : Rotation → Float → Float → Ranked (List Float)
axes_of r e1 e2 = ordered 2 not_below (exchange_of 2) 0 1 (record { values = e1 ∷ e2 ∷ []; carried = r.c ∷ neg r.s ∷ r.s ∷ r.c ∷ [] })

unfoldable pub solved2 : Format → List Float → Ranked (List Float)
solved2 f a = axes_of (turn2_of f a) (lower_of f (turn2_of f a) a) (upper_of f (turn2_of f a) a)

-- ---- the answer

pub record Eigen2Answer : Type 0 where
  pub code : ℕ
  pub settled : Bool
  pub values : List Float
  pub vectors : Mat2

-- what a call hands out, with the code of one that is not refused
abbrev pub whole_eigen2 : Eigen2 → Eigen2Answer
whole_eigen2 x = record { code = 0; settled = x.settled; values = x.values; vectors = x.vectors }

abbrev pub refused2 : Format → ℕ → Eigen2Answer
refused2 f k = record { code = k; settled = false; values = zeros f 2; vectors = mat2 (zeros f 4) }

-- the numbers worked out: values and vectors in order
abbrev pub numbers2_of : Ranked (List Float) → List Float
numbers2_of x = x.values ++ x.carried

-- the mark: its rotation is not blind
abbrev pub answer2_of : Bool → Ranked (List Float) → Eigen2Answer
answer2_of blind x = record { code = 0; settled = not blind; values = x.values; vectors = mat2 x.carried }

-- the answer to a, whose axes are x
unfoldable pub end2_of : Format → List Float → Bool → Ranked (List Float) → Eigen2Answer
end2_of f a blind x = judged_call (refused2 f) a (numbers2_of x) (answer2_of blind x)

unfoldable pub eigen2_of : Format → List Float → Eigen2Answer
eigen2_of f a = end2_of f a (blind2_of f a) (solved2 f a)
