-- What is said of the order of an answer: its values ascend, and the vectors are moved with them. Definitions only.
use Rattle.std.specs.Prelude.{List, [], ◌∷◌, ℕ, Float}
use Rattle.std.specs.Float.{Format}
use Rattle.std.specs.Float.Ieee.{neg, le}
use Rattle.jacobi.specs.Order.{Ranked}
use Rattle.jacobi.specs.Moved.{Permutation, Moved, ColumnsFollow, Sorted}
use Rattle.eigen.specs.Eigen3x3.{State, diagonal}
use Rattle.eigen.specs.EigVals.{alone}
use Rattle.eigen.specs.Eigen2x2.{turn2_of, lower_of, upper_of}

-- y is x by one permutation, with its values ascending, compared as numbers
pub record Ascended {C : Type 0} (n : ℕ) (Follows : Permutation n → C → C → Type 0) (x y : Ranked C) : Type 0 where
  pub moved : Moved n Follows x y
  pub values : Sorted le n y.values

-- values with their vectors, which make the same move
abbrev pub InOrder : (n : ℕ) → Ranked (List Float) → Ranked (List Float) → Type 0
InOrder n x y = Ascended n (ColumnsFollow n) x y

-- values alone
abbrev pub ValuesInOrder : ℕ → List Float → List Float → Type 0
ValuesInOrder n x y = Ascended n (λ (g : Permutation n) (u v : Unit {0}). Unit {0}) (alone x) (alone y)

-- ---- what the calls put in order

-- the diagonal of a state, and its vectors
abbrev pub diagonal_axes : State → Ranked (List Float)
diagonal_axes s = record { values = diagonal s.matrix; carried = s.vectors }

-- the two values of the rotation, and its columns
abbrev pub rotation_axes : Format → List Float → Ranked (List Float)
rotation_axes f a = let r = turn2_of f a in record { values = lower_of f r a ∷ upper_of f r a ∷ []; carried = r.c ∷ neg r.s ∷ r.s ∷ r.c ∷ [] }
