-- Values moved by one permutation, with what is carried along; and values in order. Definitions only.
use Rattle.std.specs.Prelude.{◌≡◌, Bool, true, List, ℕ, suc, ◌<◌, Float}
use Rattle.std.specs.Float.Ieee.{le}
use Rattle.matrix.specs.Places.{at}
use Rattle.matrix.specs.Square.{entry_of}
use Rattle.jacobi.specs.Order.{Ranked}

-- ---- permutations of the places below n

pub record Permutation (n : ℕ) : Type 0 where
  pub to : ℕ → ℕ
  pub back : ℕ → ℕ
  pub to_below : (c : ℕ) → c < n → to c < n
  pub back_below : (c : ℕ) → c < n → back c < n
  pub to_back : (c : ℕ) → to (back c) ≡ c
  pub back_to : (c : ℕ) → back (to c) ≡ c

-- The values of y are those of x by one permutation: what stands at c stood at `to c`. `Follows` says of what is carried that it makes the same move.
pub record Moved {C : Type 0} (n : ℕ) (Follows : Permutation n → C → C → Type 0) (x y : Ranked C) : Type 0 where
  pub by : Permutation n
  pub values : (c : ℕ) → c < n → at y.values c ≡ at x.values (by.to c)
  pub carried : Follows by x.carried y.carried

-- the columns of a matrix that is carried
abbrev pub ColumnsFollow : (n : ℕ) → Permutation n → List Float → List Float → Type 0
ColumnsFollow n g x y = (r c : ℕ) → r < n → c < n → entry_of n y r c ≡ entry_of n x r (g.to c)

-- ---- each of n values and the next stand as they should

abbrev pub Sorted : (Float → Float → Bool) → ℕ → List Float → Type 0
Sorted right n x = (c : ℕ) → suc c < n → right (at x c) (at x (suc c)) ≡ true

-- compared as numbers: `le` for values that ascend, and this for values that descend
abbrev pub at_least : Float → Float → Bool
at_least x y = le y x
