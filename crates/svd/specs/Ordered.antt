-- What is said of the order of an answer: its values descend, and U and V are moved with them. Definitions only.
use Rattle.std.specs.Prelude.{◌≡◌, true, false, List, ℕ, ◌<◌, Float}
use Rattle.std.specs.Float.{Format}
use Rattle.std.specs.Float.Ieee.{le}
use Rattle.float.specs.Constants.{zero_f}
use Rattle.float.specs.Sign.{sign_bit_of}
use Rattle.matrix.specs.Places.{at}
use Rattle.jacobi.specs.Moved.{Permutation, Moved, ColumnsFollow, Sorted, at_least}
use Rattle.svd.specs.Pairs.{entry}
use Rattle.svd.specs.Order.{Columns, Factors, signed3_of, signed2_of}
use Rattle.svd.specs.Svd3x3.{last_of}
use Rattle.svd.specs.Svd2x2.{turn2, sides2_of}

-- the columns of U and those of V make the move
abbrev pub BothFollow : (n : ℕ) → Permutation n → Columns → Columns → Type 0
BothFollow n g x y = ColumnsFollow n g x.u y.u × ColumnsFollow n g x.v y.v

-- compared as numbers; no zero among them is -0
pub record Descending (f : Format) (n : ℕ) (x : List Float) : Type 0 where
  pub unsigned : (c : ℕ) → c < n → sign_bit_of (at x c) ≡ false
  pub from_zero : (c : ℕ) → c < n → le (zero_f f) (at x c) ≡ true
  pub descends : Sorted at_least n x

-- y is x by one permutation, with its values descending
pub record InOrder (f : Format) (n : ℕ) (x y : Factors) : Type 0 where
  pub moved : Moved n (BothFollow n) x y
  pub values : Descending f n y.values

-- ---- what the calls put in order: magnitudes, the signed U, and V

abbrev pub last_signed : Format → List Float → Factors
last_signed f a = let s = last_of f a in signed3_of (entry s.matrix 0 0) (entry s.matrix 1 1) (entry s.matrix 2 2) s.u s.v

abbrev pub last2_signed : Format → List Float → Factors
last2_signed f a = let r = sides2_of f a in signed2_of r.d1 r.d2 (turn2 r.cl r.sl) (turn2 r.cr r.sr)
