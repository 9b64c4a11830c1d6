-- What is said of the largest of three pairs. Definitions only.
use Rattle.std.specs.Prelude.{◌≡◌, true, false, ◌<◌, Float}
use Rattle.std.specs.Float.Ieee.{lt}
use Rattle.jacobi.specs.Pairs.{index_k}
use Rattle.jacobi.specs.declared.pairs.Pair.{Pair}
use Rattle.jacobi.specs.declared.pairs.Pair.TheVariants.{P12, P13, P23}
use Rattle.jacobi.specs.declared.pairs.OffDiag.{OffDiag}

-- the number of a pair among three
abbrev pub size_at : Pair → Float → Float → Float → Float
size_at P12 x12 x13 x23 = x12
size_at P13 x12 x13 x23 = x13
size_at P23 x12 x13 x23 = x23

-- the pairs stand in the order P12, P13, P23: the third index falls
abbrev pub Earlier : Pair → Pair → Type 0
Earlier p q = index_k q < index_k p

-- o is the largest of three numbers and the first of equals: it has its pair's number, no number is above it, and every earlier one is below it
pub record Largest (x12 x13 x23 : Float) (o : OffDiag) : Type 0 where
  pub own : o.size ≡ size_at o.pair x12 x13 x23
  pub most : (p : Pair) → lt o.size (size_at p x12 x13 x23) ≡ false
  pub first : (p : Pair) → Earlier p o.pair → lt (size_at p x12 x13 x23) o.size ≡ true
