-- The sign of a column that is changed twice is back: the sign bit chooses the same way both times.
use Rattle.float.proofs.Words.{◌≡◌, refl, Bool, true, false, List, ℕ, ◌*◌, length, Float}
use Rattle.float.specs.Choice.{pick}
use Rattle.float.specs.Sign.{sign_bit_of}
use Rattle.matrix.specs.Square.{negate_of}
use Rattle.matrix.proofs.Moves.{negate_twice}
use Rattle.svd.specs.Order.{signed_column}

pub signed_twice : (n i : ℕ) (x : Float) (u : List Float) → length u ≡ n * n → signed_column n i x (signed_column n i x u) ≡ u
unfolding signed_column
signed_twice n i x u e = go (sign_bit_of x)
  where
    go : (t : Bool) → pick t (negate_of n i (pick t (negate_of n i u) u)) (pick t (negate_of n i u) u) ≡ u
    go true = negate_twice n i u e
    go false = refl
