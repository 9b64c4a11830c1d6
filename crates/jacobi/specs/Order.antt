-- Values put in order two at a time, and what belongs to each value carried along with it. Definitions only.
use Rattle.std.specs.Prelude.{Bool, List, ℕ, Float}
use Rattle.std.specs.Float.Ieee.{lt}
use Rattle.float.specs.Choice.{pick}
use Rattle.matrix.specs.Places.{at, tabulate}
use Rattle.matrix.specs.Square.{exchanged}

-- values, and what is carried along
pub record Ranked (C : Type 0) : Type 0 where
  pub values : List Float
  pub carried : C

-- n values; `wrong` says of two values that they stand in the wrong order, and `swap i j` exchanges what belongs to the places i and j
module _ {C : Type 0} (n : ℕ) (wrong : Float → Float → Bool) (swap : ℕ → ℕ → C → C) where
  abbrev pub swapped : ℕ → ℕ → Ranked C → Ranked C
  swapped i j w = record { values = tabulate n (λ (c : ℕ). at w.values (exchanged i j c)); carried = swap i j w.carried }

  -- the places i and j compared, and exchanged where they are wrong
  unfoldable pub ordered : ℕ → ℕ → Ranked C → Ranked C
  ordered i j w = pick (wrong (at w.values i) (at w.values j)) (swapped i j w) w

  -- the crate's three comparisons
  abbrev pub ordered3 : Ranked C → Ranked C
  ordered3 w = ordered 1 2 (ordered 0 2 (ordered 0 1 w))

-- ---- the two directions: what stands in the wrong order

abbrev pub ascending : Float → Float → Bool
ascending x y = lt y x

abbrev pub descending : Float → Float → Bool
descending x y = lt x y
