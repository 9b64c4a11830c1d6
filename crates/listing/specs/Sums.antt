-- What the sums of a listing owe. Definitions only.
use Rattle.std.specs.Prelude.{Option, Some, None, List, ℕ, ◌^◌, ltb}
use Rattle.float.specs.Choice.{pick}
use Rattle.counts.specs.Tally.{all_fit}
use Rattle.listing.specs.Page.{totals_of}

-- a sum that fits, or none
unfoldable pub sum_in : ℕ → Option ℕ
sum_in n = pick (ltb n (2 ^ 64)) (Some n) None

-- the totals, where all of them fit
abbrev pub totals_in : List ℕ → Option (List ℕ)
totals_in t = pick (all_fit (totals_of t)) (Some (totals_of t)) None
