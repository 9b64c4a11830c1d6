-- When a listing is refused, as rows: the first row whose condition holds gives the code. Definitions only.
use Rattle.std.specs.Prelude.{List, [], ◌∷◌, ℕ, ◌^◌, ◌<◌, get_or}
use Rattle.matrix.specs.Rows.{Row, on, WrongLength, TooShort}
use Rattle.counts.specs.Cells.{tally_size}
use Rattle.listing.specs.Page.{records_in, totals_of, listing_most}

-- a total, or the number of all records, passes 64 bits
abbrev pub TotalTooLarge : List ℕ → Type 0
TotalTooLarge t = ((i : ℕ) → get_or (records_in t ∷ totals_of t) i 0 < 2 ^ 64) → ⊥

abbrev pub listing_rows : List ℕ → List ℕ → List Row
listing_rows t out = on 2 (TooShort out listing_most) ∷ on 1 (WrongLength t tally_size) ∷ on 14 (TotalTooLarge t) ∷ []
