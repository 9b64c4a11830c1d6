-- When the calls on a tally are refused, as rows: the first row whose condition holds gives the code. Definitions only.
use Rattle.std.specs.Prelude.{List, [], ◌∷◌, ℕ, ◌+◌, ◌^◌, ◌<◌, get_or}
use Rattle.std.specs.Float.{Format}
use Rattle.matrix.specs.Rows.{Row, on, WrongLength}
use Rattle.record.specs.Layout.{answer_size}
use Rattle.counts.specs.Cells.{tally_size}
use Rattle.counts.specs.Tally.{tally_of}

-- a count of the sum passes 64 bits
abbrev pub TooLarge : List ℕ → List ℕ → Type 0
TooLarge xs ys = ((i : ℕ) → get_or xs i 0 + get_or ys i 0 < 2 ^ 64) → ⊥

abbrev pub clear_rows : List ℕ → List Row
clear_rows counts = on 2 (WrongLength counts tally_size) ∷ []

abbrev pub record_rows : Format → List ℕ → List ℕ → List Row
record_rows f counts r = on 2 (WrongLength counts tally_size) ∷ on 1 (WrongLength r (answer_size f)) ∷ on 14 (TooLarge counts (tally_of f r)) ∷ []

abbrev pub file_rows : Format → List ℕ → List ℕ → List Row
file_rows f counts s = on 2 (WrongLength counts tally_size) ∷ on 14 (TooLarge counts (tally_of f s)) ∷ []

abbrev pub add_rows : List ℕ → List ℕ → List Row
add_rows counts more = on 2 (WrongLength counts tally_size) ∷ on 1 (WrongLength more tally_size) ∷ on 14 (TooLarge counts more) ∷ []
