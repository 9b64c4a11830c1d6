-- What the steps of a listing owe to each other. Definitions only.
use Rattle.std.specs.Prelude.{List, [], ◌∷◌, ◌++◌, map, ℕ, suc, ◌+◌, ◌≤◌, length}
use Rattle.listing.specs.Text.{decimal_of, fields_of, counts_line}
use Rattle.listing.specs.Page.{listing_most}

-- there is room for a text behind what is there
abbrev pub Room : List ℕ → List ℕ → Type 0
Room page text = length page + length text ≤ listing_most

-- what follows the name in a line of counts
unfoldable pub counts_end : List ℕ → List ℕ
counts_end counts = fields_of (map decimal_of counts) ++ (10 ∷ [])

-- a line for each row of counts, under numbers that follow each other
unfoldable pub block_of : ℕ → List (List ℕ) → List ℕ
block_of first [] = []
block_of first (row ∷ rows) = counts_line (decimal_of first) row ++ block_of (suc first) rows
