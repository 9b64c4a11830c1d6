-- What a tally counts. Each count is of one cell: the records with a code in the row of their kind, those of them with code 0 and a mark, or so many
-- rotations, and the foreign records. Definitions only.
use Rattle.std.specs.Prelude.{Bool, not, ◌&&◌, List, [], ◌∷◌, ◌++◌, map, ℕ, zero, suc, ◌+◌, ◌*◌, eqb, length}
use Rattle.float.specs.Choice.{pick}
use Rattle.kinds.specs.Table.{Kind, kinds, kind_numbered}
use Rattle.counts.specs.Known.{codes, marks, most_turns, foreign_of}
use Rattle.counts.specs.declared.known.Head.{Head}

-- ---- cells

pub data Cell : Type 0 where
  -- a row and a code
  coded : ℕ → ℕ → Cell
  -- a row and a mark
  marked : ℕ → ℕ → Cell
  -- a row and a number of rotations
  turned : ℕ → ℕ → Cell
  foreign : Cell

-- a record's row is the number of its kind; all kinds that the table does not have share row 0
abbrev pub row_of : Head → ℕ
row_of h = (kind_numbered h.kind).number

-- whether a record with this head is counted in a cell
unfoldable pub counted_in : Cell → Head → Bool
counted_in (coded row code) h = not (foreign_of h) && (eqb (row_of h) row && eqb h.code code)
counted_in (marked row mark) h = not (foreign_of h) && (eqb h.code 0 && (eqb (row_of h) row && eqb h.mark mark))
counted_in (turned row n) h = not (foreign_of h) && (eqb h.code 0 && (eqb (row_of h) row && eqb h.turns n))
counted_in foreign h = foreign_of h

-- ---- all cells, in the order of the counts

-- 0, 1, .. of n numbers
abbrev pub up_to : ℕ → List ℕ
up_to zero = []
up_to (suc n) = up_to n ++ (n ∷ [])

abbrev pub row_numbers : List ℕ
row_numbers = up_to (suc (length kinds))

-- the rows of the kinds that count rotations
abbrev pub turning_in : List Kind → List ℕ
turning_in [] = []
turning_in (k ∷ ks) = pick k.counts (k.number ∷ turning_in ks) (turning_in ks)

abbrev pub turning : List ℕ
turning = turning_in kinds

abbrev pub joined : List (List Cell) → List Cell
joined [] = []
joined (c ∷ cs) = c ++ joined cs

-- a row: its codes, then its marks
abbrev pub row_cells : ℕ → List Cell
row_cells k = map (coded k) codes ++ map (marked k) marks

-- a number of rotations: the rows that count them
abbrev pub turn_cells : ℕ → List Cell
turn_cells n = map (λ (k : ℕ). turned k n) turning

abbrev pub cells : List Cell
cells = joined (map row_cells row_numbers) ++ (joined (map turn_cells (up_to (suc most_turns))) ++ (foreign ∷ []))

-- ---- where the count of each cell stands

-- the place of a number in a list; the list's length where it has none
abbrev pub place_in : ℕ → List ℕ → ℕ
place_in n [] = 0
place_in n (m ∷ ms) = pick (eqb n m) 0 (suc (place_in n ms))

-- the counts of one row
abbrev pub columns : ℕ
columns = length codes + length marks

abbrev pub turns_at : ℕ
turns_at = columns * length row_numbers

abbrev pub foreign_at : ℕ
foreign_at = turns_at + length turning * suc most_turns

-- the bytes left over stand behind the counts of the cells, and are the last
abbrev pub left_at : ℕ
left_at = suc foreign_at

abbrev pub tally_size : ℕ
tally_size = suc left_at

abbrev pub place_of : Cell → ℕ
place_of (coded row code) = columns * row + place_in code codes
place_of (marked row mark) = columns * row + (length codes + place_in mark marks)
place_of (turned row n) = turns_at + (length turning * n + place_in row turning)
place_of foreign = foreign_at
