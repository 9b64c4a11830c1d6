-- The listing of a tally: a line for each row, the totals, and a line for each number of rotations. Definitions only.
use Rattle.std.specs.Prelude.{◌≡◌, Result, List, [], ◌∷◌, ◌++◌, map, ℕ, suc, ◌+◌, ◌*◌, eqb, leb, length, get_or, drop}
use Rattle.float.specs.Choice.{pick}
use Rattle.kinds.specs.Table.{kinds}
use Rattle.matrix.specs.Codes.{told}
use Rattle.matrix.specs.declared.codes.Refusal.{Refusal}
use Rattle.wire.specs.Bytes.{part}
use Rattle.counts.specs.Known.{codes, marks, most_turns}
use Rattle.counts.specs.Cells.{up_to, row_numbers, turning, columns, turns_at, foreign_at, left_at, tally_size}
use Rattle.counts.specs.Tally.{total, all_fit}
use Rattle.listing.specs.Text.{word_bytes, decimal_of, line_of, counts_line, lines_of}

-- ---- the numbers

-- the counts of a row, and of a number of rotations
abbrev pub row_counts : List ℕ → ℕ → List ℕ
row_counts t k = part (columns * k) columns t

abbrev pub turn_counts : List ℕ → ℕ → List ℕ
turn_counts t n = part (turns_at + length turning * n) (length turning) t

-- a column's sum over all rows
abbrev pub total_of : List ℕ → ℕ → ℕ
total_of t c = total (map (λ (k : ℕ). get_or t (columns * k + c) 0) row_numbers)

abbrev pub totals_of : List ℕ → List ℕ
totals_of t = map (total_of t) (up_to columns)

-- all records: each has one code, or is foreign
abbrev pub records_in : List ℕ → ℕ
records_in t = total (map (total_of t) (up_to (length codes))) + get_or t foreign_at 0

-- ---- the lines

abbrev pub mark_name : ℕ → List ℕ
mark_name m = pick (eqb m 1) (word_bytes "settled") (word_bytes "unsettled")

unfoldable pub heading : List ℕ
heading = line_of (word_bytes "kind") (map (λ (c : ℕ). word_bytes "code " ++ decimal_of c) codes ++ map mark_name marks)

unfoldable pub turns_heading : List ℕ
turns_heading = line_of (word_bytes "turns") (map (λ (k : ℕ). word_bytes "kind " ++ decimal_of k) turning)

-- the row of kind k + 1
abbrev pub kind_line : List ℕ → ℕ → List ℕ
kind_line t k = counts_line (decimal_of (suc k)) (row_counts t (suc k))

abbrev pub turns_line : List ℕ → ℕ → List ℕ
turns_line t n = counts_line (decimal_of n) (turn_counts t n)

unfoldable pub kind_lines : List ℕ → List ℕ
kind_lines t = lines_of (map (kind_line t) (up_to (length kinds)))

unfoldable pub turns_lines : List ℕ → List ℕ
turns_lines t = lines_of (map (turns_line t) (up_to (suc most_turns)))

abbrev pub other_line : List ℕ → List ℕ
other_line t = counts_line (word_bytes "other") (row_counts t 0)

abbrev pub total_line : List ℕ → List ℕ
total_line t = counts_line (word_bytes "total") (totals_of t)

abbrev pub records_line : List ℕ → List ℕ
records_line t = counts_line (word_bytes "records") (records_in t ∷ [])

abbrev pub foreign_line : List ℕ → List ℕ
foreign_line t = counts_line (word_bytes "foreign") (get_or t foreign_at 0 ∷ [])

abbrev pub left_line : List ℕ → List ℕ
left_line t = counts_line (word_bytes "left over") (get_or t left_at 0 ∷ [])

-- ---- the whole

unfoldable pub rows_text : List ℕ → List ℕ
rows_text t = heading ++ (kind_lines t ++ (other_line t ++ total_line t))

unfoldable pub sums_text : List ℕ → List ℕ
sums_text t = records_line t ++ (foreign_line t ++ left_line t)

unfoldable pub turns_text : List ℕ → List ℕ
turns_text t = turns_heading ++ turns_lines t

unfoldable pub listing_of : List ℕ → List ℕ
listing_of t = rows_text t ++ (sums_text t ++ turns_text t)

-- ---- the call

-- no listing is longer
abbrev pub listing_most : ℕ
listing_most = 4096

-- a code, and how many bytes are written
pub record Listed : Type 0 where
  pub code : ℕ
  pub size : ℕ

pub record Written : Type 0 where
  pub listed : Listed
  pub out : List ℕ

abbrev pub refused_with : ℕ → Listed
refused_with code = record { code = code; size = 0 }

abbrev pub refused_listing : ℕ → List ℕ → Written
refused_listing code out = record { listed = refused_with code; out = out }

-- 2 for too short an output, 1 for counts of the wrong number, 14 where a total passes 64 bits: nothing is written then
unfoldable pub written_of : List ℕ → List ℕ → Written
written_of t out =
    pick (leb listing_most (length out))
    (pick (eqb (length t) tally_size)
    (pick (all_fit (records_in t ∷ totals_of t))
    (record { listed = record { code = 0; size = length (listing_of t) }; out = listing_of t ++ drop (length (listing_of t)) out })
    (refused_listing 14 out))
    (refused_listing 1 out))
    (refused_listing 2 out)

-- what is told of an answer: 0 and the size, or the code of its refusal
abbrev pub listed_of : Result ℕ Refusal → Listed
listed_of r = told refused_with (λ (n : ℕ). record { code = 0; size = n }) r

-- what the call promises: the code and the size handed back, and the output at exit
abbrev pub Wrote : Written → Listed → List ℕ → Type 0
Wrote w listed out = (listed ≡ w.listed) × (out ≡ w.out)
