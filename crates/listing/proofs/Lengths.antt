-- How long texts are: a count has at most 20 digits, so no listing is longer than the least output that the call takes.
use Rattle.float.proofs.Words.{List, [], ◌∷◌, ℕ, zero, suc, ◌+◌, ◌-◌, ◌*◌, ◌≤◌, mul-suc, arith, length, length-append}
use Rattle.float.proofs.Words.{length-take, take, drop, get_or, mul-zero}
use Rattle.kinds.specs.Table.{kinds}
use Rattle.counts.specs.Known.{most_turns}
use Rattle.counts.specs.Cells.{columns, turning, turns_at, foreign_at, left_at}
use Rattle.listing.specs.Text.{most_digits, word_bytes, decimal_in, decimal_of, fields_of, counts_line}
use Rattle.std.specs.Simd.{first_chunks}
use Rattle.listing.specs.Putting.{counts_end, block_of}
use Rattle.listing.specs.Page.{heading, turns_heading, row_counts, totals_of, records_in, listing_of}
use Rattle.listing.specs.Page.{listing_most}
use Rattle.listing.proofs.Decimals.{digits_most, digits_below}
use Rattle.listing.proofs.Stores.{line_length}
use Rattle.listing.proofs.Pieces.{kinds_block, turns_block, rows-length, sums_length, turns_length, listing_length}

-- ---- lines

counts_most : (ns : List ℕ) → length (counts_end ns) ≤ 21 * length ns + 1
unfolding counts_end fields_of
counts_most [] = omega arith
counts_most (n ∷ ns) =
    let d = digits_most most_digits n in
    let r = counts_most ns in
    simp length-append (omega (arith, simp length-append at r))

pub line_most : (name ns : List ℕ) → length (counts_line name ns) ≤ length name + 21 * length ns + 1
line_most name ns = omega (arith, line_length name ns, counts_most ns)

-- under numbers of two digits at most
pub block_most : (w k first : ℕ) (s : List ℕ) → first + k ≤ 100 → length (block_of first (first_chunks w k s)) ≤ (3 + 21 * w) * k
unfolding block_of
block_most w zero first s h = rw (mul-zero (3 + 21 * w)) (omega arith)
block_most w (suc k) first s h =
    let d = digits_below 1 most_digits first (omega arith) in
    let l = line_most (decimal_of first) (take w s) in
    let n = length-take w s in
    let r = block_most w k (suc first) (drop w s) (omega arith) in
    rw (length-append, mul-suc) (omega arith)

-- ---- the whole

-- whatever the counts are
pub listing_fits : (t : List ℕ) → length (listing_of t) ≤ listing_most
unfolding heading turns_heading fields_of decimal_in
listing_fits t =
    let rows = rows-length t in
    let kind = rw (kinds_block t) at (block_most columns (length kinds) 1 (take (turns_at - columns) (drop columns t)) (omega arith)) in
    let row = length-take columns t in
    let other = line_most (word_bytes "other") (row_counts t 0) in
    let total = line_most (word_bytes "total") (totals_of t) in
    let sums = sums_length t in
    let records = line_most (word_bytes "records") (records_in t ∷ []) in
    let foreign = line_most (word_bytes "foreign") (get_or t foreign_at 0 ∷ []) in
    let left = line_most (word_bytes "left over") (get_or t left_at 0 ∷ []) in
    let turns = turns_length t in
    let lines = rw (turns_block t) at (block_most (length turning) (most_turns + 1) 0 (take (foreign_at - turns_at) (drop turns_at t)) (omega arith)) in
    omega (arith, listing_length t)
