-- The pieces of a listing: what the code puts is what the definition has in its place.
use Rattle.float.proofs.Words.{◌≡◌, ap, ◌∙◌, List, ℕ, suc, ◌+◌, ◌-◌, ◌*◌, ◌/◌, ◌≤◌, ◌<◌, ◌++◌, append_assoc, zero-add, arith}
use Rattle.float.proofs.Words.{length, length-append, length-take, length-drop, take, drop}
use Rattle.kinds.specs.Table.{kinds}
use Rattle.std.specs.Simd.{first_chunks}
use Rattle.counts.specs.Known.{most_turns}
use Rattle.counts.specs.Cells.{columns, turning, turns_at, foreign_at, tally_size}
use Rattle.listing.specs.Text.{decimal_of, counts_line, lines_of}
use Rattle.listing.specs.Putting.{block_of}
use Rattle.listing.specs.Page.{heading, turns_heading, kind_line, turns_line, kind_lines, turns_lines, other_line, total_line, records_line, foreign_line}
use Rattle.listing.specs.Page.{left_line, rows_text, sums_text, turns_text, listing_of}
use Rattle.wire.proofs.Parts.{part_in}
use Rattle.listing.proofs.Blocks.{block_lines, lines_same}

pub kinds_block : (t : List ℕ) → block_of 1 (first_chunks columns (length kinds) (take (turns_at - columns) (drop columns t))) ≡ kind_lines t
unfolding kind_lines
kinds_block t =
    let s : List ℕ = take (turns_at - columns) (drop columns t) in
    let same : (i : ℕ) → i < length kinds → counts_line (decimal_of (1 + i)) (take columns (drop (columns * i) s)) ≡ kind_line t i =
    λ i h.
    let number : 1 + i ≡ suc i = omega arith in
    let place : columns + columns * i ≡ columns * suc i = omega arith in
    rw (number, part_in t columns (turns_at - columns) columns (columns * i) (omega arith), place) in
    block_lines columns 1 s (length kinds) ∙ ap lines_of (lines_same _ (kind_line t) (length kinds) same)

pub turns_block : (t : List ℕ) → block_of 0 (first_chunks (length turning) (most_turns + 1) (take (foreign_at - turns_at) (drop turns_at t))) ≡ turns_lines t
unfolding turns_lines
turns_block t =
    let s : List ℕ = take (foreign_at - turns_at) (drop turns_at t) in
    let same : (i : ℕ) → i < most_turns + 1 → counts_line (decimal_of (0 + i)) (take (length turning) (drop (length turning * i) s)) ≡ turns_line t i =
    λ i h. rw (zero-add i, part_in t turns_at (foreign_at - turns_at) (length turning) (length turning * i) (omega arith)) in
    block_lines (length turning) 0 s (most_turns + 1) ∙ ap lines_of (lines_same _ (turns_line t) (most_turns + 1) same)

-- the rows of the kinds, as the chunks of their part of the counts, and the numbers of rotations
module _ (t : List ℕ) (size : length t ≡ tally_size) (chunks : List (List ℕ)) where
  pub kinds_put : chunks ≡ first_chunks columns (length (take (turns_at - columns) (drop columns t)) / columns) (take (turns_at - columns) (drop columns t))
      → block_of 1 chunks ≡ kind_lines t
  kinds_put e =
      let s : List ℕ = take (turns_at - columns) (drop columns t) in
      let long : length s ≡ turns_at - columns = rw (length-take, length-drop) (omega arith) in
      ap (block_of 1) (e ∙ ap (λ (n : ℕ). first_chunks columns (n / columns) s) long) ∙ kinds_block t

  pub turns-put : chunks ≡ first_chunks (length turning) (length (take (foreign_at - turns_at) (drop turns_at t)) / length turning)
      (take (foreign_at - turns_at) (drop turns_at t)) → block_of 0 chunks ≡ turns_lines t
  turns-put e =
      let s : List ℕ = take (foreign_at - turns_at) (drop turns_at t) in
      let long : length s ≡ foreign_at - turns_at = rw (length-take, length-drop) (omega arith) in
      ap (block_of 0) (e ∙ ap (λ (n : ℕ). first_chunks (length turning) (n / length turning) s) long) ∙ turns_block t

-- ---- one behind the other

pub rows_put : (t page : List ℕ) → (((page ++ heading) ++ kind_lines t) ++ other_line t) ++ total_line t ≡ page ++ rows_text t
unfolding rows_text
rows_put t page = simp append_assoc

pub sums_put : (t page : List ℕ) → ((page ++ records_line t) ++ foreign_line t) ++ left_line t ≡ page ++ sums_text t
unfolding sums_text
sums_put t page = simp append_assoc

pub turns_put : (t page : List ℕ) → (page ++ turns_heading) ++ turns_lines t ≡ page ++ turns_text t
unfolding turns_text
turns_put t page = simp append_assoc

pub listing_put : (t : List ℕ) → (rows_text t ++ sums_text t) ++ turns_text t ≡ listing_of t
unfolding listing_of
listing_put t = append_assoc (rows_text t) (sums_text t) (turns_text t)

-- ---- lengths

pub rows-length : (t : List ℕ) → length (rows_text t) ≡ length heading + (length (kind_lines t) + (length (other_line t) + length (total_line t)))
unfolding rows_text
rows-length t = simp length-append

pub sums_length : (t : List ℕ) → length (sums_text t) ≡ length (records_line t) + (length (foreign_line t) + length (left_line t))
unfolding sums_text
sums_length t = simp length-append

pub turns_length : (t : List ℕ) → length (turns_text t) ≡ length turns_heading + length (turns_lines t)
unfolding turns_text
turns_length t = simp length-append

pub listing_length : (t : List ℕ) → length (listing_of t) ≡ length (rows_text t) + (length (sums_text t) + length (turns_text t))
unfolding listing_of
listing_length t = simp length-append
