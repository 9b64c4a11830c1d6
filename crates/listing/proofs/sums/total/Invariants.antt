-- In each round the sum is that of the rows so far.
use Rattle.float.proofs.Words.{◌≡◌, map, ℕ, ◌+◌, ◌*◌, ◌^◌, ◌<◌, get_or}
use Rattle.counts.specs.Cells.{up_to, columns}
use Rattle.counts.specs.Tally.{total}
use Rattle.listing.proofs.sums.total.Given as goal

abbrev pub invariant-loop-row : goal.invariant-loop-row
invariant-loop-row l = (l.sum < 2 ^ 64) × (l.sum ≡ total (map (λ (k : ℕ). get_or l.counts (columns * k + l.column) 0) (up_to l.row)))
