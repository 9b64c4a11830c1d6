-- In each round the sum is that of the totals so far.
use Rattle.float.proofs.Words.{◌≡◌, take}
use Rattle.counts.specs.Tally.{total}
use Rattle.listing.proofs.sums.records.Given as goal

abbrev pub invariant-loop-n : goal.invariant-loop-n
invariant-loop-n l = l.sum ≡ total (take l.n-index l.n-items)
