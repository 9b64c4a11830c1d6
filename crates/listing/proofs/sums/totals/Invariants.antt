-- In each round the totals so far are stored, and each of them fits.
use Rattle.listing.specs.Page.{total_of}
use Rattle.listing.proofs.Totals.{Held}
use Rattle.listing.proofs.sums.totals.Given as goal

abbrev pub invariant-loop-column : goal.invariant-loop-column
invariant-loop-column l = Held (total_of l.counts) l.column l.sum-items
