-- The text with the counts that are still to come stays the same in each round.
use Rattle.float.proofs.Words.{◌≡◌, ◌++◌, drop}
use Rattle.listing.specs.Putting.{counts_end}
use Rattle.listing.proofs.text.put_counts.Given as goal

abbrev pub invariant-loop-n : goal.invariant-loop-n
invariant-loop-n l = l.page.bytes ++ counts_end (drop l.n-index l.counts) ≡ l.initial.page.bytes ++ counts_end l.counts
