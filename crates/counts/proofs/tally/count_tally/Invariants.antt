-- After i rounds the first i counts of the other tally are added.
use Rattle.float.proofs.Words.{true}
use Rattle.counts.specs.Adding.{Summed}
use Rattle.counts.proofs.Fronts.{front}
use Rattle.counts.proofs.tally.count_tally.Given as goal

abbrev pub invariant-loop-at : goal.invariant-loop-at
invariant-loop-at l = Summed l.initial.counts (front l.at l.more) true l.counts
