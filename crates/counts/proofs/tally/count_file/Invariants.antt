-- After i rounds the first i records are counted.
use Rattle.float.proofs.Words.{true, ◌*◌, take}
use Rattle.float.specs.Width.{F}
use Rattle.record.specs.Layout.{answer_size}
use Rattle.counts.specs.Tally.{tally_of}
use Rattle.counts.specs.Adding.{Summed}
use Rattle.counts.proofs.tally.count_file.Given as goal

abbrev pub invariant-loop-r : goal.invariant-loop-r
invariant-loop-r l = Summed l.initial.counts (tally_of F (take (answer_size F * l.r-index) l.answers)) true l.counts
