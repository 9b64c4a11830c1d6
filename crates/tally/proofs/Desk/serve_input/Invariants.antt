-- After each round the program is where rounds lead to, and ready for the next.
use Rattle.std.proofs.Common.{◌-◌}
use Rattle.stdio.specs.Calls.{most_calls}
use Rattle.tally.specs.States.{standing}
use Rattle.tally.proofs.Rounds.{Led}
use Rattle.tally.proofs.Desk.serve_input.Given as goal

abbrev pub invariant-loop-round : goal.invariant-loop-round
invariant-loop-round l = Led l.self.answers l.self.counts (standing (most_calls - l._round) l.self.kept)
