-- After each round the program is where rounds lead to, and ready for those that may follow.
use Rattle.std.proofs.Common.{◌-◌}
use Rattle.stdio.specs.Calls.{most_calls}
use Rattle.answers.specs.States.{standing}
use Rattle.answers.proofs.Rounds.{Led}
use Rattle.answers.proofs.Desk.serve_input.Given as goal

abbrev pub invariant-loop-round : goal.invariant-loop-round
invariant-loop-round l = Led l.self.requests (standing (most_calls - l._round) l.self.progress)
