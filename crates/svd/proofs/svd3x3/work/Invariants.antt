-- As many rotations are made as rounds, and what is left of the run, from the state at hand, leaves what the whole run leaves.
use Rattle.float.proofs.Words.{◌≡◌, ◌-◌}
use Rattle.float.specs.Width.{F}
use Rattle.svd.specs.Svd3x3.{of_working, watched_of, watched_last_of}
use Rattle.svd.proofs.svd3x3.work.Given as goal

abbrev pub invariant-loop-round : goal.invariant-loop-round
invariant-loop-round l =
    record {
      counted : l.w.made.count ≡ l._round;
      left : watched_of F (25 - l._round) (of_working l.w) ≡ watched_last_of F l.fn.a.«data»;
    }
