-- What is written never passes the end, and each call takes one from those that may follow.
use Rattle.std.proofs.Common.{◌≤◌, length}
use Rattle.tally.proofs.calls.put.Given as goal

abbrev pub invariant-loop-w : goal.invariant-loop-w
invariant-loop-w l = l.w.written ≤ length l.out

abbrev pub decreases-loop-w : goal.decreases-loop-w
decreases-loop-w l = l.w.calls
