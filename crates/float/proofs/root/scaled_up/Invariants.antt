-- Each pass multiplies by four, and no pass is made from the leading digit's weight on, so n stays below four times that.
use Rattle.float.proofs.Words.{◌-◌, ◌/◌, prec, hid}
use Rattle.float.specs.Width.{F}
use Rattle.float.proofs.Loops.{Up}
use Rattle.float.proofs.root.scaled_up.Given as goal

abbrev pub invariant-loop-n : goal.invariant-loop-n
invariant-loop-n l = Up (hid F) (prec F / 2) l.m l.n l.j

abbrev pub decreases-loop-n : goal.decreases-loop-n
decreases-loop-n l = prec F / 2 - l.j
