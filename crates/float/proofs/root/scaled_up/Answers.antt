-- Each pass multiplies by four, and no pass is made from the leading digit's weight on, so n stays below four times that.
use Rattle.float.proofs.Words.{lit≤}
use Rattle.float.proofs.Loops.{once_more}
use Rattle.float.proofs.root.scaled_up.Goals as goal

pub loop-n-preserved : goal.loop-n-preserved
loop-n-preserved c = once_more _ _ _ _ _ (lit≤ tt) c.loop-n.invariant c.loop-n-test.true
