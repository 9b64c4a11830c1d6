-- The loop keeps `RootLoop`: q is the whole root of the digits taken so far. After as many passes as a number has digits all of m * hid is taken.
use Rattle.float.proofs.Words.{lit<}
use Rattle.float.proofs.Loops.{digit-one, digit-zero}
use Rattle.float.proofs.root.whole_root.Goals as goal
use Rattle.float.proofs.root.whole_root.Goals.{then-odd-left, else-odd-left}

pub loop-preserved : goal.loop-preserved
loop-preserved c = let s = c.loop.invariant in
    let go = c.loop-test.true in
    elim c.if-odd-left.branch [
      | then-odd-left w ↦ rw (w.q-is, w.left-is) (digit-one _ _ _ _ _ _ _ (lit< tt) s go w.if-odd-left.true)
      | else-odd-left w ↦ rw (w.q-is, w.left-is) (digit-zero _ _ _ _ _ _ _ (lit< tt) s go w.if-odd-left.false)
    ]
