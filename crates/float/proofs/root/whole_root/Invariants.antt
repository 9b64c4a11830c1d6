-- The loop keeps `RootLoop`: q is the whole root of the digits taken so far. After as many passes as a number has digits all of m * hid is taken.
use Rattle.float.proofs.Words.{prec, hid}
use Rattle.float.specs.Width.{F}
use Rattle.float.proofs.Loops.{RootLoop}
use Rattle.float.proofs.root.whole_root.Given as goal

abbrev pub invariant-loop : goal.invariant-loop
invariant-loop l = RootLoop (hid F) (prec F) l.m l.counter l.rest l.q l.left
