-- So many bytes of the front are taken, and no more than there are. The measure is the bytes left.
use Rattle.std.specs.Prelude.{◌-◌, ◌≤◌, length, take}
use Rattle.std.specs.Io.KnownBytes.{Appends}
use Rattle.row_probe.proofs.streams.write_all.Given as goal

abbrev pub invariant-loop-done : goal.invariant-loop-done
invariant-loop-done o l = (l.done ≤ length l.bytes) × Appends (o.W.Write.contents l.initial.to) (o.W.Write.contents l.to) (take l.done l.bytes)

abbrev pub decreases-loop-done : goal.decreases-loop-done
decreases-loop-done o l = length l.bytes - l.done
