-- What came so far stands at the front, and no more than there is room for. The measure is the room left.
use Rattle.std.specs.Prelude.{◌≡◌, ◌-◌, ◌≤◌, length, take}
use Rattle.std.specs.Io.KnownBytes.{Consumes}
use Rattle.row_probe.proofs.streams.read_full.Given as goal

abbrev pub invariant-loop-done : goal.invariant-loop-done
invariant-loop-done o l = (l.done ≤ length l.buf) × (length l.buf ≡ length l.initial.buf)
    × Consumes (o.R.Read.remaining l.initial.from) (o.R.Read.remaining l.from) (take l.done l.buf)

abbrev pub decreases-loop-done : goal.decreases-loop-done
decreases-loop-done o l = length l.buf - l.done
