-- The numbers that are stored, with the others stored behind them, stay the same in each round.
use Rattle.float.proofs.Words.{◌≡◌, length, drop, sets}
use Rattle.float.specs.Width.{F}
use Rattle.wire.specs.Bytes.{place_of, number_bytes_of}
use Rattle.wire.proofs.bytes.put_numbers.Given as goal

abbrev pub invariant-loop-i : goal.invariant-loop-i
invariant-loop-i l =
    (length l.out ≡ length l.fn.out)
    × (sets l.out (place_of F l.at l.i) (number_bytes_of F (drop l.i l.xs)) ≡ sets l.fn.out l.at (number_bytes_of F l.xs))
