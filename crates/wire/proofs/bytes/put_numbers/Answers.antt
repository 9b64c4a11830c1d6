-- The two tests together ask for room without a sum; with room the numbers are stored, and without it nothing is.
use Rattle.float.proofs.Words.{◌≡◌, sym, ◌∙◌, arith, length, drop-length}
use Rattle.float.specs.Width.{F}
use Rattle.wire.specs.Bytes.{number_bytes_of}
use Rattle.wire.proofs.Parts.{no_room, placed_stored}
use Rattle.wire.proofs.Numbers.{number_more, numbers_length}
use Rattle.wire.proofs.bytes.put_numbers.Goals as goal
use Rattle.wire.proofs.bytes.put_numbers.Goals.{then-at-out-via-then-at-out, then-at-out-via-else-at-out+then-xs-out}

pub returns-then-at-out : goal.returns-then-at-out
returns-then-at-out c =
    let a = c.args in
    let n = numbers_length F a.xs.now in
    elim c.then-at-out.branch [
      | then-at-out-via-then-at-out w ↦ sym (no_room a.at (number_bytes_of F a.xs.now) a.out.now (omega arith))
      | then-at-out-via-else-at-out+then-xs-out w ↦ sym (no_room a.at (number_bytes_of F a.xs.now) a.out.now (omega arith))
    ]

pub loop-i-preserved : goal.loop-i-preserved
loop-i-preserved c =
    let l = c.loop-i in
    let a = c.args in
    let size : length c.put.new.out ≡ length a.out.now = omega arith in
    (size, (rw c.put.ensures (number_more F l.out a.xs.now a.at l.i (omega arith))) ∙ l.invariant.1)

pub returns : goal.returns
unfolding number_bytes_of
returns c =
    let l = c.loop-i in
    let a = c.args in
    let n = numbers_length F a.xs.now in
    let e : l.i ≡ length a.xs.now = omega arith in
    (rw (e, drop-length) at l.invariant.1) ∙ placed_stored a.at (number_bytes_of F a.xs.now) a.out.now (omega arith)
