-- The read is lent only what lies behind the kept bytes, so it leaves them.
use Rattle.float.proofs.Words.{subst⁻¹, ◌-◌, arith, take, length-take-le, take_at}
use Rattle.float.specs.Width.{F}
use Rattle.stdio.specs.declared.Outcome.{Outcome}
use Rattle.stdio.specs.Calls.{AtMost}
use Rattle.stdio.proofs.Writings.{ended_at_most}
use Rattle.tally.specs.Buffers.{room}
use Rattle.tally.proofs.calls.read.Goals as goal

pub returns : goal.returns
returns c =
    let a = c.args in
    record {
      kept = take_at (take a.have a.buf.now) _ a.have (length-take-le a.have a.buf.now (omega arith));
      most = subst⁻¹ (λ (o : Outcome). AtMost (room F - a.have) o) c.ended.ensures (ended_at_most _ _);
    }
