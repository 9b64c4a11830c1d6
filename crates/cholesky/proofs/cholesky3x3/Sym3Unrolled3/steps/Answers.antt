-- Each pivot step either hands its root on or stops the factor. Where the last one is refused L32 is written once more, and stays what it is.
use Rattle.std.proofs.Common.{Err}
use Rattle.float.specs.Width.{F}
use Rattle.float.proofs.Words.{◌∙◌, ap, arith}
use Rattle.cholesky.specs.Factor.{factored}
use Rattle.cholesky.proofs.Steps.{returned, first3, second3, third3, whole3, same}
use Rattle.cholesky.proofs.cholesky3x3.Sym3Unrolled3.steps.Goals as goal

pub returns-in_err-self : goal.returns-in_err-self
returns-in_err-self c = rw (returned _ _ c.from_residual.ensures.1) (first3 F _ _ _ c.in_err-self.ensures)

pub returns-in_err-self-2 : goal.returns-in_err-self-2
returns-in_err-self-2 c =
    rw (returned _ _ c.from_residual-in_err-self-2.ensures.1)
    (second3 F c.args.a.data c.args.self.now.data _ _ (omega arith) c.in_ok-self.ensures c.in_err-self-2.ensures)

pub returns-in-Err : goal.returns-in-Err
returns-in-Err c =
    ap (factored (Err c.in-Err.e)) (same _ 4 _ c.canonical.ensures)
    ∙ third3 F c.args.a.data c.args.self.now.data _ _ _ (omega arith) c.in_ok-self.ensures c.in_ok-self-2.ensures c.in-Err.ensures

pub returns : goal.returns
returns c = whole3 F c.args.a.data c.args.self.now.data _ _ _ (omega arith) c.in_ok-self.ensures c.in_ok-self-2.ensures c.in-Ok.ensures
