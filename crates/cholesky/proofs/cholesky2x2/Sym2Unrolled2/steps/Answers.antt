-- Each pivot step either hands its root on or stops the factor.
use Rattle.float.specs.Width.{F}
use Rattle.float.proofs.Words.{arith}
use Rattle.cholesky.proofs.Steps.{returned, first2, second2, whole2}
use Rattle.cholesky.proofs.cholesky2x2.Sym2Unrolled2.steps.Goals as goal

pub returns-in_err-self : goal.returns-in_err-self
returns-in_err-self c = rw (returned _ _ c.from_residual.ensures.1) (first2 F _ _ _ c.in_err-self.ensures)

pub returns-in_err-self-2 : goal.returns-in_err-self-2
returns-in_err-self-2 c =
    rw (returned _ _ c.from_residual-in_err-self-2.ensures.1)
    (second2 F c.args.a.data c.args.self.now.data _ _ (omega arith) c.in_ok-self.ensures c.in_err-self-2.ensures)

pub returns : goal.returns
returns c = whole2 F c.args.a.data c.args.self.now.data _ _ (omega arith) c.in_ok-self.ensures c.in_ok-self-2.ensures
