-- Both lengths passed, the numbers that are read are the whole input.
use Rattle.float.proofs.Words.{refl, eq-eqb, ne_eqb}
use Rattle.matrix.specs.Arithmetic.{mul_of}
use Rattle.matrix.proofs.shape.DenseMatrixN.mul.Goals as goal

pub returns-then-y : goal.returns-then-y
unfolding mul_of
returns-then-y g c = rw (ne_eqb _ _ c.if-y.true) (refl, refl)

pub returns-in_default : goal.returns-in_default
unfolding mul_of
returns-in_default g c = rw (eq-eqb _ _ c.if-y.false, ne_eqb _ _ c.in_default.ensures.cases) (refl, refl)

pub returns : goal.returns
unfolding mul_of
returns g c =
    let read = c.in-Some.ensures.cases in
    rw (eq-eqb _ _ c.if-y.false, eq-eqb _ _ read.long, ← read.same) (rw c.product.ensures at c.put.ensures)
