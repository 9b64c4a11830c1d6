-- Both lengths passed, the numbers that are read are the input's first three.
use Rattle.float.proofs.Words.{refl, le-leb, lt-leb}
use Rattle.matrix.specs.Arithmetic.{sym_mul_of}
use Rattle.matrix.proofs.core3x3.Sym3.mul.Goals as goal

pub returns-then-y-lt3 : goal.returns-then-y-lt3
unfolding sym_mul_of
returns-then-y-lt3 c = rw (lt-leb 3 _ c.if-y-lt3.true) (refl, refl)

pub returns-in_default : goal.returns-in_default
unfolding sym_mul_of
returns-in_default c = rw (le-leb 3 _ c.if-y-lt3.false, lt-leb 3 _ c.in_default.ensures.cases) (refl, refl)

pub returns : goal.returns
unfolding sym_mul_of
returns c =
    let read = c.in-Some.ensures.cases in
    rw (le-leb 3 _ c.if-y-lt3.false, le-leb 3 _ read.enough, ← read.same) (rw c.product.ensures at c.put.ensures)
