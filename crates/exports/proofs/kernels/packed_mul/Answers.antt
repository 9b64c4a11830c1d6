-- Both lengths passed, the call on the matrix answers.
use Rattle.float.proofs.Words.{refl, le-leb, lt-leb, eq-eqb, ne_eqb}
use Rattle.exports.specs.Kernels.{packed_mul_of}
use Rattle.exports.proofs.Refused.{handed_on}
use Rattle.exports.proofs.kernels.packed_mul.Goals as goal

pub returns-then-y-lt3 : goal.returns-then-y-lt3
unfolding packed_mul_of
returns-then-y-lt3 c = rw (lt-leb 3 _ c.if-y-lt3.true) (refl, refl)

pub returns-in_err-data : goal.returns-in_err-data
unfolding packed_mul_of
returns-in_err-data c =
    let read = c.in_err-data.ensures in
    rw (le-leb 3 _ c.if-y-lt3.false, ne_eqb _ 6 read.0, handed_on _ _ c.from_residual.ensures.1, read.1) (refl, refl)

pub returns : goal.returns
unfolding packed_mul_of
returns c =
    let read = c.in_ok-data.ensures in
    rw (le-leb 3 _ c.if-y-lt3.false, eq-eqb _ 6 read.0) (rw read.1 at c.mul.ensures)
