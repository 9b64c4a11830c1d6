-- Both lengths passed, the call on the matrix answers.
use Rattle.float.proofs.Words.{refl, le-leb, lt-leb, eq-eqb, ne_eqb}
use Rattle.exports.specs.Kernels.{solve2_into}
use Rattle.exports.proofs.Refused.{handed_on}
use Rattle.exports.proofs.kernels.solve2.Goals as goal

pub returns-then-x-lt2 : goal.returns-then-x-lt2
unfolding solve2_into
returns-then-x-lt2 c = rw (lt-leb 2 _ c.if-x-lt2.true) (refl, refl)

pub returns-in_err-data : goal.returns-in_err-data
unfolding solve2_into
returns-in_err-data c =
    let read = c.in_err-data.ensures in
    rw (le-leb 2 _ c.if-x-lt2.false, ne_eqb _ 3 read.0, handed_on _ _ c.from_residual.ensures.1, read.1) (refl, refl)

pub returns : goal.returns
unfolding solve2_into
returns c =
    let read = c.in_ok-data.ensures in
    rw (le-leb 2 _ c.if-x-lt2.false, eq-eqb _ 3 read.0) (rw read.1 at c.cholesky_2x2_explicit_solve.ensures)
