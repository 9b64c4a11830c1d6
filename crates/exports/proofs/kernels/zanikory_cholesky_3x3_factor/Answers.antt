-- Both lengths passed, L takes what the kernel left of the old factor, and the pivot's place its number.
use Rattle.float.proofs.Words.{refl, eq-eqb, ne_eqb}
use Rattle.exports.specs.Kernels.{factor3_into}
use Rattle.exports.proofs.kernels.zanikory_cholesky_3x3_factor.Goals as goal

pub returns-in_default : goal.returns-in_default
unfolding factor3_into
returns-in_default c = rw (ne_eqb _ 6 c.in_default.ensures.0) (c.from.ensures, refl, refl)

pub returns-in_default-numbers : goal.returns-in_default-numbers
unfolding factor3_into
returns-in_default-numbers c =
    rw (eq-eqb _ 6 c.in-Ok.ensures.0, ne_eqb _ 6 c.in_default-numbers.ensures.0) (c.from-in_default-numbers.ensures, refl, refl)

pub returns : goal.returns
unfolding factor3_into
returns c =
    let l = c.in-Ok.ensures in
    let a = c.in-Ok-numbers.ensures in
    let e = rw (l.1, a.1) at c.cholesky_3x3_explicit_factor-r.ensures in
    rw (eq-eqb _ 6 l.0, eq-eqb _ 6 a.0, ← e) (c.factor_told.ensures.code, c.copy_from_slice.ensures.after, c.factor_told.ensures.number)
