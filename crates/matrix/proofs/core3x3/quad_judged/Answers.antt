-- Where all numbers are finite the form is judged, and else refused.
use Rattle.float.proofs.Judged.{stands, refuses}
use Rattle.matrix.specs.Arithmetic.{quad_judged_of}
use Rattle.matrix.proofs.core3x3.quad_judged.Goals as goal

pub returns-then-three_finite : goal.returns-then-three_finite
unfolding quad_judged_of
returns-then-three_finite c = rw (stands _ c.three_finite.ensures c.if-three_finite.true, ← c.quad.ensures) c.judge.ensures

pub returns-else-three_finite : goal.returns-else-three_finite
unfolding quad_judged_of
returns-else-three_finite c = rw (refuses _ c.three_finite.ensures c.if-three_finite.false)
