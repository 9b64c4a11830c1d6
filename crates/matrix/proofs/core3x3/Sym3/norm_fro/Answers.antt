-- Where all numbers are finite the norm is judged, and else refused.
use Rattle.float.proofs.Judged.{stands, refuses}
use Rattle.matrix.specs.Arithmetic.{norm_fro_of}
use Rattle.matrix.proofs.core3x3.Sym3.norm_fro.Goals as goal

pub returns-then-all_finite : goal.returns-then-all_finite
unfolding norm_fro_of
returns-then-all_finite c = rw (stands _ c.all_finite.ensures c.if-all_finite.true, ← c.norm.ensures) c.judge.ensures

pub returns-else-all_finite : goal.returns-else-all_finite
unfolding norm_fro_of
returns-else-all_finite c = rw (refuses _ c.all_finite.ensures c.if-all_finite.false)
