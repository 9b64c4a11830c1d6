-- Where all numbers are finite the product is judged, and else refused.
use Rattle.float.proofs.Judged.{stands, refuses}
use Rattle.matrix.specs.Arithmetic.{sym_product_of}
use Rattle.matrix.proofs.core3x3.Sym3.product.Goals as goal

pub returns-then-both_finite : goal.returns-then-both_finite
unfolding sym_product_of
returns-then-both_finite c = rw (stands _ c.both_finite.ensures c.if-both_finite.true, ← c.times.ensures) c.judge_all.ensures

pub returns-else-both_finite : goal.returns-else-both_finite
unfolding sym_product_of
returns-else-both_finite c = rw (refuses _ c.both_finite.ensures c.if-both_finite.false)
