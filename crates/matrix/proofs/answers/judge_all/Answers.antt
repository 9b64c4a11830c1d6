-- A way for each answer of the finite test.
use Rattle.float.proofs.Judged.{stands, refuses}
use Rattle.matrix.proofs.answers.judge_all.Goals as goal

pub returns-then-all_finite : goal.returns-then-all_finite
returns-then-all_finite g c = rw (stands _ c.all_finite.ensures c.if-all_finite.true)

pub returns-else-all_finite : goal.returns-else-all_finite
returns-else-all_finite g c = rw (refuses _ c.all_finite.ensures c.if-all_finite.false)
