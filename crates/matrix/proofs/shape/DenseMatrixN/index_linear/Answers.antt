-- A place is answered by the tests of its row and its column.
use Rattle.float.proofs.Words.{arith}
use Rattle.matrix.proofs.Answered.{within, outside}
use Rattle.matrix.proofs.shape.DenseMatrixN.index_linear.Goals as goal

pub returns-then-c : goal.returns-then-c
returns-then-c g c = within _ _ _ _ _ c.if-r.true c.if-c.true

pub returns-else-r : goal.returns-else-r
returns-else-r g c = outside _ _ _ _ _ (λ h. omega arith)
