-- A place is answered by the tests of its row and its column; the smaller of the two is the row in the triangle.
use Rattle.float.proofs.Words.{arith}
use Rattle.matrix.proofs.Answered.{within, outside}
use Rattle.matrix.proofs.Placing.{packed_ordered}
use Rattle.matrix.proofs.shape.DenseMatrixSymN.index_linear.Goals as goal

pub returns-then-c : goal.returns-then-c
returns-then-c g c =
    rw (c.triangular_number.ensures, c.min.ensures, c.max.ensures, packed_ordered _ _) (within _ _ _ _ _ c.if-r.true c.if-c.true)

pub returns-else-r : goal.returns-else-r
returns-else-r g c = outside _ _ _ _ _ (λ h. omega arith)
