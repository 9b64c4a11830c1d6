-- The number names one of the columns, or it is not below the size.
use Rattle.float.proofs.Words.{ap, lt-ltb, le-ltb}
use Rattle.matrix.specs.Answer.{done}
use Rattle.matrix.specs.Indexed.{flip_column_of}
use Rattle.matrix.specs.declared.shape.DenseMatrixN.{DenseMatrixN}
use Rattle.matrix.proofs.shape.DenseMatrixN.flip_column.Goals as goal

pub returns-then-i : goal.returns-then-i
unfolding flip_column_of
returns-then-i g c = rw (lt-ltb _ _ c.if-i.true) (ap (λ (m : DenseMatrixN g.row.N g.row.S). done m.«data») c.negated.ensures)

pub returns-else-i : goal.returns-else-i
unfolding flip_column_of
returns-else-i g c = rw (le-ltb _ _ c.if-i.false)
