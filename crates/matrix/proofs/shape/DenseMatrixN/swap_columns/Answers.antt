-- Columns are answered by the tests of a place.
use Rattle.float.proofs.Words.{ap, ◌∙◌, arith}
use Rattle.matrix.specs.Answer.{done}
use Rattle.matrix.specs.declared.shape.DenseMatrixN.{DenseMatrixN}
use Rattle.matrix.proofs.Answered.{within, outside}
use Rattle.matrix.proofs.shape.DenseMatrixN.swap_columns.Goals as goal

pub returns-then-j : goal.returns-then-j
returns-then-j g c =
    ap (λ (m : DenseMatrixN g.row.N g.row.S). done m.«data») c.exchanged.ensures ∙ within _ _ _ _ _ c.if-i.true c.if-j.true

pub returns-else-i : goal.returns-else-i
returns-else-i g c = outside _ _ _ _ _ (λ h. omega arith)
