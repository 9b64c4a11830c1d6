-- A place that is answered lies in the list.
use Rattle.float.proofs.Words.{arith}
use Rattle.matrix.proofs.Answered.{found_packed, found, inside_is, refused_too}
use Rattle.matrix.proofs.Stored.{packed_numbers}
use Rattle.matrix.proofs.shape.DenseMatrixSymN.index.Goals as goal

pub returns-in_err-i : goal.returns-in_err-i
returns-in_err-i g c = rw c.from_residual.ensures (refused_too _ _ _ _ _ _ c.in_err-i.was c.index_linear.ensures)

pub bounds-self-i : goal.bounds-self-i
bounds-self-i g c = rw (packed_numbers g.row.N g.row.S c.args.self.packed) (found_packed _ _ _ c.in_ok-i.was c.index_linear.ensures)

pub offset_bounds-self-i : goal.offset_bounds-self-i
offset_bounds-self-i g c = omega (arith, packed_numbers g.row.N g.row.S c.args.self.packed, found_packed _ _ _ c.in_ok-i.was c.index_linear.ensures)

pub returns : goal.returns
returns g c = let f = found _ _ _ _ c.in_ok-i.was c.index_linear.ensures in rw (f.is, inside_is f)
