-- A place that is answered lies in the list.
use Rattle.float.proofs.Words.{arith}
use Rattle.matrix.proofs.Answered.{found_packed, found, inside_is, refused_too}
use Rattle.matrix.proofs.Stored.{packed_numbers}
use Rattle.matrix.proofs.shape.DenseMatrixSymN.index_mut.Goals as goal

pub returns-in_default : goal.returns-in_default
returns-in_default g c = refused_too _ _ _ _ _ _ c.in_default.is c.index_linear.ensures

pub bounds-data-i : goal.bounds-data-i
bounds-data-i g c = rw (packed_numbers g.row.N g.row.S c.args.self.packed) (found_packed _ _ _ c.in-Some.is c.index_linear.ensures)

pub offset_bounds-data-i : goal.offset_bounds-data-i
offset_bounds-data-i g c = omega (arith, packed_numbers g.row.N g.row.S c.args.self.packed, found_packed _ _ _ c.in-Some.is c.index_linear.ensures)

pub returns : goal.returns
returns g c = let f = found _ _ _ _ c.in-Some.is c.index_linear.ensures in rw (f.is, inside_is f)
