-- The loop leaves at each place the sum of its row.
use Rattle.float.proofs.Words.{◌≡◌, arith, length, rules}
use Rattle.matrix.proofs.Underway.{begun, stored_next, table_made}
use Rattle.matrix.proofs.shape.DenseMatrixN.times.Goals as goal

pub loop-r-init : goal.loop-r-init
loop-r-init g c = let l : length c.args.x ≡ g.row.N = search rules in begun _ _ _ l

pub loop-r-preserved : goal.loop-r-preserved
loop-r-preserved g c = stored_next _ _ c.loop-r.invariant (omega arith) c.row_times.ensures

pub returns : goal.returns
returns g c = table_made _ _ c.loop-r.invariant (omega arith)
