-- The loop leaves at each place what the closure gave for it.
use Rattle.float.proofs.Words.{◌≡◌, ◌∙◌, arith, length, rules}
use Rattle.matrix.proofs.Moves.{square_made}
use Rattle.matrix.proofs.Stored.{square_numbers, square_known}
use Rattle.matrix.proofs.Underway.{begun, stored_next}
use Rattle.matrix.proofs.shape.DenseMatrixN.of_entries.Goals as goal

pub loop-i-init : goal.loop-i-init
loop-i-init g c = let l : length c.args.self.«data» ≡ g.row.S = search rules in begun _ _ _ l

pub loop-i-preserved : goal.loop-i-preserved
loop-i-preserved g c = stored_next _ _ c.loop-i.invariant (omega arith) c.g.ensures

pub returns : goal.returns
returns g c =
    let u = c.loop-i.invariant in
    let s = square_numbers g.row.N g.row.S c.args.self.square in
    λ v same.
    square_known _ c.args.self.square
    (square_made g.row.N v _ (u.full ∙ s) (λ i h row column. same _ _ _ row column (u.made i (omega (arith, s)))))
