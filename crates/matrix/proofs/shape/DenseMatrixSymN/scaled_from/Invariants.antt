use Rattle.float.proofs.Words.{◌≡◌, ℕ, Float, mul}
use Rattle.float.specs.Width.{F}
use Rattle.matrix.specs.Places.{at}
use Rattle.matrix.proofs.Underway.{Underway}
use Rattle.matrix.proofs.shape.DenseMatrixSymN.scaled_from.Given as goal

-- the numbers before x are multiplied
abbrev pub invariant-loop-x : goal.invariant-loop-x
invariant-loop-x g l = Underway (λ (k : ℕ) (y : Float). y ≡ mul F l.c (at l.fn.b.«data» k)) g.row.S l.x-index l.fn.b.«data» l.x-items
