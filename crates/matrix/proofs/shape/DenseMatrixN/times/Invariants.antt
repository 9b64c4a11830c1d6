use Rattle.float.proofs.Words.{◌≡◌, ℕ, Float, mul}
use Rattle.float.specs.Width.{F}
use Rattle.matrix.specs.Arithmetic.{sum_of}
use Rattle.matrix.specs.Places.{at}
use Rattle.matrix.specs.Square.{entry_of}
use Rattle.matrix.proofs.Underway.{Underway}
use Rattle.matrix.proofs.shape.DenseMatrixN.times.Given as goal

-- the sums of the rows before r
abbrev pub invariant-loop-r : goal.invariant-loop-r
invariant-loop-r g l =
    Underway (λ (k : ℕ) (y : Float). y ≡ sum_of F g.row.N (λ (c : ℕ). mul F (entry_of g.row.N l.self.«data» k c) (at l.x c))) g.row.N l.r l.fn.x l.sum-items
