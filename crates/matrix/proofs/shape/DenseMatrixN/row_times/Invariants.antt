use Rattle.float.proofs.Words.{◌≡◌, ℕ, mul}
use Rattle.float.specs.Width.{F}
use Rattle.matrix.specs.Places.{at}
use Rattle.matrix.specs.Square.{entry_of}
use Rattle.matrix.specs.Arithmetic.{sum_of}
use Rattle.matrix.proofs.shape.DenseMatrixN.row_times.Given as goal

-- the sum over the columns before c
abbrev pub invariant-loop-c : goal.invariant-loop-c
invariant-loop-c g l = l.sum ≡ sum_of F l.c (λ (c : ℕ). mul F (entry_of g.row.N l.self.«data» l.r c) (at l.x c))
