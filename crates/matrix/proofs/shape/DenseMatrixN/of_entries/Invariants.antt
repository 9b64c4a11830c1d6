use Rattle.float.proofs.Words.{ℕ, ◌%◌, ◌/◌, Float}
use Rattle.matrix.proofs.Underway.{Underway}
use Rattle.matrix.proofs.shape.DenseMatrixN.of_entries.Given as goal

-- the numbers before i are those of the closure
abbrev pub invariant-loop-i : goal.invariant-loop-i
invariant-loop-i g l =
    Underway (λ (k : ℕ) (y : Float). goal.G-post g l.g (k % g.row.N) (k / g.row.N) y) g.row.S l.i l.fn.self.«data» l.x-items
