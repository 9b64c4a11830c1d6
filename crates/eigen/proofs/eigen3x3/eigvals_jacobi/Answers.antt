-- Past both tests the answer is that of the last state.
use Rattle.float.proofs.Judged.{stands}
use Rattle.eigen.specs.EigVals.{bare_end_of, eigvals_of}
use Rattle.eigen.proofs.eigen3x3.eigvals_jacobi.Goals as goal

pub returns : goal.returns
unfolding eigvals_of bare_end_of
returns c =
    rw (stands _ c.all_finite.ensures c.if-not-all_finite.false, ← c.work_values-w.ensures, stands _ c.all_finite-2.ensures c.if-not-all_finite-2.false)
    (rw (c.sort3.ensures, c.is_settled.ensures))
