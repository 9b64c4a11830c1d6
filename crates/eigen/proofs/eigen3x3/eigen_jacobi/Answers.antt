-- Past both tests the answer is that of the last state.
use Rattle.float.proofs.Judged.{stands}
use Rattle.eigen.specs.Eigen3x3.{end_of, eigen_of}
use Rattle.eigen.proofs.eigen3x3.eigen_jacobi.Goals as goal

pub returns : goal.returns
unfolding eigen_of end_of
returns c =
    rw (
      stands _ c.all_finite.ensures c.if-not-all_finite.false,
      ← c.work-w.ensures,
      stands _ (rw c.rank-x.ensures at c.both_finite.ensures) c.if-not-both_finite.false,
    )
    (rw (c.rank-x.ensures, c.is_settled.ensures))
