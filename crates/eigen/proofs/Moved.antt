-- The values of an answer and its vectors are those worked out, moved by one permutation, whatever the comparisons choose: each exchange moves both.
use Rattle.float.proofs.Words.{List, arith, Float, Format}
use Rattle.jacobi.specs.Order.{Ranked}
use Rattle.jacobi.specs.Moved.{Permutation, Moved, ColumnsFollow}
use Rattle.jacobi.proofs.Moves.{columns_carried, nothing_said, ordered_moves, ordered3_moves}
use Rattle.eigen.specs.Eigen3x3.{State, rank_of, ranked_of}
use Rattle.eigen.specs.EigVals.{alone, nothing_swapped, sort3_of}
use Rattle.eigen.specs.Eigen2x2.{axes_of, solved2}
use Rattle.eigen.specs.Ordered.{diagonal_axes, rotation_axes}

pub rank_moves : (w : Ranked (List Float)) → Moved 3 (ColumnsFollow 3) w (rank_of w)
rank_moves w = ordered3_moves (columns_carried 3) _ (omega arith) w

pub same_permutation : (s : State) → Moved 3 (ColumnsFollow 3) (diagonal_axes s) (ranked_of s)
unfolding ranked_of
same_permutation s = rank_moves (diagonal_axes s)

pub same_permutation2 : (f : Format) (a : List Float) → Moved 2 (ColumnsFollow 2) (rotation_axes f a) (solved2 f a)
unfolding solved2 axes_of
same_permutation2 f a = ordered_moves (columns_carried 2) _ 0 1 (omega arith) (omega arith) _

pub values_moved : (x : List Float) → Moved 3 (λ (g : Permutation 3) (u v : Unit {0}). Unit {0}) (alone x) (alone (sort3_of x))
values_moved x = ordered3_moves (nothing_said 3 nothing_swapped) _ (omega arith) (alone x)
