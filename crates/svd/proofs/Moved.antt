-- From the magnitudes, the signed U, and V, all three are moved by one permutation, whatever the comparisons choose: each exchange moves all three.
use Rattle.float.proofs.Words.{List, ℕ, arith, Float}
use Rattle.jacobi.specs.Moved.{Moved}
use Rattle.jacobi.proofs.Moves.{Carries, columns_carried, ordered_moves, ordered3_moves}
use Rattle.svd.specs.Order.{signed3_of, signed2_of, exchange_both, order_of, order2_of}
use Rattle.svd.specs.Ordered.{BothFollow}

both_carried : (n : ℕ) → Carries n (exchange_both n) (BothFollow n)
both_carried n =
    let c = columns_carried n in
    record {
      unmoved = (λ x. (c.unmoved x.u, c.unmoved x.v));
      swaps = (λ i j p q x. (c.swaps i j p q x.u, c.swaps i j p q x.v));
      then = (λ g h x y z p q. (c.then g h x.u y.u z.u p.0 q.0, c.then g h x.v y.v z.v p.1 q.1));
    }

pub same_permutation : (a b c : Float) (u v : List Float) → Moved 3 (BothFollow 3) (signed3_of a b c u v) (order_of a b c u v)
unfolding order_of
same_permutation a b c u v = ordered3_moves (both_carried 3) _ (omega arith) _

pub same_permutation2 : (a b : Float) (u v : List Float) → Moved 2 (BothFollow 2) (signed2_of a b u v) (order2_of a b u v)
unfolding order2_of
same_permutation2 a b u v = ordered_moves (both_carried 2) _ 0 1 (omega arith) (omega arith) _
