-- Every list of a state and of its factors has its numbers: each rotation writes all nine, and neither a sign nor an exchange changes how many there are.
use Rattle.float.proofs.Words.{◌≡◌, refl, List, ℕ, ◌*◌, length, Float, Format}
use Rattle.float.specs.Sign.{sign_bit_of}
use Rattle.float.proofs.Choice.{chosen}
use Rattle.matrix.specs.Square.{negate_of}
use Rattle.matrix.proofs.Tables.{length-tabulate}
use Rattle.jacobi.specs.Order.{swapped, descending}
use Rattle.jacobi.proofs.Run.{run_keeps}
use Rattle.jacobi.proofs.Moves.{ordered_keeps, ordered3_keeps}
use Rattle.svd.specs.Order.{Factors, signed_column, exchange_both, order_of, order2_of}
use Rattle.svd.specs.Svd3x3.{State, settled_of, step_of, run_of, start_of, last_of, factors_of}
use Rattle.svd.specs.Svd2x2.{factors2_of}
use Rattle.svd.specs.declared.polar.TwoSided.{TwoSided}

-- ---- the states

pub record FullState (s : State) : Type 0 where
  pub matrix : length s.matrix ≡ 9
  pub u : length s.u ≡ 9
  pub v : length s.v ≡ 9

step_full : (f : Format) (s : State) → FullState (step_of f s)
unfolding step_of
step_full f s = record { matrix = refl; u = refl; v = refl }

pub last_full : (f : Format) (a : List Float) → length a ≡ 9 → FullState (last_of f a)
unfolding run_of
last_full f a n =
    run_keeps (step_of f) (λ (s : State). settled_of f s.matrix) FullState (λ s _. step_full f s) 25 (start_of f a) (record { matrix = n; u = refl; v = refl })

-- ---- the factors, n values and two matrices of size n

pub record FullFactors (n : ℕ) (w : Factors) : Type 0 where
  pub values : length w.values ≡ n
  pub u : length w.carried.u ≡ n * n
  pub v : length w.carried.v ≡ n * n

pub signed_full : (n i : ℕ) (x : Float) (u : List Float) → length u ≡ n * n → length (signed_column n i x u) ≡ n * n
unfolding signed_column
signed_full n i x u h = chosen (λ (v : List Float). length v ≡ n * n) (sign_bit_of x) (negate_of n i u) u (length-tabulate (n * n) _) h

swapped_full : (n i j : ℕ) (w : Factors) → FullFactors n w → FullFactors n (swapped n descending (exchange_both n) i j w)
swapped_full n i j w h = record { values = length-tabulate n _; u = length-tabulate (n * n) _; v = length-tabulate (n * n) _ }

pub factors_full : (s : State) → FullState s → FullFactors 3 (factors_of s)
unfolding factors_of order_of
factors_full s h =
    ordered3_keeps 3 _ (exchange_both 3) (FullFactors 3) (swapped_full 3) _
    (record { values = refl; u = signed_full 3 2 _ _ (signed_full 3 1 _ _ (signed_full 3 0 _ _ h.u)); v = h.v })

pub factors2_full : (r : TwoSided) → FullFactors 2 (factors2_of r)
unfolding factors2_of order2_of
factors2_full r =
    ordered_keeps 2 _ (exchange_both 2) (FullFactors 2) (swapped_full 2) 0 1 _
    (record { values = refl; u = signed_full 2 1 _ _ (signed_full 2 0 _ _ refl); v = refl })
