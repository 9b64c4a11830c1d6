-- Every list of an answer has its numbers: a rotation makes six and nine, an order moves them; and three values of a finite diagonal are finite in any order.
use Rattle.float.proofs.Words.{◌≡◌, refl, sym, ap, ◌∙◌, Bool, true, List, ℕ, ◌*◌, ◌<◌, arith, length, Float, Format}
use Rattle.float.specs.Sign.{finite, all_finite}
use Rattle.float.proofs.Finite.{at-finite}
use Rattle.matrix.specs.Places.{at}
use Rattle.matrix.specs.Square.{exchange_of}
use Rattle.matrix.proofs.Tables.{length-tabulate}
use Rattle.jacobi.specs.Order.{Ranked, swapped, ascending}
use Rattle.jacobi.proofs.Run.{run_keeps}
use Rattle.jacobi.proofs.Moves.{moved_finite, ordered_keeps, ordered3_keeps}
use Rattle.jacobi.proofs.Sorted.{below3}
use Rattle.eigen.specs.Eigen3x3.{State, settled_of, next_matrix, next_vectors, step_of, run_of, start_of, last_of, watched_last_of, diagonal, ranked_of}
use Rattle.eigen.specs.EigVals.{BareState, bare_last_of, alone, nothing_swapped, sort3_of}
use Rattle.eigen.specs.Eigen2x2.{not_below, axes_of, solved2}
use Rattle.eigen.proofs.Watched.{watched_ends}
use Rattle.eigen.proofs.Bare.{same_run}
use Rattle.eigen.proofs.Moved.{same_permutation, values_moved}

-- ---- the last state

abbrev pub Filled : State → Type 0
Filled s = (length s.matrix ≡ 6) × (length s.vectors ≡ 9)

pub last_filled : (f : Format) (a : List Float) → length a ≡ 6 → Filled (last_of f a)
unfolding run_of step_of next_matrix next_vectors
last_filled f a n = run_keeps (step_of f) (λ (s : State). settled_of f s.matrix) Filled (λ s _. (refl, refl)) 25 (start_of f a) (n, refl)

pub watched_filled : (f : Format) (a : List Float) → length a ≡ 6 → Filled (watched_last_of f a).state
watched_filled f a n = rw (watched_ends f a) (last_filled f a n)

pub bare-filled : (f : Format) (a : List Float) → length a ≡ 6 → length (bare_last_of f a).matrix ≡ 6
bare-filled f a n = ap (λ (s : BareState). length s.matrix) (sym (same_run f 25 (start_of f a))) ∙ (last_filled f a n).0

-- ---- what is put in order

-- n values and a matrix of size n
abbrev pub FullAxes : ℕ → Ranked (List Float) → Type 0
FullAxes n w = (length w.values ≡ n) × (length w.carried ≡ n * n)

swapped_full : (n : ℕ) (wrong : Float → Float → Bool) (i j : ℕ) (w : Ranked (List Float)) → FullAxes n w → FullAxes n (swapped n wrong (exchange_of n) i j w)
swapped_full n wrong i j w h = (length-tabulate n _, length-tabulate (n * n) _)

pub ranked_full : (s : State) → Filled s → FullAxes 3 (ranked_of s)
unfolding ranked_of
ranked_full s h = ordered3_keeps 3 ascending (exchange_of 3) (FullAxes 3) (swapped_full 3 ascending) _ (refl, h.1)

pub solved_full : (f : Format) (a : List Float) → FullAxes 2 (solved2 f a)
unfolding solved2 axes_of
solved_full f a = ordered_keeps 2 not_below (exchange_of 2) (FullAxes 2) (swapped_full 2 not_below) 0 1 _ (refl, refl)

pub sort_full : (x : List Float) → length x ≡ 3 → length (sort3_of x) ≡ 3
sort_full x n = ordered3_keeps 3 ascending nothing_swapped (λ (w : Ranked (Unit {0})). length w.values ≡ 3) (λ i j w h. refl) (alone x) n

-- ---- finite values

module _ (x : List Float) (n : length x ≡ 6) (e : all_finite x ≡ true) where
  pub diagonal-finite : (c : ℕ) → c < 3 → finite (at (diagonal x) c) ≡ true
  diagonal-finite =
      below3 (λ (c : ℕ). finite (at (diagonal x) c) ≡ true) (at-finite x e 0 (omega arith)) (at-finite x e 2 (omega arith)) (at-finite x e 5 (omega arith))

  pub sort_finite : all_finite (sort3_of (diagonal x)) ≡ true
  sort_finite = moved_finite (values_moved (diagonal x)) diagonal-finite (sort_full (diagonal x) refl)

pub ranked-finite : (s : State) → Filled s → all_finite s.matrix ≡ true → all_finite (ranked_of s).values ≡ true
ranked-finite s h e = moved_finite (same_permutation s) (diagonal-finite s.matrix h.0 e) (ranked_full s h).0
