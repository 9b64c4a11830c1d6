-- Each value of an answer is a value of the format: it is a number of the matrix that was given, or what an operation gave, and an operation gives no other.
use Rattle.float.proofs.Words.{◌≡◌, refl, subst, List, [], ◌∷◌, ℕ, zero, suc, arith, T, length, Float, Format, fits}
use lib.Ieee.Fits.{add-fits, sub-fits}
use Rattle.float.proofs.Judged.{by_call}
use Rattle.float.proofs.Zeros.{zero_fits}
use Rattle.matrix.specs.Places.{at, Fit}
use Rattle.matrix.proofs.Tables.{tabulate_all, zeros_fit}
use Rattle.jacobi.specs.declared.rotation.Rotation.{Rotation}
use Rattle.jacobi.specs.declared.pairs.Pair.{Pair}
use Rattle.jacobi.specs.declared.pairs.Pair.TheVariants.{P12, P13, P23}
use Rattle.jacobi.proofs.Run.{run_keeps}
use Rattle.jacobi.proofs.Moves.{each}
use Rattle.jacobi.proofs.Sorted.{below3}
use Rattle.eigen.specs.Pairs.{pair_of, chosen_of, applied_of}
use Rattle.eigen.specs.Eigen2x2.{solved2, blind2_of, refused2, numbers2_of, answer2_of, end2_of, eigen2_of, Eigen2Answer}
use Rattle.eigen.specs.Eigen3x3.{State, settled_of, next_matrix, step_of, run_of, start_of, last_of, watched_last_of, diagonal, ranked_of, EigenAnswer}
use Rattle.eigen.specs.Eigen3x3.{refused_eigen, numbers_of, answer_of, end_of, eigen_of}
use Rattle.eigen.specs.Ordered.{rotation_axes}
use Rattle.eigen.proofs.Watched.{watched_ends}
use Rattle.eigen.proofs.Moved.{same_permutation, same_permutation2}
use Rattle.eigen.proofs.Full.{solved_full}

-- ---- the six numbers of a state

data SixFit (f : Format) : List Float → Type 0 where
  six : {x11 x12 x22 x13 x23 x33 : Float} → T (fits f x11) → T (fits f x12) → T (fits f x22) → T (fits f x13) → T (fits f x23) → T (fits f x33)
      → SixFit f (x11 ∷ x12 ∷ x22 ∷ x13 ∷ x23 ∷ x33 ∷ [])

applied_fit : (f : Format) (t : Rotation) (p : Pair) {x : List Float} → SixFit f x → SixFit f (applied_of f p t x)
applied_fit f t P12 (six r11 r12 r22 r13 r23 r33) = six (sub-fits f _ _) (zero_fits f) (add-fits f _ _) (sub-fits f _ _) (add-fits f _ _) r33
applied_fit f t P13 (six r11 r12 r22 r13 r23 r33) = six (sub-fits f _ _) (sub-fits f _ _) r22 (zero_fits f) (add-fits f _ _) (add-fits f _ _)
applied_fit f t P23 (six r11 r12 r22 r13 r23 r33) = six r11 (sub-fits f _ _) (sub-fits f _ _) (add-fits f _ _) (zero_fits f) (add-fits f _ _)

last_fit : (f : Format) (a : List Float) → SixFit f a → SixFit f (last_of f a).matrix
unfolding run_of step_of next_matrix
last_fit f a =
    run_keeps (step_of f) (λ (s : State). settled_of f s.matrix) (λ (s : State). SixFit f s.matrix)
    (λ s h. applied_fit f (chosen_of f s.matrix) (pair_of s.matrix) h) 25 (start_of f a)

diagonal_fit : {x : List Float} (f : Format) → SixFit f x → Fit f 3 (diagonal x)
diagonal_fit f (six {x11} {x12} {x22} {x13} {x23} {x33} r11 r12 r22 r13 r23 r33) =
    below3 (λ (c : ℕ). T (fits f (at (x11 ∷ x22 ∷ x33 ∷ []) c))) r11 r22 r33

ranked_fit : (f : Format) (s : State) → SixFit f s.matrix → Fit f 3 (ranked_of s).values
ranked_fit f s h = each (same_permutation s) (λ (v : Float). T (fits f v)) (diagonal_fit f h)

-- ---- the values of both calls

pub values_fit : (f : Format) (a : List Float) → length a ≡ 6 → Fit f 6 a → Fit f 3 (eigen_of f a).values
unfolding eigen_of end_of
values_fit f a n h =
    let w = watched_last_of f a in
    let given : SixFit f a = subst (SixFit f) (tabulate_all 6 a n)
    (six (h 0 (omega arith)) (h 1 (omega arith)) (h 2 (omega arith)) (h 3 (omega arith)) (h 4 (omega arith)) (h 5 (omega arith))) in
    by_call (refused_eigen f) a (numbers_of w.state) (answer_of f w) (λ (r : EigenAnswer). Fit f 3 r.values)
    (λ _ _. ranked_fit f w.state (rw (watched_ends f a) (last_fit f a given)))
    (λ _ _. zeros_fit f 3) (λ _. zeros_fit f 3)

pub values2_length : (f : Format) (a : List Float) → length (eigen2_of f a).values ≡ 2
unfolding eigen2_of end2_of
values2_length f a =
    let x = solved2 f a in
    by_call (refused2 f) a (numbers2_of x) (answer2_of (blind2_of f a) x) (λ (r : Eigen2Answer). length r.values ≡ 2)
    (λ _ _. (solved_full f a).0) (λ _ _. refl) (λ _. refl)

-- both are what an operation gave, whatever the matrix is
pub values2_fit : (f : Format) (a : List Float) → Fit f 2 (eigen2_of f a).values
unfolding eigen2_of end2_of
values2_fit f a =
    let x = solved2 f a in
    by_call (refused2 f) a (numbers2_of x) (answer2_of (blind2_of f a) x) (λ (r : Eigen2Answer). Fit f 2 r.values)
    (λ _ _. each (same_permutation2 f a) (λ (v : Float). T (fits f v)) two)
    (λ _ _. zeros_fit f 2) (λ _. zeros_fit f 2)
  where
    two : Fit f 2 (rotation_axes f a).values
    two zero l = sub-fits f _ _
    two (suc zero) l = add-fits f _ _
    two (suc (suc c)) l = absurd (omega arith)
