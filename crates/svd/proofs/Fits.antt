-- Each value of an answer is a value of the format: it is the magnitude of a number of the matrix that was given, or of what an operation gave, and an
-- operation gives no other.
use Rattle.float.proofs.Words.{◌≡◌, subst, List, [], ◌∷◌, ℕ, zero, suc, arith, T, length, Float, Format, fits}
use lib.Ieee.Fits.{add-fits, sub-fits}
use Rattle.float.specs.Sign.{magnitude_of}
use Rattle.float.proofs.Judged.{by_call}
use Rattle.float.proofs.Zeros.{zero_fits, magnitude_fits}
use Rattle.matrix.specs.Places.{at, Fit}
use Rattle.matrix.proofs.Tables.{tabulate_all, zeros_fit}
use Rattle.jacobi.specs.declared.pairs.Pair.{Pair}
use Rattle.jacobi.specs.declared.pairs.Pair.TheVariants.{P12, P13, P23}
use Rattle.jacobi.proofs.Run.{run_keeps}
use Rattle.jacobi.proofs.Moves.{each}
use Rattle.jacobi.proofs.Sorted.{below3}
use Rattle.svd.specs.Polar.{two_sided_of, blind_sides}
use Rattle.svd.specs.Pairs.{entry, pair_of, sides_of, chosen_of, applied_of}
use Rattle.svd.specs.Svd2x2.{sides2_of, factors2_of, refused_svd2, numbers2_of, answer2_of, end2_of, svd2_of, Svd2Answer}
use Rattle.svd.specs.Svd3x3.{State, settled_of, step_of, run_of, start_of, last_of, watched_last_of, factors_of, refused_svd, numbers_of, answer_of, end_of}
use Rattle.svd.specs.Svd3x3.{svd_of, SvdAnswer}
use Rattle.svd.specs.declared.polar.TwoSided.{TwoSided}
use Rattle.svd.proofs.Watched.{watched_ends}
use Rattle.svd.proofs.Moved.{same_permutation, same_permutation2}

-- ---- the two numbers that a rotation leaves on the diagonal

abbrev EndsFit : Format → TwoSided → Type 0
EndsFit f r = T (fits f r.d1) × T (fits f r.d2)

ends_fit : (f : Format) (app aqp apq aqq : Float) → EndsFit f (two_sided_of f app aqp apq aqq)
unfolding two_sided_of
ends_fit f app aqp apq aqq = (sub-fits f _ _, add-fits f _ _)

-- ---- the nine numbers of a state

data NineFit (f : Format) : List Float → Type 0 where
  nine : {x11 x21 x31 x12 x22 x32 x13 x23 x33 : Float} → T (fits f x11) → T (fits f x21) → T (fits f x31) → T (fits f x12) → T (fits f x22) → T (fits f x32)
      → T (fits f x13) → T (fits f x23) → T (fits f x33)
      → NineFit f (x11 ∷ x21 ∷ x31 ∷ x12 ∷ x22 ∷ x32 ∷ x13 ∷ x23 ∷ x33 ∷ [])

module _ (f : Format) (r : TwoSided) (e : EndsFit f r) where
  applied_fit : (p : Pair) {x : List Float} → NineFit f x → NineFit f (applied_of f p r x)
  applied_fit P12 (nine r11 r21 r31 r12 r22 r32 r13 r23 r33) =
      nine e.0 (zero_fits f) (sub-fits f _ _) (zero_fits f) e.1 (add-fits f _ _) (sub-fits f _ _) (add-fits f _ _) r33
  applied_fit P13 (nine r11 r21 r31 r12 r22 r32 r13 r23 r33) =
      nine e.0 (sub-fits f _ _) (zero_fits f) (sub-fits f _ _) r22 (add-fits f _ _) (zero_fits f) (add-fits f _ _) e.1
  applied_fit P23 (nine r11 r21 r31 r12 r22 r32 r13 r23 r33) =
      nine r11 (sub-fits f _ _) (add-fits f _ _) (sub-fits f _ _) e.0 (zero_fits f) (add-fits f _ _) (zero_fits f) e.1

last_fit : (f : Format) (a : List Float) → NineFit f a → NineFit f (last_of f a).matrix
unfolding run_of step_of sides_of
last_fit f a =
    run_keeps (step_of f) (λ (s : State). settled_of f s.matrix) (λ (s : State). NineFit f s.matrix)
    (λ s h. applied_fit f (chosen_of f s.matrix) (ends_fit f _ _ _ _) (pair_of f s.matrix) h) 25 (start_of f a)

factors_fit : (f : Format) (s : State) → NineFit f s.matrix → Fit f 3 (factors_of s).values
unfolding factors_of
factors_fit f s h =
    each (same_permutation (entry s.matrix 0 0) (entry s.matrix 1 1) (entry s.matrix 2 2) s.u s.v) (λ (v : Float). T (fits f v)) (sizes h)
  where
    sizes : {x : List Float} → NineFit f x → Fit f 3 (magnitude_of (entry x 0 0) ∷ magnitude_of (entry x 1 1) ∷ magnitude_of (entry x 2 2) ∷ [])
    sizes (nine {x11} {x21} {x31} {x12} {x22} {x32} {x13} {x23} {x33} r11 r21 r31 r12 r22 r32 r13 r23 r33) =
        below3 (λ (c : ℕ). T (fits f (at (magnitude_of x11 ∷ magnitude_of x22 ∷ magnitude_of x33 ∷ []) c)))
        (magnitude_fits f x11 r11) (magnitude_fits f x22 r22) (magnitude_fits f x33 r33)

-- ---- the values of both calls

pub values_fit : (f : Format) (a : List Float) → length a ≡ 9 → Fit f 9 a → Fit f 3 (svd_of f a).values
unfolding svd_of end_of
values_fit f a n h =
    let w = watched_last_of f a in
    let given : NineFit f a = subst (NineFit f) (tabulate_all 9 a n)
    (nine (h 0 (omega arith)) (h 1 (omega arith)) (h 2 (omega arith)) (h 3 (omega arith)) (h 4 (omega arith)) (h 5 (omega arith))
    (h 6 (omega arith)) (h 7 (omega arith)) (h 8 (omega arith))) in
    by_call (refused_svd f) a (numbers_of w.state) (answer_of f w) (λ (r : SvdAnswer). Fit f 3 r.values)
    (λ _ _. factors_fit f w.state (rw (watched_ends f a) (last_fit f a given)))
    (λ _ _. zeros_fit f 3) (λ _. zeros_fit f 3)

-- both are what an operation gave, whatever the matrix is
pub values2_fit : (f : Format) (a : List Float) → Fit f 2 (svd2_of f a).values
unfolding svd2_of end2_of factors2_of
values2_fit f a =
    let r = sides2_of f a in
    let x = factors2_of r in
    by_call (refused_svd2 f) a (numbers2_of x) (answer2_of (blind_sides f r) x) (λ (r : Svd2Answer). Fit f 2 r.values)
    (λ _ _. each (same_permutation2 r.d1 r.d2 _ _) (λ (v : Float). T (fits f v)) two)
    (λ _ _. zeros_fit f 2) (λ _. zeros_fit f 2)
  where
    two : Fit f 2 (magnitude_of (sides2_of f a).d1 ∷ magnitude_of (sides2_of f a).d2 ∷ [])
    two zero l = magnitude_fits f _ (ends_fit f (at a 0) (at a 1) (at a 2) (at a 3)).0
    two (suc zero) l = magnitude_fits f _ (ends_fit f (at a 0) (at a 1) (at a 2) (at a 3)).1
    two (suc (suc c)) l = absurd (omega arith)
