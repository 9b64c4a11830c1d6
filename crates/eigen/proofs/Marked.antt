-- An answer is that of the run which is not watched, but for its mark: both are judged by the same numbers, and a refusal has no mark to take away. So where no
-- rotation is blind the two are the same; and none is where no pair that is turned has a tiny diagonal.
use Rattle.float.proofs.Words.{◌≡◌, sym, ap, ◌∙◌, Bool, false, not, and-true, List, ℕ, ◌<◌, arith, Float, Format, lt}
use mathlib.Core.Bool.{and-false}
use Rattle.float.specs.Constants.{epsilon_f}
use Rattle.float.specs.Sign.{magnitude_of}
use Rattle.float.proofs.Choice.{chosen}
use Rattle.float.proofs.Judged.{judged_through}
use Rattle.matrix.specs.Places.{at}
use Rattle.jacobi.specs.Rotation.{tiny_diagonal}
use Rattle.jacobi.specs.Pairs.{index_p, index_q}
use Rattle.jacobi.specs.Blind.{sighted}
use Rattle.jacobi.specs.declared.pairs.Pair.{Pair}
use Rattle.jacobi.specs.declared.pairs.Pair.TheVariants.{P12, P13, P23}
use Rattle.jacobi.proofs.Watched.{tiny_if_blind}
use Rattle.eigen.specs.Pairs.{app, aqq, pair_of, blind_at}
use Rattle.eigen.specs.Eigen3x3.{last_of, watched_last_of, numbers_of, refused_eigen, answer_of, end_of, eigen_of}
use Rattle.eigen.specs.EigVals.{bare_last_of, bare_watched_last_of, refused_values, values_of, bare_end_of, eigvals_of, refused_values2, values2_of}
use Rattle.eigen.specs.EigVals.{values_end2_of}
use Rattle.eigen.specs.EigVals.{eigvals2_of}
use Rattle.eigen.specs.Eigen2x2.{blind2_of, solved2, refused2, numbers2_of, answer2_of, end2_of, eigen2_of}
use Rattle.eigen.specs.Counted.{state_after, NoneBlindIn}
use Rattle.eigen.specs.Marked.{plain_of, plain_values_of, plain2_of, plain_values2_of, remarked, remarked_values, remarked2, remarked_values2}
use Rattle.eigen.specs.Marked.{NeverTiny, DiagonalStands}
use Rattle.eigen.proofs.Watched.{by_last, by_bare_last}
use Rattle.eigen.proofs.Counted.{blind_counted}

index_below : (x : Pair) → (index_p x < 3) × (index_q x < 3)
index_below P12 = (omega arith, omega arith)
index_below P13 = (omega arith, omega arith)
index_below P23 = (omega arith, omega arith)

-- ---- the same but for the mark

module _ (f : Format) (a : List Float) where
  pub same_but_mark : eigen_of f a ≡ remarked (watched_last_of f a).blind (plain_of f a)
  unfolding end_of
  same_but_mark =
      let b = (watched_last_of f a).blind in
      let s = last_of f a in
      by_last f a ∙ sym (judged_through (remarked b) (refused_eigen f) (λ k. rw (and-false (not b))) a (numbers_of s) (answer_of f (sighted s)))

  pub values_same_but_mark : eigvals_of f a ≡ remarked_values (bare_watched_last_of f a).blind (plain_values_of f a)
  unfolding bare_end_of
  values_same_but_mark =
      let b = (bare_watched_last_of f a).blind in
      let s = bare_last_of f a in
      by_bare_last f a ∙ sym (judged_through (remarked_values b) (refused_values f) (λ k. rw (and-false (not b))) a s.matrix (values_of f (sighted s)))

  pub same_but_mark2 : eigen2_of f a ≡ remarked2 (blind2_of f a) (plain2_of f a)
  unfolding eigen2_of end2_of
  same_but_mark2 =
      let b = blind2_of f a in
      let x = solved2 f a in
      sym (judged_through (remarked2 b) (refused2 f) (λ k. rw (and-false (not b))) a (numbers2_of x) (answer2_of false x) ∙ (rw (and-true (not b))))

  pub values_same_but_mark2 : eigvals2_of f a ≡ remarked_values2 (blind2_of f a) (plain_values2_of f a)
  unfolding eigvals2_of values_end2_of
  values_same_but_mark2 =
      let b = blind2_of f a in
      let x = (solved2 f a).values in
      sym (judged_through (remarked_values2 b) (refused_values2 f) (λ k. rw (and-false (not b))) a x (values2_of false x) ∙ (rw (and-true (not b))))

  -- ---- no rotation is blind

  pub plain_if_none : NoneBlindIn f a (last_of f a).made.count → eigen_of f a ≡ plain_of f a
  plain_if_none h = same_but_mark ∙ ap (λ (b : Bool). remarked b (plain_of f a)) ((blind_counted f a).1 h)

  pub plain_if_not_blind : blind2_of f a ≡ false → eigen2_of f a ≡ plain2_of f a
  plain_if_not_blind h = same_but_mark2 ∙ ap (λ (b : Bool). remarked2 b (plain2_of f a)) h

  -- ---- no diagonal is tiny

  pub never_tiny : NeverTiny f a (last_of f a).made.count → eigen_of f a ≡ plain_of f a
  unfolding blind_at
  never_tiny h = plain_if_none (λ j l. tiny_if_blind f _ _ _ (h j l))

  pub diagonal_stands : (n : ℕ) → DiagonalStands f a n → NeverTiny f a n
  diagonal_stands n h j l =
      let m = (state_after f a j).matrix in
      let x = pair_of m in
      either (app x m) (aqq x m) (h j l (index_p x) (index_below x).0) (h j l (index_q x) (index_below x).1)
    where
      either : (p q : Float) → lt (magnitude_of p) (epsilon_f f) ≡ false → lt (magnitude_of q) (epsilon_f f) ≡ false → tiny_diagonal f p q ≡ false
      either p q u v = chosen (λ (d : Float). lt d (epsilon_f f) ≡ false) (lt (magnitude_of q) (magnitude_of p)) (magnitude_of p) (magnitude_of q) u v

  pub never_tiny2 : tiny_diagonal f (at a 0) (at a 2) ≡ false → eigen2_of f a ≡ plain2_of f a
  never_tiny2 h = plain_if_not_blind (tiny_if_blind f (at a 1) (at a 0) (at a 2) h)
