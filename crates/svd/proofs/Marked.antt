-- An answer is that of the run which is not watched, but for its mark: both are judged by the same numbers, and a refusal has no mark to take away. So where
-- no rotation is blind the two are the same; and none is where no symmetrised pair that is turned has a tiny diagonal.
use Rattle.float.proofs.Words.{◌≡◌, sym, ap, ◌∙◌, Bool, false, not, and-true, List, Float, Format}
use mathlib.Core.Bool.{and-false}
use Rattle.float.proofs.Judged.{judged_through}
use Rattle.jacobi.specs.Rotation.{tiny_diagonal}
use Rattle.jacobi.specs.Blind.{sighted}
use Rattle.jacobi.proofs.Watched.{tiny_if_blind}
use Rattle.svd.specs.Polar.{blind_sides}
use Rattle.svd.specs.Pairs.{blind_at}
use Rattle.svd.specs.Svd3x3.{last_of, watched_last_of, refused_svd, numbers_of, answer_of, end_of, svd_of}
use Rattle.svd.specs.Svd2x2.{sides2_of, factors2_of, refused_svd2, numbers2_of, answer2_of, end2_of, svd2_of}
use Rattle.svd.specs.Counted.{NoneBlindIn}
use Rattle.svd.specs.Marked.{plain_of, plain2_of, NeverTiny, remarked, remarked2}
use Rattle.svd.proofs.Watched.{by_last}
use Rattle.svd.proofs.Counted.{blind_counted}

module _ (f : Format) (a : List Float) where
  -- ---- the same but for the mark

  pub same_but_mark : svd_of f a ≡ remarked (watched_last_of f a).blind (plain_of f a)
  unfolding end_of
  same_but_mark =
      let b = (watched_last_of f a).blind in
      let s = last_of f a in
      by_last f a ∙ sym (judged_through (remarked b) (refused_svd f) (λ k. rw (and-false (not b))) a (numbers_of s) (answer_of f (sighted s)))

  pub same_but_mark2 : svd2_of f a ≡ remarked2 (blind_sides f (sides2_of f a)) (plain2_of f a)
  unfolding svd2_of end2_of
  same_but_mark2 =
      let b = blind_sides f (sides2_of f a) in
      let w = factors2_of (sides2_of f a) in
      sym (judged_through (remarked2 b) (refused_svd2 f) (λ k. rw (and-false (not b))) a (numbers2_of w) (answer2_of false w) ∙ (rw (and-true (not b))))

  -- ---- no rotation is blind

  pub plain_if_none : NoneBlindIn f a (last_of f a).made.count → svd_of f a ≡ plain_of f a
  plain_if_none h = same_but_mark ∙ ap (λ (b : Bool). remarked b (plain_of f a)) ((blind_counted f a).1 h)

  pub plain_if_not_blind : blind_sides f (sides2_of f a) ≡ false → svd2_of f a ≡ plain2_of f a
  plain_if_not_blind h = same_but_mark2 ∙ ap (λ (b : Bool). remarked2 b (plain2_of f a)) h

  -- ---- no diagonal is tiny

  pub never_tiny : NeverTiny f a (last_of f a).made.count → svd_of f a ≡ plain_of f a
  unfolding blind_at
  never_tiny h = plain_if_none (λ j l. tiny_if_blind f _ _ _ (h j l))

  pub never_tiny2 : tiny_diagonal f (sides2_of f a).s11 (sides2_of f a).s22 ≡ false → svd2_of f a ≡ plain2_of f a
  never_tiny2 h = plain_if_not_blind (tiny_if_blind f (sides2_of f a).s12 _ _ h)
