-- What the four calls owe: each is a judged call, so its code is exactly that of its tests; and its lists are full, of numbers that the tests or their places
-- in a
-- tested matrix say to be finite.
use Rattle.float.proofs.Words.{◌≡◌, refl, List, length, Float, Format}
use Rattle.float.specs.Choice.{pick}
use Rattle.float.specs.Sign.{all_finite}
use Rattle.float.proofs.Finite.{parts_finite}
use Rattle.matrix.specs.Owed.{Owed}
use Rattle.matrix.proofs.Owed.{call_code, call_owed}
use Rattle.eigen.specs.Eigen3x3.{last_of, diagonal, ranked_of, refused_eigen, numbers_of, answer_of, end_of, eigen_of, EigenAnswer}
use Rattle.eigen.specs.EigVals.{bare_last_of, refused_values, values_of, bare_end_of, eigvals_of, EigValsAnswer}
use Rattle.eigen.specs.EigVals.{refused_values2, values2_of, values_end2_of, eigvals2_of, EigVals2Answer}
use Rattle.eigen.specs.Eigen2x2.{blind2_of, solved2, refused2, numbers2_of, answer2_of, end2_of, eigen2_of, Eigen2Answer}
use Rattle.eigen.specs.Owed.{eigen_parts, values_parts, eigen2_parts, values2_parts}
use Rattle.eigen.proofs.Watched.{ended_of, bare_ended_of, by_last, by_bare_last}
use Rattle.eigen.proofs.Full.{last_filled, bare-filled, ranked_full, ranked-finite, sort_full, sort_finite, solved_full}

module _ (f : Format) (a : List Float) where
  -- ---- 3x3

  pub eigen3_code : (eigen_of f a).code ≡ pick (all_finite a) (pick (all_finite (numbers_of (last_of f a))) 0 7) 5
  unfolding end_of
  eigen3_code =
      rw (by_last f a) (call_code (λ (r : EigenAnswer). r.code) (refused_eigen f) (λ k. refl) a (numbers_of (last_of f a)) (answer_of f (ended_of f a)))

  pub eigen3_owed : length a ≡ 6 → Owed (λ (r : EigenAnswer). r.code) (refused_eigen f) eigen_parts a (eigen_of f a)
  unfolding end_of
  eigen3_owed n =
      let s = last_of f a in
      let full = last_filled f a n in
      rw (by_last f a)
      (call_owed (λ (r : EigenAnswer). r.code) (refused_eigen f) (λ k. refl) a (numbers_of s) (answer_of f (ended_of f a)) eigen_parts refl
      (λ _ e.
      let h = parts_finite s.matrix (ranked_of s).carried e in
      let g = ranked_full s full in
      (g.0, ranked-finite s full h.0, (g.1, h.1, (full.0, h.0, tt)))))

  pub eigvals3_code : (eigvals_of f a).code ≡ pick (all_finite a) (pick (all_finite (bare_last_of f a).matrix) 0 7) 5
  unfolding bare_end_of
  eigvals3_code =
      rw (by_bare_last f a)
      (call_code (λ (r : EigValsAnswer). r.code) (refused_values f) (λ k. refl) a (bare_last_of f a).matrix (values_of f (bare_ended_of f a)))

  pub eigvals3_owed : length a ≡ 6 → Owed (λ (r : EigValsAnswer). r.code) (refused_values f) values_parts a (eigvals_of f a)
  unfolding bare_end_of
  eigvals3_owed n =
      let s = bare_last_of f a in
      let full = bare-filled f a n in
      rw (by_bare_last f a)
      (call_owed (λ (r : EigValsAnswer). r.code) (refused_values f) (λ k. refl) a s.matrix (values_of f (bare_ended_of f a)) values_parts refl
      (λ _ e. (sort_full (diagonal s.matrix) refl, sort_finite s.matrix full e, (full, e, tt))))

  -- ---- 2x2

  pub eigen2_code : (eigen2_of f a).code ≡ pick (all_finite a) (pick (all_finite (numbers2_of (solved2 f a))) 0 7) 5
  unfolding eigen2_of end2_of
  eigen2_code = call_code (λ (r : Eigen2Answer). r.code) (refused2 f) (λ k. refl) a (numbers2_of (solved2 f a)) (answer2_of (blind2_of f a) (solved2 f a))

  pub eigen2_owed : Owed (λ (r : Eigen2Answer). r.code) (refused2 f) eigen2_parts a (eigen2_of f a)
  unfolding eigen2_of end2_of
  eigen2_owed =
      let x = solved2 f a in
      let full = solved_full f a in
      call_owed (λ (r : Eigen2Answer). r.code) (refused2 f) (λ k. refl) a (numbers2_of x) (answer2_of (blind2_of f a) x) eigen2_parts refl
      (λ _ e. let h = parts_finite x.values x.carried e in (full.0, h.0, (full.1, h.1, tt)))

  pub eigvals2_code : (eigvals2_of f a).code ≡ pick (all_finite a) (pick (all_finite (solved2 f a).values) 0 7) 5
  unfolding eigvals2_of values_end2_of
  eigvals2_code =
      call_code (λ (r : EigVals2Answer). r.code) (refused_values2 f) (λ k. refl) a (solved2 f a).values (values2_of (blind2_of f a) (solved2 f a).values)

  pub eigvals2_owed : Owed (λ (r : EigVals2Answer). r.code) (refused_values2 f) values2_parts a (eigvals2_of f a)
  unfolding eigvals2_of values_end2_of
  eigvals2_owed =
      let x = (solved2 f a).values in
      call_owed (λ (r : EigVals2Answer). r.code) (refused_values2 f) (λ k. refl) a x (values2_of (blind2_of f a) x) values2_parts refl
      (λ _ e. ((solved_full f a).0, e, tt))
