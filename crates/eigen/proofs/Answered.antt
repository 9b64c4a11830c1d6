-- An answer with code 0 is that of the last state, or of the two axes, of finite numbers: a judged call leaves another code on every other way.
use Rattle.float.proofs.Words.{◌≡◌, refl, List, Float, Format}
use Rattle.float.proofs.Judged.{Accepted, accepted}
use Rattle.eigen.specs.Eigen3x3.{last_of, refused_eigen, numbers_of, answer_of, end_of, eigen_of, EigenAnswer}
use Rattle.eigen.specs.EigVals.{bare_last_of, refused_values, values_of, bare_end_of, eigvals_of, EigValsAnswer}
use Rattle.eigen.specs.EigVals.{refused_values2, values2_of, values_end2_of, eigvals2_of, EigVals2Answer}
use Rattle.eigen.specs.Eigen2x2.{blind2_of, solved2, refused2, numbers2_of, answer2_of, end2_of, eigen2_of, Eigen2Answer}
use Rattle.eigen.proofs.Watched.{ended_of, bare_ended_of, by_last, by_bare_last}

module _ (f : Format) (a : List Float) where
  pub answered : (eigen_of f a).code ≡ 0 → Accepted a (numbers_of (last_of f a)) (answer_of f (ended_of f a)) (eigen_of f a)
  unfolding end_of
  answered =
      rw (by_last f a) (accepted (λ (r : EigenAnswer). r.code) (refused_eigen f) (λ k. refl) a (numbers_of (last_of f a)) (answer_of f (ended_of f a)))

  pub answered_values : (eigvals_of f a).code ≡ 0 → Accepted a (bare_last_of f a).matrix (values_of f (bare_ended_of f a)) (eigvals_of f a)
  unfolding bare_end_of
  answered_values =
      rw (by_bare_last f a)
      (accepted (λ (r : EigValsAnswer). r.code) (refused_values f) (λ k. refl) a (bare_last_of f a).matrix (values_of f (bare_ended_of f a)))

  pub answered2 : (eigen2_of f a).code ≡ 0 → Accepted a (numbers2_of (solved2 f a)) (answer2_of (blind2_of f a) (solved2 f a)) (eigen2_of f a)
  unfolding eigen2_of end2_of
  answered2 = accepted (λ (r : Eigen2Answer). r.code) (refused2 f) (λ k. refl) a (numbers2_of (solved2 f a)) (answer2_of (blind2_of f a) (solved2 f a))

  pub answered_values2 : (eigvals2_of f a).code ≡ 0 → Accepted a (solved2 f a).values (values2_of (blind2_of f a) (solved2 f a).values) (eigvals2_of f a)
  unfolding eigvals2_of values_end2_of
  answered_values2 =
      accepted (λ (r : EigVals2Answer). r.code) (refused_values2 f) (λ k. refl) a (solved2 f a).values (values2_of (blind2_of f a) (solved2 f a).values)
