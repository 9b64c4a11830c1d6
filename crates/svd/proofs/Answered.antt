-- An answer with code 0 is that of the last state, of finite numbers: a judged call leaves another code on every other way.
use Rattle.float.proofs.Words.{◌≡◌, refl, List, Float, Format}
use Rattle.float.proofs.Judged.{Accepted, accepted}
use Rattle.svd.specs.Polar.{blind_sides}
use Rattle.svd.specs.Svd3x3.{last_of, refused_svd, numbers_of, answer_of, end_of, svd_of, SvdAnswer}
use Rattle.svd.specs.Svd2x2.{sides2_of, factors2_of, refused_svd2, numbers2_of, answer2_of, end2_of, svd2_of, Svd2Answer}
use Rattle.svd.proofs.Watched.{ended_of, by_last}

pub answered : (f : Format) (a : List Float) → (svd_of f a).code ≡ 0 → Accepted a (numbers_of (last_of f a)) (answer_of f (ended_of f a)) (svd_of f a)
unfolding end_of
answered f a = rw (by_last f a) (accepted (λ (r : SvdAnswer). r.code) (refused_svd f) (λ k. refl) a (numbers_of (last_of f a)) (answer_of f (ended_of f a)))

pub answered2 : (f : Format) (a : List Float) → (svd2_of f a).code ≡ 0
    → let r = sides2_of f a in Accepted a (numbers2_of (factors2_of r)) (answer2_of (blind_sides f r) (factors2_of r)) (svd2_of f a)
unfolding svd2_of end2_of
answered2 f a =
    let r = sides2_of f a in
    accepted (λ (r : Svd2Answer). r.code) (refused_svd2 f) (λ k. refl) a (numbers2_of (factors2_of r)) (answer2_of (blind_sides f r) (factors2_of r))
