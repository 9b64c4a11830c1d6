-- Settled means that all three numbers beside the diagonal are under the limit: the test reads the largest of them. The mark asks for that and for no blind
-- rotation.
use Rattle.std.specs.Prelude.{Ok}
use Rattle.float.proofs.Words.{◌≡◌, refl, true, false, List, arith, length, Float, Format, is_nan}
use Rattle.float.specs.Width.{F}
use Rattle.float.specs.Constants.{limit_f}
use Rattle.float.specs.Exactly.{Exactly}
use Rattle.float.specs.Sign.{magnitude_of, finite, all_finite}
use Rattle.float.proofs.Finite.{at-finite, parts_finite, magnitude_finite}
use Rattle.float.proofs.Under.{finite_no_nan, limit_finite}
use Rattle.matrix.specs.Symmetric.{Sym3, Sym2}
use Rattle.jacobi.specs.declared.pairs.Pair.{Pair}
use Rattle.jacobi.specs.declared.pairs.Pair.TheVariants.{P13, P23}
use Rattle.jacobi.proofs.Largest.{sizes_under}
use Rattle.jacobi.proofs.Watched.{not_means, mark_means}
use Rattle.eigen.specs.Pairs.{apq}
use Rattle.eigen.specs.Eigen3x3.{settled_of, last_of, watched_last_of, ranked_of, EigenAnswer, eigen_of}
use Rattle.eigen.specs.Eigen2x2.{blind2_of, Eigen2Answer, eigen2_of}
use Rattle.eigen.specs.EigVals.{eigvals2_of}
use Rattle.eigen.specs.Counted.{NoneBlindIn, AllUnder}
use Rattle.eigen.specs.declared.eigen2x2.Eigen2.{Eigen2}
use Rattle.eigen.specs.declared.eigen3x3.Eigen3.{Eigen3}
use Rattle.eigen.proofs.Told.{handed_out}
use Rattle.eigen.proofs.Answered.{answered, answered2, answered_values2}
use Rattle.eigen.proofs.Counted.{blind_counted}
use Rattle.eigen.proofs.Full.{last_filled}
use Rattle.eigen.proofs.eigen2x2.eigen.Reads as eigen
use Rattle.eigen.proofs.eigen3x3.eigen_jacobi.Reads as eigen-jacobi

pub settled_finite : (f : Format) (a : List Float) → length a ≡ 6 → all_finite a ≡ true → Exactly (settled_of f a ≡ true) (AllUnder f a)
unfolding settled_of
settled_finite f a n e =
    let size : (x : Float) → finite x ≡ true → is_nan (magnitude_of x) ≡ false =
    λ (x : Float) (h : finite x ≡ true). finite_no_nan (magnitude_of x) (magnitude_finite x h) in
    sizes_under (λ (o : Pair). magnitude_of (apq o a)) (limit_f f) (limit_finite f) (size (apq P13 a) (at-finite a e 3 (omega arith)))
    (size (apq P23 a) (at-finite a e 4 (omega arith)))

-- of the answer, and of the call: of any answer within the promise that the source states
pub settled_means : (f : Format) (a : List Float) → length a ≡ 6 → (eigen_of f a).code ≡ 0
    → Exactly ((eigen_of f a).settled ≡ true) (AllUnder f (eigen_of f a).worked.«data» × NoneBlindIn f a (eigen_of f a).made.count)
settled_means f a n e =
    let s = last_of f a in
    let g = answered f a e in
    let m = (parts_finite s.matrix (ranked_of s).carried g.numbers).0 in
    let u = settled_finite f s.matrix (last_filled f a n).0 m in
    rw g.answer (mark_means (watched_last_of f a).blind (settled_of f s.matrix) u (blind_counted f a))

pub settled_call : (a : Sym3) (x : Eigen3) → length a.«data» ≡ 6 → eigen-jacobi.Post tt (a, tt) (Ok x) (a, tt)
    → Exactly (x.settled ≡ true) (AllUnder F x.worked.«data» × NoneBlindIn F a.«data» x.made.count)
settled_call a x n p =
    handed_out (λ (r : EigenAnswer). r.code)
    (λ (r : EigenAnswer). Exactly (r.settled ≡ true) (AllUnder F r.worked.«data» × NoneBlindIn F a.«data» r.made.count)) p refl
    (settled_means F a.«data» n)

-- ---- a 2x2 is turned once

pub settled2_means : (f : Format) (a : List Float) → (eigen2_of f a).code ≡ 0 → Exactly ((eigen2_of f a).settled ≡ true) (blind2_of f a ≡ false)
settled2_means f a e = rw (answered2 f a e).answer (not_means (blind2_of f a))

pub settled2_call : (a : Sym2) (x : Eigen2) → eigen.Post tt (a, tt) (Ok x) (a, tt) → Exactly (x.settled ≡ true) (blind2_of F a.«data» ≡ false)
settled2_call a x p =
    handed_out (λ (r : Eigen2Answer). r.code) (λ (r : Eigen2Answer). Exactly (r.settled ≡ true) (blind2_of F a.«data» ≡ false)) p refl
    (settled2_means F a.«data»)

pub values_settled2_means : (f : Format) (a : List Float) → (eigvals2_of f a).code ≡ 0 → Exactly ((eigvals2_of f a).settled ≡ true) (blind2_of f a ≡ false)
values_settled2_means f a e = rw (answered_values2 f a e).answer (not_means (blind2_of f a))
