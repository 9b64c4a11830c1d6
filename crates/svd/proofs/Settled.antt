-- Settled means that the sums of all three pairs are under the limit: the test reads the largest of them. A sum of two magnitudes may overflow, but it is no
-- NaN. The mark asks for that and for no blind rotation.
use Rattle.float.proofs.Words.{◌≡◌, sym, ap, subst, true, false, List, ℕ, ◌<◌, arith, length, Float, Format, add, is_nan}
use Rattle.std.specs.Prelude.{Ok}
use Rattle.float.specs.Width.{F}
use Rattle.float.specs.Constants.{limit_f}
use Rattle.float.specs.Exactly.{Exactly}
use Rattle.float.specs.Sign.{magnitude_of, finite, all_finite}
use Rattle.float.proofs.Finite.{at-finite, parts_finite, magnitude_finite}
use Rattle.float.proofs.Under.{add_no_nan, limit_finite}
use Rattle.matrix.specs.Places.{at}
use Rattle.matrix.specs.Square.{Mat2, Mat3}
use Rattle.jacobi.specs.declared.pairs.Pair.{Pair}
use Rattle.jacobi.proofs.Largest.{sizes_under}
use Rattle.jacobi.proofs.Watched.{not_means, mark_means}
use Rattle.svd.specs.Polar.{blind_sides}
use Rattle.svd.specs.Pairs.{size_of}
use Rattle.svd.specs.Svd3x3.{settled_of, last_of, watched_last_of, svd_of, SvdAnswer}
use Rattle.svd.specs.Svd2x2.{sides2_of, svd2_of, Svd2Answer}
use Rattle.svd.specs.Counted.{NoneBlindIn, AllUnder}
use Rattle.svd.specs.declared.svd2x2.Svd2.{Svd2}
use Rattle.svd.specs.declared.svd3x3.Svd3.{Svd3}
use Rattle.svd.proofs.Answered.{answered, answered2}
use Rattle.svd.proofs.Counted.{blind_counted}
use Rattle.svd.proofs.Sizes.{last_full}
use Rattle.svd.proofs.svd2x2.svd.Reads as svd2x2-svd
use Rattle.svd.proofs.svd3x3.svd.Reads as svd

pub settled_finite : (f : Format) (a : List Float) → length a ≡ 9 → all_finite a ≡ true → Exactly (settled_of f a ≡ true) (AllUnder f a)
unfolding settled_of
settled_finite f a n e =
    let g : (i : ℕ) → i < 9 → finite (magnitude_of (at a i)) ≡ true = λ (i : ℕ) (l : i < 9). magnitude_finite (at a i) (at-finite a e i (omega arith)) in
    let no : (i j : ℕ) → i < 9 → j < 9 → is_nan (add f (magnitude_of (at a i)) (magnitude_of (at a j))) ≡ false =
    λ (i j : ℕ) (l : i < 9) (m : j < 9). add_no_nan f _ _ (g i l) (g j m) in
    sizes_under (λ (o : Pair). size_of f o a) (limit_f f) (limit_finite f) (no 6 2 (omega arith) (omega arith)) (no 7 5 (omega arith) (omega arith))

-- of the answer, and of the call: of any answer within the promise that the source states
pub settled_means : (f : Format) (a : List Float) → length a ≡ 9 → (svd_of f a).code ≡ 0
    → Exactly ((svd_of f a).settled ≡ true) (AllUnder f (svd_of f a).worked.«data» × NoneBlindIn f a (svd_of f a).made.count)
settled_means f a n e =
    let s = last_of f a in
    let g = answered f a e in
    let u = settled_finite f s.matrix (last_full f a n).matrix (parts_finite s.matrix _ g.numbers).0 in
    rw g.answer (mark_means (watched_last_of f a).blind (settled_of f s.matrix) u (blind_counted f a))

pub settled_call : (a : Mat3) (r : Svd3) → length a.«data» ≡ 9 → svd.Post tt (a, tt) (Ok r) (a, tt)
    → Exactly (r.settled ≡ true) (AllUnder F r.worked.«data» × NoneBlindIn F a.«data» r.made.count)
settled_call a r n p =
    subst (λ (q : SvdAnswer). Exactly (q.settled ≡ true) (AllUnder F q.worked.«data» × NoneBlindIn F a.«data» q.made.count)) (sym p)
    (settled_means F a.«data» n (sym (ap (λ (q : SvdAnswer). q.code) p)))

-- ---- a 2x2 is turned once

pub settled2_means : (f : Format) (a : List Float) → (svd2_of f a).code ≡ 0 → Exactly ((svd2_of f a).settled ≡ true) (blind_sides f (sides2_of f a) ≡ false)
settled2_means f a e = rw (answered2 f a e).answer (not_means (blind_sides f (sides2_of f a)))

pub settled2_call : (a : Mat2) (r : Svd2) → svd2x2-svd.Post tt (a, tt) (Ok r) (a, tt)
    → Exactly (r.settled ≡ true) (blind_sides F (sides2_of F a.«data») ≡ false)
settled2_call a r p =
    subst (λ (q : Svd2Answer). Exactly (q.settled ≡ true) (blind_sides F (sides2_of F a.«data») ≡ false)) (sym p)
    (settled2_means F a.«data» (sym (ap (λ (q : Svd2Answer). q.code) p)))
