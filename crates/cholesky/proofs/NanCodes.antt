-- The codes of the kernels, of numbers of the format. A factor that is whole is finite, so 7 comes from a solution alone. The pivots of the 2x2 are numbers,
-- so 9 comes from the third pivot of the 3x3 alone, exactly if L21 is a zero and L31 is infinite.
use Rattle.float.proofs.Words.{◌≡◌, refl, sym, ap, ◌∙◌, Bool, true, false, false≢true, List, ◌++◌, ℕ, arith, length, Float, Format, binary64, to_bits}
use Rattle.std.proofs.Common.{Result}
use contract.Lifetimes.{Lfts}
use Rattle.float.specs.Width.{F}
use Rattle.float.specs.Choice.{pick}
use Rattle.float.specs.Exactly.{Exactly}
use Rattle.float.specs.Sign.{all_finite}
use Rattle.float.proofs.Finite.{append_passes, parts_finite}
use Rattle.float.proofs.Invalid.{nan_not_at_most}
use Rattle.float.proofs.Judged.{stands, unjudged}
use Rattle.float.proofs.Patterns.{only_nan}
use Rattle.matrix.specs.Places.{at, zeros, Fit}
use Rattle.cholesky.specs.Factor.{FactorAnswer, factored, steps2_of, factor2_of, steps3_of, factor3_of}
use Rattle.cholesky.specs.Pivot.{pivot_of}
use Rattle.cholesky.specs.Pivots.{second_of, l32_of, third_of, pivots2_of, pivots3_of, one_at_most_zero, one_nan, refused_pivot, pivot_code}
use Rattle.cholesky.specs.Solve.{solution2_of, factor_and_solve2_of, solution3_of, factor_and_solve3_of}
use Rattle.cholesky.specs.NanPivot.{NanThird, before_third}
use Rattle.cholesky.specs.Error.{factor_code}
use Rattle.cholesky.specs.declared.answers.FactorError.{FactorError}
use Rattle.cholesky.proofs.cholesky2x2.cholesky_2x2_explicit_factor.Reads as factor2-call
use Rattle.cholesky.proofs.cholesky3x3.cholesky_3x3_explicit_factor.Reads as factor3-call
use Rattle.cholesky.proofs.Codes.{factor2_code, factor3_code, solved2_code, solved3_code}
use Rattle.cholesky.proofs.NanPivots.{no_nan2, whole2_finite, whole3_finite, not_at_most, third_met, third_is_nan, l32_is_nan}

-- ---- the tests that are left: u, t and n say that the used numbers are finite, that a pivot is at most zero, and that one is NaN; m and x are of what is made

-- where no pivot is NaN, and what is made is finite exactly if x says so
two-left : (u t n m x : Bool) → (u ≡ true → t ≡ false → n ≡ false) → (u ≡ true → t ≡ false → m ≡ x)
    → ◌≡◌ {A = ℕ} (pick u (pick t 6 (pick n 9 (pick m 0 7))) 5) (pick u (pick t 6 (pick x 0 7)) 5)
two-left false t n m x a b = refl
two-left true true n m x a b = refl
two-left true false n m x a b = rw (a refl refl, b refl refl)

three-left : (u t n m x : Bool) → (u ≡ true → t ≡ false → n ≡ false → m ≡ x)
    → ◌≡◌ {A = ℕ} (pick u (pick t 6 (pick n 9 (pick m 0 7))) 5) (pick u (pick t 6 (pick n 9 (pick x 0 7))) 5)
three-left false t n m x b = refl
three-left true true n m x b = refl
three-left true false true m x b = refl
three-left true false false m x b = rw (b refl refl refl)

-- ---- a factor alone: the 2x2 never gives 7 or 9, the 3x3 never 7

module _ (f : Format) (l a : List Float) where
  pub factor2-given : Fit f 3 a → length a ≡ 3 → (factor2_of f l a).code ≡ pick (all_finite a) (pick (one_at_most_zero f (pivots2_of f a)) 6 0) 5
  factor2-given fit size =
      factor2_code f l a
      ∙ two-left (all_finite a) (one_at_most_zero f (pivots2_of f a)) (one_nan (pivots2_of f a)) (all_finite (steps2_of f l a).factor) true
      (no_nan2 f a fit size) (λ u t. whole2_finite f a fit size u t l)

  pub factor3-given : Fit f 6 a → length a ≡ 6 → (factor3_of f l a).code ≡ pick (all_finite a) (pivot_code f (pivots3_of f a) 0) 5
  factor3-given fit size =
      factor3_code f l a
      ∙ three-left (all_finite a) (one_at_most_zero f (pivots3_of f a)) (one_nan (pivots3_of f a)) (all_finite (steps3_of f l a).factor) true
      (λ u t n. whole3_finite f a fit size u t n l)

-- ---- with a solution: 7 comes from the solution alone

module _ (f : Format) (a b : List Float) where
  pub solved2-given : Fit f 3 a → length a ≡ 3 → (factor_and_solve2_of f a b).code
      ≡ pick (all_finite (a ++ b))
      (pick (one_at_most_zero f (pivots2_of f a)) 6 (pick (all_finite (solution2_of f (steps2_of f (zeros f 3) a).factor b)) 0 7)) 5
  solved2-given fit size =
      let l = (steps2_of f (zeros f 3) a).factor in
      solved2_code f a b
      ∙ two-left (all_finite (a ++ b)) (one_at_most_zero f (pivots2_of f a)) (one_nan (pivots2_of f a)) (all_finite (l ++ solution2_of f l b))
      (all_finite (solution2_of f l b)) (λ u. no_nan2 f a fit size (parts_finite a b u).0)
      (λ u t. append_passes l (solution2_of f l b) (whole2_finite f a fit size (parts_finite a b u).0 t (zeros f 3)))

  pub solved3-given : Fit f 6 a → length a ≡ 6 → (factor_and_solve3_of f a b).code
      ≡ pick (all_finite (a ++ b)) (pivot_code f (pivots3_of f a) (pick (all_finite (solution3_of f (steps3_of f (zeros f 6) a).factor b)) 0 7)) 5
  solved3-given fit size =
      let l = (steps3_of f (zeros f 6) a).factor in
      solved3_code f a b
      ∙ three-left (all_finite (a ++ b)) (one_at_most_zero f (pivots3_of f a)) (one_nan (pivots3_of f a)) (all_finite (l ++ solution3_of f l b))
      (all_finite (solution3_of f l b))
      (λ u t n. append_passes l (solution3_of f l b) (whole3_finite f a fit size (parts_finite a b u).0 t n (zeros f 6)))

-- ---- 9: the tests that it passes

pub nine_tests : (u t n : Bool) (c : ℕ) → (c ≡ 9 → ⊥) → ◌≡◌ {A = ℕ} (pick u (pick t 6 (pick n 9 c)) 5) 9 → (u ≡ true) × (t ≡ false) × (n ≡ true)
nine_tests false t n c h e = absurd (omega arith)
nine_tests true true n c h e = absurd (omega arith)
nine_tests true false true c h e = (refl, refl, refl)
nine_tests true false false c h e = absurd (h e)

pub not_nine : (t : Bool) → pick {A = ℕ} t 0 7 ≡ 9 → ⊥
not_nine true e = omega arith
not_nine false e = omega arith

-- ---- never of the 2x2

pub factor2_not_nine : (f : Format) (l a : List Float) → Fit f 3 a → length a ≡ 3 → (factor2_of f l a).code ≡ 9 → ⊥
factor2_not_nine f l a fit size e =
    false≢true (nine_tests (all_finite a) (one_at_most_zero f (pivots2_of f a)) false 0 (λ e. omega arith) (sym (factor2-given f l a fit size) ∙ e)).2

pub solved2_not_nine : (f : Format) (a b : List Float) → Fit f 3 a → length a ≡ 3 → (factor_and_solve2_of f a b).code ≡ 9 → ⊥
solved2_not_nine f a b fit size e =
    let x = all_finite (solution2_of f (steps2_of f (zeros f 3) a).factor b) in
    false≢true (nine_tests (all_finite (a ++ b)) (one_at_most_zero f (pivots2_of f a)) false (pick x 0 7) (not_nine x)
    (sym (solved2-given f a b fit size) ∙ e)).2

-- ---- and of the 3x3 exactly by its third pivot

-- of a call whose code is known by its tests; c is its code where each pivot has a root
nine : (f : Format) (a : List Float) → Fit f 6 a → length a ≡ 6 → (u : Bool) → (u ≡ true → all_finite a ≡ true) → (k c : ℕ) → (c ≡ 9 → ⊥)
    → k ≡ pick u (pivot_code f (pivots3_of f a) c) 5 → Exactly (k ≡ 9) ((u ≡ true) × NanThird f a)
nine f a fit size u used k c h e = (
  (λ q.
      let t = nine_tests u (one_at_most_zero f (pivots3_of f a)) (one_nan (pivots3_of f a)) c h (sym e ∙ q) in
      (t.0, (third_met f a fit size (used t.0)).0 (t.1, t.2))),
  (λ q. let m = (third_met f a fit size (used q.0)).1 q.1 in e ∙ (rw (q.0, m.0, m.1))),
)

pub factor3_nine : (f : Format) (l a : List Float) → Fit f 6 a → length a ≡ 6 → Exactly ((factor3_of f l a).code ≡ 9) ((all_finite a ≡ true) × NanThird f a)
factor3_nine f l a fit size = nine f a fit size (all_finite a) (λ e. e) (factor3_of f l a).code 0 (λ e. omega arith) (factor3-given f l a fit size)

pub solved3_nine : (f : Format) (a b : List Float) → Fit f 6 a → length a ≡ 6
    → Exactly ((factor_and_solve3_of f a b).code ≡ 9) ((all_finite (a ++ b) ≡ true) × NanThird f a)
solved3_nine f a b fit size =
    let x = solution3_of f (steps3_of f (zeros f 6) a).factor b in
    nine f a fit size (all_finite (a ++ b)) (λ e. (parts_finite a b e).0) (factor_and_solve3_of f a b).code (pick (all_finite x) 0 7) (not_nine (all_finite x))
    (solved3-given f a b fit size)

-- the pivot's number is 3
pub third_refused : (f : Format) (a : List Float) → Fit f 6 a → length a ≡ 6 → all_finite a ≡ true → NanThird f a → refused_pivot f 1 (pivots3_of f a) ≡ 3
unfolding refused_pivot
third_refused f a fit size fin h =
    let p = not_at_most f (at a 0) h.first in
    let q = not_at_most f (second_of f a) h.second in
    let n = third_is_nan f a fit size fin h in
    rw (p.0, p.1, q.0, q.1) (rw (nan_not_at_most f (third_of f a) n, n))

-- all that is left: the writes before it, with a NaN for L32
steps_left : (f : Format) (l a : List Float) → Fit f 6 a → length a ≡ 6 → all_finite a ≡ true → NanThird f a
    → steps3_of f l a ≡ record { code = 9; pivot = 3; factor = before_third f l a }
unfolding steps3_of pivot_of
steps_left f l a fit size fin h =
    let p = not_at_most f (at a 0) h.first in
    let q = not_at_most f (second_of f a) h.second in
    let n = third_is_nan f a fit size fin h in
    rw (p.0, p.1, q.0, q.1) (rw (nan_not_at_most f (third_of f a) n, n) (rw (only_nan (l32_of f a) (l32_is_nan f a fit size fin h))))

pub nine_left : (f : Format) (l a : List Float) → Fit f 6 a → length a ≡ 6 → (factor3_of f l a).code ≡ 9
    → factor3_of f l a ≡ record { code = 9; pivot = 3; factor = before_third f l a }
unfolding factor3_of
nine_left f l a fit size e =
    let h = (factor3_nine f l a fit size).0 e in
    rw (stands a refl h.0, steps_left f l a fit size h.0 h.1) (unjudged _ _ _)

-- which has, where it is read as a pattern, the bits of the one NaN
pub nine_bits : (l a : List Float) → Fit binary64 6 a → length a ≡ 6 → (factor3_of binary64 l a).code ≡ 9
    → to_bits binary64 (at (factor3_of binary64 l a).factor 4) ≡ 0x7FF8000000000000
unfolding to_bits
nine_bits l a fit size e = ap (λ (r : FactorAnswer). to_bits binary64 (at r.factor 4)) (nine_left binary64 l a fit size e)

-- ---- any answer within the promise of a factor

pub factor2_not_nine_call : (κs : Lfts 1) (a : _) (r : Result (Unit {0}) FactorError) (s : _) → factor2-call.Post κs a r s
    → Fit F 3 a.1.0.«data» → length a.1.0.«data» ≡ 3 → factor_code r ≡ 9 → ⊥
factor2_not_nine_call κs a r s p fit size e =
    factor2_not_nine F a.0.now.«data» a.1.0.«data» fit size (sym (ap (λ (w : FactorAnswer). w.code) p) ∙ e)

pub nine_left_call : (κs : Lfts 1) (a : _) (r : Result (Unit {0}) FactorError) (s : _) → factor3-call.Post κs a r s
    → Fit F 6 a.1.0.«data» → length a.1.0.«data» ≡ 6 → factor_code r ≡ 9
    → factored r s.0.now.«data» ≡ record { code = 9; pivot = 3; factor = before_third F a.0.now.«data» a.1.0.«data» }
nine_left_call κs a r s p fit size e =
    p ∙ nine_left F a.0.now.«data» a.1.0.«data» fit size (sym (ap (λ (w : FactorAnswer). w.code) p) ∙ e)
