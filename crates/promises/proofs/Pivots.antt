-- With codes 6 and 9 an answer has the number of the first pivot that has no root: the steps stop there, and their number is handed on.
use Rattle.float.proofs.Words.{◌≡◌, refl, subst, Bool, true, false, List, ℕ, arith, Format}
use Rattle.float.specs.Choice.{pick}
use Rattle.float.specs.Sign.{all_finite}
use Rattle.float.proofs.Choice.{by_test, by_eqb}
use Rattle.matrix.specs.Places.{zeros}
use Rattle.cholesky.specs.Factor.{FactorAnswer}
use Rattle.cholesky.specs.Pivots.{one, refused_pivot, Stopped}
use Rattle.cholesky.proofs.Stops.{unstopped}
use Rattle.cholesky.proofs.Codes.{factor2_pivot, factor3_pivot, solved2_pivot, solved3_pivot}
use Rattle.kinds.specs.Table.{Eigen2x2, Eigen3x3, Svd2x2, Svd3x3, Kind, kind_numbered, known_kind}
use Rattle.kinds.specs.Work.{WorkedAnswer, Asked, first_of, refused_kind, from_factor, used_finite, answered_by}
use Rattle.kinds.specs.Ways.{work_of}
use Rattle.kinds.proofs.Rows.{each_kind}
use Rattle.kinds.proofs.Works.{factor_code}
use Rattle.kinds.proofs.BothWays.{by_way}
use Rattle.record.specs.Request.{kind_of, asked_of, rest_right, form_of, judged_of}
use Rattle.promises.specs.Conditions.{pivots_of, numbers_of, pivots_in}
use Rattle.promises.proofs.Scope.{pivots_in_lem}
use Rattle.promises.proofs.Kernels.{later_code, plain_code, scaled_unstopped}

-- with 6 and 9 a record of a factor has the factor's number
factor_hands : (f : Format) (s pivot : ℕ) (r : FactorAnswer) → (Stopped r.code → r.pivot ≡ pivot)
    → Stopped (from_factor f s r).code → (from_factor f s r).count ≡ pivot
unfolding from_factor
factor_hands f s pivot r h c =
    by_eqb (λ (w : WorkedAnswer). Stopped w.code → w.count ≡ pivot) r.code 0 _ _
    (λ _ c. absurd (unstopped 0 refl c)) (λ _ _. h (subst Stopped (factor_code f s r) c)) c

-- ---- the kinds

without_pivots : (t : Bool) → Stopped (pick t 0 7) → ⊥
without_pivots true = unstopped 0 refl
without_pivots false = unstopped 7 refl

module _ (f : Format) (a : Asked) where
  -- a kernel without pivots makes no 6 and no 9
  abbrev Hands : Kind → Type 0
  Hands k = (answered_by f k.kernel a).code ≡ later_code f a k.kernel → Stopped (answered_by f k.kernel a).code
      → (answered_by f k.kernel a).count ≡ refused_pivot f 1 (pivots_of f k.kernel a)

  plain_hands : (n : ℕ) → Hands (kind_numbered n)
  unfolding answered_by one
  plain_hands =
      each_kind Hands (λ _ c. absurd (unstopped 3 refl c))
      (λ e c. absurd (without_pivots (all_finite (numbers_of f Eigen2x2 a)) (subst Stopped e c)))
      (λ e c. absurd (without_pivots (all_finite (numbers_of f Eigen3x3 a)) (subst Stopped e c)))
      (λ e c. absurd (without_pivots (all_finite (numbers_of f Svd2x2 a)) (subst Stopped e c)))
      (λ e c. absurd (without_pivots (all_finite (numbers_of f Svd3x3 a)) (subst Stopped e c)))
      (λ _ c. factor_hands f 3 _ _ (factor2_pivot f (zeros f 3) (first_of 3 a.nine)) c)
      (λ _ c. factor_hands f 6 _ _ (factor3_pivot f (zeros f 6) (first_of 6 a.nine)) c)
      (λ _. solved2_pivot f (first_of 3 a.nine) (first_of 2 a.three))
      (λ _. solved3_pivot f (first_of 6 a.nine) (first_of 3 a.three))

  -- ---- both ways: a matrix that is scaled has no pivots, and its code is 0 or 7

  work_hands : known_kind a.kind ≡ true → used_finite a ≡ true → Stopped (work_of f a).code
      → (work_of f a).count ≡ refused_pivot f 1 (pivots_of f (kind_numbered a.kind).kernel a)
  unfolding one
  work_hands known used =
      by_way f a (λ (w : WorkedAnswer). Stopped w.code → w.count ≡ refused_pivot f 1 (pivots_of f (kind_numbered a.kind).kernel a))
      (λ e c. absurd (scaled_unstopped f a known used e c)) (λ _. plain_hands a.kind (plain_code f a known used))

-- ---- the record

pub known_form : (k z : Bool) → pick {A = ℕ} k (pick z 0 4) 3 ≡ 0 → k ≡ true
known_form true z e = refl
known_form false z e = absurd (omega arith)

form_unstopped : (k z : Bool) → Stopped (pick k (pick z 0 4) 3) → ⊥
form_unstopped true true = unstopped 0 refl
form_unstopped true false = unstopped 4 refl
form_unstopped false z = unstopped 3 refl

pub pivot_given : (f : Format) (s : List ℕ) → Stopped (judged_of f s).code → (judged_of f s).count ≡ refused_pivot f 1 (pivots_in f s)
unfolding judged_of form_of
pivot_given f s =
    let a = asked_of f s in
    let kind = kind_numbered (kind_of s) in
    let P : WorkedAnswer → Type 0 = λ (w : WorkedAnswer). Stopped w.code → w.count ≡ refused_pivot f 1 (pivots_of f kind.kernel a) in
    rw (pivots_in_lem f s)
    (by_eqb P (form_of f s) 0 (pick (used_finite a) (work_of f a) (refused_kind f 5 0)) (refused_kind f (form_of f s) 0)
    (λ e. by_test P (used_finite a) (work_of f a) (refused_kind f 5 0)
    (λ u. work_hands f a (known_form (known_kind (kind_of s)) (rest_right f s) e) u)
    (λ _ c. absurd (unstopped 5 refl c)))
    (λ _ c. absurd (form_unstopped (known_kind (kind_of s)) (rest_right f s) c)))
