-- Every number of a record is finite: each kernel owes that of its answer with code 0, and what is refused and the places that are left over hold +0.
use Rattle.float.proofs.Words.{◌≡◌, refl, true, List, ℕ, ◌<◌, arith, eqb, ltb, length, Float, Format}
use Rattle.float.specs.Choice.{pick}
use Rattle.float.specs.Constants.{zero_f}
use Rattle.float.specs.Sign.{finite, all_finite}
use Rattle.float.proofs.Choice.{chosen, by_eqb, by_ltb}
use Rattle.float.proofs.Finite.{at-finite, zero-finite}
use Rattle.matrix.specs.Places.{zeros, at}
use Rattle.matrix.proofs.Owed.{by_owed}
use Rattle.matrix.proofs.Tables.{table-finite, zeros-finite}
use Rattle.cholesky.specs.Factor.{FactorAnswer}
use Rattle.cholesky.specs.Solve.{SolvedAnswer}
use Rattle.cholesky.proofs.Owed.{factor2_owed, factor3_owed, solved2_owed, solved3_owed}
use Rattle.eigen.proofs.Owed.{eigen2_owed, eigen3_owed}
use Rattle.svd.proofs.Owed.{svd2_owed, svd3_owed}
use Rattle.kinds.specs.Work.{Asked, first_of, padded, refused_kind, from_eigen2, from_eigen3, from_svd2, from_svd3, from_factor, from_solved, used_finite}
use Rattle.kinds.specs.Work.{answered_by, plain_of}
use Rattle.kinds.specs.Ways.{power_for, divided, work_of}
use Rattle.kinds.proofs.Rows.{each_kind}
use Rattle.kinds.proofs.BothWays.{by_back, by_way}
use Rattle.record.specs.Request.{asked_of, form_of, judged_of}
use Rattle.record.proofs.Answers.{judged-sized}
use Rattle.promises.specs.Vouched.{Vouched}
use Rattle.eigen.specs.Eigen2x2.{Eigen2Answer}
use Rattle.eigen.specs.Eigen3x3.{EigenAnswer}
use Rattle.svd.specs.Svd2x2.{Svd2Answer}
use Rattle.svd.specs.Svd3x3.{SvdAnswer}
use Rattle.kinds.specs.Table.{Kind}

-- ---- numbers in their places

padded-finite : (f : Format) (n k : ℕ) (xs : List Float) → length xs ≡ k → all_finite xs ≡ true → all_finite (padded f n k xs) ≡ true
padded-finite f n k xs e h =
    table-finite n (λ (i : ℕ). pick (ltb i k) (at xs i) (zero_f f))
    (λ i _. by_ltb (λ (x : Float). finite x ≡ true) i k (at xs i) (zero_f f) (λ l. at-finite xs h i (omega arith)) (λ _. zero-finite f))

refused_vouched : (f : Format) (code pivot : ℕ) → Vouched (refused_kind f code pivot)
refused_vouched f code pivot = (zeros-finite f 3, zeros-finite f 9, zeros-finite f 9)

-- a record of a factor of s numbers
factor_vouched : (f : Format) (s : ℕ) (r : FactorAnswer) → (r.code ≡ 0 → (length r.factor ≡ s) × (all_finite r.factor ≡ true))
    → Vouched (from_factor f s r)
unfolding from_factor
factor_vouched f s r h =
    by_eqb Vouched r.code 0 _ _ (λ e. (zeros-finite f 3, padded-finite f 9 s r.factor (h e).0 (h e).1, zeros-finite f 9))
    (λ _. refused_vouched f r.code r.pivot)

-- ---- each kind

module _ (f : Format) (a : Asked) where
  pub plain_vouched : Vouched (plain_of f a)
  unfolding answered_by
  plain_vouched =
      let nine = a.nine in
      let three = a.three in
      let zero = refused_vouched f 0 0 in
      each_kind (λ (k : Kind). Vouched (answered_by f k.kernel a)) zero
      (by_owed (eigen2_owed f (first_of 3 nine)) (λ (r : Eigen2Answer). Vouched (from_eigen2 f r))
      (λ h. (padded-finite f 3 2 _ h.0 h.1, padded-finite f 9 4 _ h.2.0 h.2.1, zeros-finite f 9)) zero)
      (by_owed (eigen3_owed f (first_of 6 nine) refl) (λ (r : EigenAnswer). Vouched (from_eigen3 f r))
      (λ h. (padded-finite f 3 3 _ h.0 h.1, padded-finite f 9 9 _ h.2.0 h.2.1, zeros-finite f 9)) zero)
      (by_owed (svd2_owed f (first_of 4 nine)) (λ (r : Svd2Answer). Vouched (from_svd2 f r))
      (λ h. (padded-finite f 3 2 _ h.0 h.1, padded-finite f 9 4 _ h.2.0 h.2.1, padded-finite f 9 4 _ h.2.2.0 h.2.2.1)) zero)
      (by_owed (svd3_owed f (first_of 9 nine) refl) (λ (r : SvdAnswer). Vouched (from_svd3 f r))
      (λ h. (padded-finite f 3 3 _ h.0 h.1, padded-finite f 9 9 _ h.2.0 h.2.1, padded-finite f 9 9 _ h.2.2.0 h.2.2.1)) zero)
      (factor_vouched f 3 _ (λ e. let h = (factor2_owed f (zeros f 3) (first_of 3 nine) refl).full e in (h.0, h.1)))
      (factor_vouched f 6 _ (λ e. let h = (factor3_owed f (zeros f 6) (first_of 6 nine) refl).full e in (h.0, h.1)))
      (by_owed (solved2_owed f (first_of 3 nine) (first_of 2 three)) (λ (r : SolvedAnswer). Vouched (from_solved f 3 2 r))
      (λ h. (padded-finite f 3 2 _ h.2.0 h.2.1, padded-finite f 9 3 _ h.0 h.1, zeros-finite f 9)) zero)
      (by_owed (solved3_owed f (first_of 6 nine) (first_of 3 three)) (λ (r : SolvedAnswer). Vouched (from_solved f 6 3 r))
      (λ h. (padded-finite f 3 3 _ h.2.0 h.2.1, padded-finite f 9 6 _ h.0 h.1, zeros-finite f 9)) zero)
      a.kind

-- the values that are multiplied back have passed a test
work_vouched : (f : Format) (a : Asked) → Vouched (work_of f a)
work_vouched f a =
    let b = divided f (power_for f a) a in
    let h = plain_vouched f b in
    by_way f a Vouched (λ _. by_back f (power_for f a) (plain_of f b) Vouched (λ e. (e, h.1, h.2)) (λ _. refused_vouched f 7 0)) (λ _. plain_vouched f a)

-- ---- every record

pub vouched : (f : Format) (request : List ℕ) → Vouched (judged_of f request)
unfolding judged_of
vouched f request =
    let a = asked_of f request in
    chosen Vouched (eqb (form_of f request) 0) (pick (used_finite a) (work_of f a) (refused_kind f 5 0)) (refused_kind f (form_of f request) 0)
    (chosen Vouched (used_finite a) (work_of f a) (refused_kind f 5 0) (work_vouched f a) (refused_vouched f 5 0)) (refused_vouched f (form_of f request) 0)

-- number by number
pub vouched_each : (f : Format) (request : List ℕ) → let w = judged_of f request in
    (i : ℕ) → (i < 3 → finite (at w.values i) ≡ true) × (i < 9 → finite (at w.left i) ≡ true) × (i < 9 → finite (at w.right i) ≡ true)
vouched_each f request i =
    let w = judged_of f request in
    let h = vouched f request in
    let n = judged-sized f request in (
      (λ l. at-finite w.values h.0 i (omega (arith, n.0))),
      (λ l. at-finite w.left h.1 i (omega (arith, n.1))),
      (λ l. at-finite w.right h.2 i (omega (arith, n.2))),
    )
