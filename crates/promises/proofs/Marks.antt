-- The mark of a record with code 0 is 1 exactly if it is owed: each kernel says so of its own mark, and the byte is that mark.
use Rattle.float.proofs.Words.{◌≡◌, refl, ap, ◌∙◌, Bool, true, false, false≢true, List, ℕ, ◌≤◌, arith, eqb, Format}
use Rattle.float.specs.Choice.{pick}
use Rattle.float.specs.Exactly.{Exactly}
use Rattle.float.proofs.Choice.{chosen, by_eqb}
use Rattle.eigen.specs.Eigen2x2.{eigen2_of}
use Rattle.eigen.specs.Eigen3x3.{eigen_of}
use Rattle.eigen.proofs.Counted as eigen
use Rattle.eigen.proofs.Settled as eigenMark
use Rattle.svd.specs.Svd2x2.{svd2_of}
use Rattle.svd.specs.Svd3x3.{svd_of}
use Rattle.svd.proofs.Counted as svd
use Rattle.svd.proofs.Settled as svdMark
use Rattle.cholesky.specs.Factor.{FactorAnswer}
use Rattle.jacobi.specs.Blind.{mark_of}
use Rattle.kinds.specs.Table.{Kernel, Kind, kind_numbered}
use Rattle.kinds.specs.Work.{WorkedAnswer, Asked, first_of, done_mark, refused_kind, from_factor, used_finite, answered_by, plain_of}
use Rattle.kinds.specs.Ways.{power_for, divided, worked_on, work_of}
use Rattle.kinds.proofs.Rows.{each_kind}
use Rattle.kinds.proofs.BothWays.{by_back, by_way, work_mark}
use Rattle.record.specs.Request.{kind_of, asked_of, form_of, judged_of}
use Rattle.promises.specs.Scope.{worked_in}
use Rattle.promises.specs.Marks.{MarkOwed, MarkIn}
use Rattle.promises.proofs.Scope.{in_table, worked_in_lem}

-- ---- a kind's answer

byte_means : {N : Type 0} (b : Bool) → Exactly (b ≡ true) N → Exactly (mark_of b ≡ 1) N
byte_means true h = ((λ _. h.0 refl), (λ _. refl))
byte_means false h = ((λ e. absurd (omega arith)), (λ n. absurd (false≢true (h.1 n))))

-- of a kind that makes no rotation
always : {m : ℕ} → m ≡ 1 → Exactly (m ≡ 1) (Unit {0})
always e = ((λ _. tt), (λ _. e))

factor_owed : (f : Format) (s : ℕ) (r : FactorAnswer) → (from_factor f s r).code ≡ 0 → Exactly ((from_factor f s r).settled ≡ 1) (Unit {0})
unfolding from_factor
factor_owed f s r =
    by_eqb (λ (w : WorkedAnswer). w.code ≡ 0 → Exactly (w.settled ≡ 1) (Unit {0})) r.code 0 _ _ (λ _ _. always refl) (λ n c. absurd (n c))

plain_owed : (f : Format) (a : Asked) → (plain_of f a).code ≡ 0 → Exactly ((plain_of f a).settled ≡ 1) (MarkOwed f (kind_numbered a.kind).kernel a)
unfolding answered_by
plain_owed f a =
    let nine = a.nine in
    each_kind (λ (k : Kind). (answered_by f k.kernel a).code ≡ 0 → Exactly ((answered_by f k.kernel a).settled ≡ 1) (MarkOwed f k.kernel a))
    (λ c. absurd (omega arith))
    (λ c. byte_means (eigen2_of f (first_of 3 nine)).settled (eigenMark.settled2_means f (first_of 3 nine) c))
    (λ c. byte_means (eigen_of f (first_of 6 nine)).settled (eigen.counted f (first_of 6 nine) c).mark)
    (λ c. byte_means (svd2_of f (first_of 4 nine)).settled (svdMark.settled2_means f (first_of 4 nine) c))
    (λ c. byte_means (svd_of f (first_of 9 nine)).settled (svd.counted f (first_of 9 nine) c).mark)
    (factor_owed f 3 _)
    (factor_owed f 6 _)
    (λ c. always (ap done_mark c))
    (λ c. always (ap done_mark c))
    a.kind

-- the mark is that of the matrix that is worked, and multiplying back does not change it
work_owed : (f : Format) (a : Asked) → (work_of f a).code ≡ 0 → Exactly ((work_of f a).settled ≡ 1) (MarkOwed f (kind_numbered a.kind).kernel (worked_on f a))
work_owed f a =
    let Owed : Asked → WorkedAnswer → Type 0 =
    λ (b : Asked) (w : WorkedAnswer). w.code ≡ 0 → Exactly (w.settled ≡ 1) (MarkOwed f (kind_numbered a.kind).kernel b) in
    by_way f a (Owed (worked_on f a))
    (λ e. rw e (by_back f (power_for f a) _ (Owed (divided f (power_for f a) a)) (λ _. plain_owed f (divided f (power_for f a) a))
    (λ _ c. absurd (omega arith))))
    (λ e. rw e (plain_owed f a))

-- ---- a request of the right size

module _ (f : Format) (s : List ℕ) where
  mark_in : MarkIn f s ≡ MarkOwed f (kind_numbered (kind_of s)).kernel (worked_on f (asked_of f s))
  mark_in = ap (λ (c : Kernel). MarkOwed f c (worked_in f s)) (in_table (kind_of s)).2 ∙ ap (MarkOwed f (kind_numbered (kind_of s)).kernel) (worked_in_lem f s)

  pub judged_mark : (judged_of f s).settled ≤ 1
  unfolding judged_of
  judged_mark =
      let P : WorkedAnswer → Type 0 = λ (w : WorkedAnswer). w.settled ≤ 1 in
      chosen P (eqb (form_of f s) 0) (pick (used_finite (asked_of f s)) (work_of f (asked_of f s)) (refused_kind f 5 0)) (refused_kind f (form_of f s) 0)
      (chosen P (used_finite (asked_of f s)) (work_of f (asked_of f s)) (refused_kind f 5 0) (work_mark f (asked_of f s)) (omega arith)) (omega arith)

  pub judged-marked : (judged_of f s).code ≡ 0 → Exactly ((judged_of f s).settled ≡ 1) (MarkIn f s)
  unfolding judged_of
  judged-marked =
      let P : WorkedAnswer → Type 0 = λ (w : WorkedAnswer). w.code ≡ 0 → Exactly (w.settled ≡ 1) (MarkIn f s) in
      by_eqb P (form_of f s) 0 (pick (used_finite (asked_of f s)) (work_of f (asked_of f s)) (refused_kind f 5 0)) (refused_kind f (form_of f s) 0)
      (λ _. chosen P (used_finite (asked_of f s)) (work_of f (asked_of f s)) (refused_kind f 5 0) (rw mark_in (work_owed f (asked_of f s)))
      (λ c. absurd (omega arith)))
      (λ k c. absurd (k c))
