-- The answer of every kind: its sizes, only a code and a pivot's number where the code is not 0, its count and its mark, and no code 5 over finite numbers.
-- Each kernel owes this of its answer.
use Rattle.float.proofs.Words.{◌≡◌, refl, sym, ap, ◌∙◌, subst⁻¹, Bool, true, false, ℕ, ◌≤◌, arith, eqb, length, Format, ne_eqb}
use Rattle.float.specs.Sign.{all_finite}
use Rattle.float.proofs.Choice.{chosen, by_eqb}
use Rattle.float.proofs.Finite.{both_true, append_passes}
use Rattle.matrix.specs.Places.{zeros}
use Rattle.matrix.proofs.Owed.{not_five}
use Rattle.jacobi.specs.Blind.{mark_of}
use Rattle.cholesky.specs.Factor.{FactorAnswer}
use Rattle.cholesky.specs.Pivots.{Stopped}
use Rattle.cholesky.specs.Solve.{factor_and_solve2_of, factor_and_solve3_of}
use Rattle.cholesky.proofs.Rows.{factor2_unstopped, factor3_unstopped, solved2_unstopped, solved3_unstopped}
use Rattle.cholesky.proofs.Owed.{factor2_owed, factor3_owed, solved2_owed, solved3_owed}
use Rattle.eigen.specs.Eigen2x2.{eigen2_of}
use Rattle.eigen.specs.Eigen3x3.{EigenAnswer, eigen_of}
use Rattle.eigen.proofs.Owed.{eigen2_owed, eigen3_owed}
use Rattle.svd.specs.Svd2x2.{svd2_of}
use Rattle.svd.specs.Svd3x3.{SvdAnswer, svd_of}
use Rattle.svd.proofs.Owed.{svd2_owed, svd3_owed}
use Rattle.kinds.specs.Table.{Kind, kind_numbered}
use Rattle.kinds.specs.Work.{first_of, refused_kind, from_eigen2, from_eigen3, from_svd2, from_svd3, from_factor, from_solved, used_finite}
use Rattle.kinds.specs.Work.{Asked, WorkedAnswer, answered_by, plain_of}
use Rattle.kinds.proofs.Rows.{each_kind}

-- ---- three values, nine numbers left and nine right

abbrev pub Sized : WorkedAnswer → Type 0
Sized w = (length w.values ≡ 3) × (length w.left ≡ 9) × (length w.right ≡ 9)

factor_sized : (f : Format) (s : ℕ) (r : FactorAnswer) → Sized (from_factor f s r)
unfolding from_factor
factor_sized f s r = chosen Sized (eqb r.code 0) _ _ (refl, refl, refl) (refl, refl, refl)

pub plain-sized : (f : Format) (a : Asked) → Sized (plain_of f a)
unfolding answered_by
plain-sized f a =
    each_kind (λ (k : Kind). Sized (answered_by f k.kernel a)) (refl, refl, refl)
    (refl, refl, refl)
    (refl, refl, refl)
    (refl, refl, refl)
    (refl, refl, refl)
    (factor_sized f 3 _)
    (factor_sized f 6 _)
    (refl, refl, refl)
    (refl, refl, refl)
    a.kind

-- ---- with a code other than 0: only the code and a pivot's number

abbrev pub Clear : Format → WorkedAnswer → Type 0
Clear f w = (w.code ≡ 0 → ⊥) → w ≡ refused_kind f w.code w.count

same_refusal : (f : Format) (w : WorkedAnswer) (k p : ℕ) → w ≡ refused_kind f k p → w ≡ refused_kind f w.code w.count
same_refusal f w k p e = subst⁻¹ (λ (w : WorkedAnswer). w ≡ refused_kind f w.code w.count) e refl

factor_clear : (f : Format) (s : ℕ) (r : FactorAnswer) → Clear f (from_factor f s r)
unfolding from_factor
factor_clear f s r = chosen (Clear f) (eqb r.code 0) _ _ (λ h. absurd (h refl)) (λ _. refl)

pub plain_clear : (f : Format) (a : Asked) → Clear f (plain_of f a)
unfolding answered_by
plain_clear f a =
    let nine = a.nine in
    let three = a.three in
    each_kind (λ (k : Kind). Clear f (answered_by f k.kernel a)) (λ _. refl)
    (λ n. same_refusal f _ _ 0 (ap (from_eigen2 f) ((eigen2_owed f (first_of 3 nine)).clear n)))
    (λ n. same_refusal f _ _ 0 (ap (from_eigen3 f) ((eigen3_owed f (first_of 6 nine) refl).clear n)))
    (λ n. same_refusal f _ _ 0 (ap (from_svd2 f) ((svd2_owed f (first_of 4 nine)).clear n)))
    (λ n. same_refusal f _ _ 0 (ap (from_svd3 f) ((svd3_owed f (first_of 9 nine) refl).clear n)))
    (factor_clear f 3 _)
    (factor_clear f 6 _)
    (λ n. ap (from_solved f 3 2) ((solved2_owed f (first_of 3 nine) (first_of 2 three)).clear n) ∙ (rw (ne_eqb _ 0 n)))
    (λ n. ap (from_solved f 6 3) ((solved3_owed f (first_of 6 nine) (first_of 3 three)).clear n) ∙ (rw (ne_eqb _ 0 n)))
    a.kind

-- ---- byte 6 is 0, but for a pivot's number and for the rotations of a kind that counts them

abbrev pub Uncounted : Bool → WorkedAnswer → Type 0
Uncounted counts w = (Stopped w.code → ⊥) → ((w.code ≡ 0) × (counts ≡ true) → ⊥) → w.count ≡ 0

factor_uncounted : (f : Format) (s : ℕ) (r : FactorAnswer) → ((Stopped r.code → ⊥) → r.pivot ≡ 0) → Uncounted false (from_factor f s r)
unfolding from_factor
factor_uncounted f s r h = by_eqb (Uncounted false) r.code 0 _ _ (λ _ _ _. refl) (λ _ n _. h n)

pub plain_uncounted : (f : Format) (a : Asked) → Uncounted (kind_numbered a.kind).counts (plain_of f a)
unfolding answered_by
plain_uncounted f a =
    let nine = a.nine in
    let three = a.three in
    each_kind (λ (k : Kind). Uncounted k.counts (answered_by f k.kernel a)) (λ _ _. refl)
    (λ _ _. refl)
    (λ _ c. ap (λ (r : EigenAnswer). r.made.count) ((eigen3_owed f (first_of 6 nine) refl).clear (λ e. c (e, refl))))
    (λ _ _. refl)
    (λ _ c. ap (λ (r : SvdAnswer). r.made.count) ((svd3_owed f (first_of 9 nine) refl).clear (λ e. c (e, refl))))
    (factor_uncounted f 3 _ (factor2_unstopped f (zeros f 3) (first_of 3 nine)))
    (factor_uncounted f 6 _ (factor3_unstopped f (zeros f 6) (first_of 6 nine)))
    (λ n _. solved2_unstopped f (first_of 3 nine) (first_of 2 three) n)
    (λ n _. solved3_unstopped f (first_of 6 nine) (first_of 3 three) n)
    a.kind

-- ---- byte 7 is at most 1

mark_most : (b : Bool) → mark_of b ≤ 1
mark_most true = omega arith
mark_most false = omega arith

factor_mark : (f : Format) (s : ℕ) (r : FactorAnswer) → (from_factor f s r).settled ≤ 1
unfolding from_factor
factor_mark f s r = chosen (λ (w : WorkedAnswer). w.settled ≤ 1) (eqb r.code 0) _ _ (omega arith) (omega arith)

pub plain_mark : (f : Format) (a : Asked) → (plain_of f a).settled ≤ 1
unfolding answered_by
plain_mark f a =
    let nine = a.nine in
    let three = a.three in
    each_kind (λ (k : Kind). (answered_by f k.kernel a).settled ≤ 1) (omega arith)
    (mark_most (eigen2_of f (first_of 3 nine)).settled)
    (mark_most (eigen_of f (first_of 6 nine)).settled)
    (mark_most (svd2_of f (first_of 4 nine)).settled)
    (mark_most (svd_of f (first_of 9 nine)).settled)
    (factor_mark f 3 _)
    (factor_mark f 6 _)
    (mark_most (eqb (factor_and_solve2_of f (first_of 3 nine) (first_of 2 three)).code 0))
    (mark_most (eqb (factor_and_solve3_of f (first_of 6 nine) (first_of 3 three)).code 0))
    a.kind

-- ---- over finite numbers: not 5

abbrev pub NotFive : WorkedAnswer → Type 0
NotFive w = w.code ≡ 5 → ⊥

-- a record of a factor has the factor's code
pub factor_code : (f : Format) (s : ℕ) (r : FactorAnswer) → (from_factor f s r).code ≡ r.code
unfolding from_factor
factor_code f s r = by_eqb (λ (w : WorkedAnswer). w.code ≡ r.code) r.code 0 _ _ (λ e. sym e) (λ _. refl)

-- the numbers that a row uses are finite
abbrev pub Used : Asked → Kind → Type 0
Used a k = (all_finite (first_of k.nine a.nine) ≡ true) × (all_finite (first_of k.three a.three) ≡ true)

pub used : (a : Asked) → used_finite a ≡ true → Used a (kind_numbered a.kind)
used a h = both_true (all_finite (first_of (kind_numbered a.kind).nine a.nine)) (all_finite (first_of (kind_numbered a.kind).three a.three)) h

pub plain-five : (f : Format) (a : Asked) → used_finite a ≡ true → NotFive (plain_of f a)
unfolding answered_by
plain-five f a h =
    let nine = a.nine in
    let three = a.three in
    each_kind (λ (k : Kind). Used a k → NotFive (answered_by f k.kernel a)) (λ _ c. omega arith)
    (λ h. not_five (eigen2_owed f (first_of 3 nine)) h.0)
    (λ h. not_five (eigen3_owed f (first_of 6 nine) refl) h.0)
    (λ h. not_five (svd2_owed f (first_of 4 nine)) h.0)
    (λ h. not_five (svd3_owed f (first_of 9 nine) refl) h.0)
    (λ h c. not_five (factor2_owed f (zeros f 3) (first_of 3 nine) refl) h.0 (sym (factor_code f 3 _) ∙ c))
    (λ h c. not_five (factor3_owed f (zeros f 6) (first_of 6 nine) refl) h.0 (sym (factor_code f 6 _) ∙ c))
    (λ h. not_five (solved2_owed f (first_of 3 nine) (first_of 2 three)) (append_passes (first_of 3 nine) (first_of 2 three) h.0 ∙ h.1))
    (λ h. not_five (solved3_owed f (first_of 6 nine) (first_of 3 three)) (append_passes (first_of 6 nine) (first_of 3 three) h.0 ∙ h.1))
    a.kind (used a h)
