-- What 9 and 7 tell of a record: the numbers of a request are values of the format, so what holds of the factors of such numbers holds here, kind by kind.
use Rattle.float.proofs.Words.{◌≡◌, refl, sym, ap, ◌∙◌, subst, subst⁻¹, Bool, true, false, true≢false, false≢true, List, [], ◌++◌, inl, inr, ⊎_elim, ℕ}
use Rattle.matrix.specs.Codes.{code_of}
use Rattle.matrix.specs.declared.codes.Refusal.{Refusal}
use Rattle.std.specs.Prelude.{Result}
use Rattle.float.proofs.Words.{◌≤◌, ◌<◌, arith, length, T, Float, Format, le, fits}
use lib.Ieee.Bits.{of_bits-fits}
use contract.Lifetimes.{Lfts}
use Rattle.float.specs.Width.{F}
use Rattle.float.specs.Choice.{pick}
use Rattle.float.specs.Constants.{zero_f}
use Rattle.float.specs.Exactly.{Exactly}
use Rattle.float.specs.Sign.{all_finite}
use Rattle.float.proofs.Choice.{chosen, by_test, so_or_not, by_eqb, whether}
use Rattle.float.proofs.Finite.{append_passes, parts_finite}
use Rattle.matrix.specs.Places.{at, zeros, Fit}
use Rattle.matrix.proofs.Rows.{by_finite}
use Rattle.matrix.proofs.Tables.{at-tabulate}
use Rattle.cholesky.specs.Pivots.{pivots3_of, one, pivot_code, one_at_most_zero, one_nan, refused_pivot}
use Rattle.cholesky.specs.NanPivot.{NanThird}
use Rattle.cholesky.proofs.Rows.{none_passes}
use Rattle.cholesky.proofs.NanPivots.{no_nan2, whole2_finite, whole3_finite, third_met, third_is_nan}
use Rattle.cholesky.proofs.NanCodes.{nine_tests, not_nine, third_refused}
use Rattle.kinds.specs.Table.{kind_numbered, known_kind}
use Rattle.kinds.specs.Work.{WorkedAnswer, Asked, first_of, refused_kind, used_finite}
use Rattle.kinds.specs.Ways.{work_of}
use Rattle.kinds.proofs.Works.{Used, used}
use Rattle.wire.specs.Bytes.{place_of, number_at}
use Rattle.record.specs.Layout.{nine_at, request_size, answer_size}
use Rattle.record.specs.Request.{kind_of, asked_of, rest_right, form_of, judged_of}
use Rattle.record.specs.Answer.{Step, record_step_of}
use Rattle.record.proofs.Answers.{with_room, wrong_size, no_room}
use Rattle.record.proofs.answer.zanikory_answer_record.Reads as answer-record
use Rattle.promises.specs.Scope.{three_begin, kind_in, numbers_in, kernel_numbered, given}
use Rattle.promises.specs.Conditions.{used_in, pivots_in, pivots_of, factor_made2, factor_made3}
use Rattle.promises.specs.NanPivots.{HasFactor3x3, six_in, Nine, Seven}
use Rattle.promises.proofs.Scope.{each_number, past_eight_lem, in_table, numbers_in_lem, given_asked}
use Rattle.promises.proofs.Kernels.{made_of, kind_code}
use Rattle.promises.proofs.Codes.{codes}
use Rattle.promises.proofs.Told.{Sizes, Listed, Rest, AllFinite, nine_told}
use Rattle.promises.proofs.Pivots.{known_form}
use Rattle.promises.proofs.Leaves.{leaves}

-- ---- 7 by the tests: t and n say that a pivot is at most zero, and that one is NaN; m says that what is made is finite

seven_tests : (t n m : Bool) → pick {A = ℕ} t 6 (pick n 9 (pick m 0 7)) ≡ 7 → (t ≡ false) × (n ≡ false) × (m ≡ false)
seven_tests true n m e = absurd (omega arith)
seven_tests false true m e = absurd (omega arith)
seven_tests false false true e = absurd (omega arith)
seven_tests false false false e = (refl, refl, refl)

-- ---- each kind, of finite numbers that are values of the format

module _ (f : Format) (a : Asked) (fit : Fit f 9 a.nine) where
  first_fit : (n : ℕ) → n ≤ 9 → Fit f n (first_of n a.nine)
  first_fit n h i l = subst⁻¹ (λ (x : Float). T (fits f x)) (at-tabulate n (at a.nine) i l) (fit i (omega arith))

  abbrev pivots : ℕ → List Float
  pivots n = pivots_of f (kind_numbered n).kernel a

  abbrev NineAt : ℕ → Type 0
  NineAt n = Used a (kind_numbered n) → (one_at_most_zero f (pivots n) ≡ false) × (one_nan (pivots n) ≡ true)
      → HasFactor3x3 n × (all_finite (first_of 6 a.nine) ≡ true) × NanThird f (first_of 6 a.nine)

  -- a kind without pivots has none that is NaN, and of the 2x2 none is
  nine_at_lem : (n : ℕ) → NineAt n
  unfolding one
  nine_at_lem =
      let fit3 = first_fit 3 (omega arith) in
      let fit6 = first_fit 6 (omega arith) in
      each_number NineAt (λ _ t. none t) (λ _ t. none t) (λ _ t. none t) (λ _ t. none t) (λ _ t. none t)
      (λ u t. absurd (false≢true (sym (no_nan2 f (first_of 3 a.nine) fit3 refl u.0 t.0) ∙ t.1)))
      (λ u t. (inl refl, u.0, (third_met f (first_of 6 a.nine) fit6 refl u.0).0 t))
      (λ u t. absurd (false≢true (sym (no_nan2 f (first_of 3 a.nine) fit3 refl u.0 t.0) ∙ t.1)))
      (λ u t. (inr refl, u.0, (third_met f (first_of 6 a.nine) fit6 refl u.0).0 t))
      (λ n. rw (past_eight_lem n) (λ _ t. none t))
    where
      none : {X : Type 0} → (one_at_most_zero f [] ≡ false) × (one_nan [] ≡ true) → X
      none t = absurd (false≢true t.1)

  -- the numbers that a kind of this number makes
  abbrev made : ℕ → List Float
  made n = made_of f (record { kind = n; way = a.way; nine = a.nine; three = a.three })

  abbrev SevenAt : ℕ → Type 0
  SevenAt n = Used a (kind_numbered n) → (one_at_most_zero f (pivots n) ≡ false) × (one_nan (pivots n) ≡ false) × (all_finite (made n) ≡ false)
      → Seven f (kind_numbered n).kernel a

  -- a factor that is whole is finite
  seven_at : (n : ℕ) → SevenAt n
  seven_at =
      let fit3 = first_fit 3 (omega arith) in
      let fit6 = first_fit 6 (omega arith) in
      each_number SevenAt (λ _ _. tt) (λ _ _. tt) (λ _ _. tt) (λ _ _. tt) (λ _ _. tt)
      (λ u t. true≢false (sym (whole2_finite f (first_of 3 a.nine) fit3 refl u.0 t.0 (zeros f 3)) ∙ t.2))
      (λ u t. true≢false (sym (whole3_finite f (first_of 6 a.nine) fit6 refl u.0 t.0 t.1 (zeros f 6)) ∙ t.2))
      (λ u t. by_solution (factor_made2 f a) _ (whole2_finite f (first_of 3 a.nine) fit3 refl u.0 t.0 (zeros f 3)) t.2)
      (λ u t. by_solution (factor_made3 f a) _ (whole3_finite f (first_of 6 a.nine) fit6 refl u.0 t.0 t.1 (zeros f 6)) t.2)
      (λ n. rw (past_eight_lem n) (λ _ _. tt))
    where
      by_solution : (l x : List Float) → all_finite l ≡ true → all_finite (l ++ x) ≡ false → (all_finite l ≡ true) × (all_finite x ≡ false)
      by_solution l x e h = (e, sym (append_passes l x e) ∙ h)

-- ---- the record step: a code above 5 is the kind's, of a known kind and of finite numbers

module _ (f : Format) (s : List ℕ) where
  pub asked_fit : Fit f 9 (asked_of f s).nine
  asked_fit i l =
      subst⁻¹ (λ (x : Float). T (fits f x)) (at-tabulate 9 (λ (i : ℕ). number_at f (place_of f nine_at i) s) i l) (of_bits-fits f _)

  -- what is told by the code k
  abbrev Asking : ℕ → Type 0
  Asking k = (known_kind (kind_of s) ≡ true) × (used_finite (asked_of f s) ≡ true) × ((work_of f (asked_of f s)).code ≡ k)

  form_most : form_of f s ≤ 4
  unfolding form_of
  form_most =
      let Small : ℕ → Type 0 = λ (n : ℕ). n ≤ 4 in
      chosen Small (known_kind (kind_of s)) _ 3
      (chosen Small (rest_right f s) 0 4 (omega arith) (omega arith)) (omega arith)

  form_known : form_of f s ≡ 0 → known_kind (kind_of s) ≡ true
  unfolding form_of
  form_known = known_form (known_kind (kind_of s)) (rest_right f s)

  judged_asks : (k : ℕ) → 5 < k → (judged_of f s).code ≡ k → Asking k
  unfolding judged_of
  judged_asks k h =
      let P : WorkedAnswer → Type 0 = λ (w : WorkedAnswer). w.code ≡ k → Asking k in
      by_eqb P (form_of f s) 0 (pick (used_finite (asked_of f s)) (work_of f (asked_of f s)) (refused_kind f 5 0)) (refused_kind f (form_of f s) 0)
      (λ e. by_test P (used_finite (asked_of f s)) (work_of f (asked_of f s)) (refused_kind f 5 0) (λ u c. (form_known e, u, c)) (λ _ c. absurd (omega arith)))
      (λ _ c. absurd (omega (arith, form_most)))

  step_asks : (a : List ℕ) (k : ℕ) → 5 < k → (record_step_of f s a).code ≡ k → Asking k
  step_asks a k h c =
      whether (length a) (answer_size f)
      (λ room. whether (length s) (request_size f)
      (λ size. judged_asks k h (sym (ap (λ (t : Step). t.code) (with_room f s a room size)) ∙ c))
      (λ n. let e = ap (λ (t : Step). t.code) (wrong_size f s a room n) in absurd (omega (arith, e, c))))
      (λ n. let e = ap (λ (t : Step). t.code) (no_room f s a n) in absurd (omega (arith, e, c)))

  -- its code by the tests of its kind
  by_kind_code : {k : ℕ} → Asking k
      → pivot_code f (pivots_of f (kind_numbered (kind_of s)).kernel (asked_of f s)) (pick (all_finite (made_of f (asked_of f s))) 0 7) ≡ k
  by_kind_code q = sym (kind_code f (asked_of f s) q.0 q.1) ∙ q.2

  six_in_lem : first_of 6 (asked_of f s).nine ≡ six_in f s
  six_in_lem = sym (numbers_in_lem f 8 6 s)

  pub seven_means : (a : List ℕ) → (record_step_of f s a).code ≡ 7 → Seven f (kernel_numbered (kind_in s)) (given f s)
  seven_means a c =
      let q = step_asks a 7 (omega arith) c in
      rw ((in_table (kind_of s)).2, given_asked f s)
      (seven_at f (asked_of f s) asked_fit (kind_of s) (used (asked_of f s) q.1) (seven_tests _ _ _ (by_kind_code q)))

  -- ---- 9: of the six numbers

  six_fit : Fit f 6 (six_in f s)
  six_fit = subst (Fit f 6) six_in_lem (first_fit f (asked_of f s) asked_fit 6 (omega arith))

  pivots_six : HasFactor3x3 (kind_in s) → pivots_in f s ≡ pivots3_of f (six_in f s)
  pivots_six = ⊎_elim (λ (e : kind_in s ≡ 6). rw e) (λ (e : kind_in s ≡ 8). rw e)

  pub nine_means : (a : List ℕ) → (record_step_of f s a).code ≡ 9 → Nine f s (record_step_of f s a).answer
  nine_means a c =
      let q = step_asks a 9 (omega arith) c in
      let m = all_finite (made f (asked_of f s) asked_fit (kind_of s)) in
      let t = nine_tests true _ _ (pick m 0 7) (not_nine m) (by_kind_code q) in
      let n = nine_at_lem f (asked_of f s) asked_fit (kind_of s) (used (asked_of f s) q.1) (t.1, t.2) in
      let finite : all_finite (six_in f s) ≡ true = subst (λ (xs : List Float). all_finite xs ≡ true) six_in_lem n.1 in
      let third : NanThird f (six_in f s) = subst (NanThird f) six_in_lem n.2 in
      record {
        kind = n.0;
        third = third;
        number = (leaves f s a).pivot (inr c) ∙ ap (refused_pivot f 1) (pivots_six n.0) ∙ third_refused f (six_in f s) six_fit refl finite third;
      }

  -- of a request that has the right size, kind and zeros, and finite numbers: exactly then
  module _ (a : List ℕ) (kind : HasFactor3x3 (kind_in s)) (sizes : Sizes f s a _ (codes f s a)) (rest : Rest f s a _ (codes f s a))
      (given-finite : AllFinite f s a _ (codes f s a) (used_in f s)) where
    listed : Listed f s a _ (codes f s a)
    listed =
        ⊎_elim (λ (e : kind_in s ≡ 6). rw e (omega arith, omega arith)) (λ (e : kind_in s ≡ 8). rw e (omega arith, omega arith)) kind

    used_six : all_finite (six_in f s) ≡ true
    used_six = ⊎_elim (λ (e : kind_in s ≡ 6). first 0 (rw e at all)) (λ (e : kind_in s ≡ 8). first 3 (rw e at all)) kind
      where
        all : all_finite (used_in f s) ≡ true
        all = so_or_not (all_finite (used_in f s)) (λ e. e) (λ e. absurd ((by_finite (used_in f s)).0 (rw e) given-finite))

        first : (n : ℕ) → all_finite (numbers_in f 8 6 s ++ numbers_in f (three_begin f) n s) ≡ true → all_finite (six_in f s) ≡ true
        first n e = (parts_finite (six_in f s) (numbers_in f (three_begin f) n s) e).0

    pub nine_exactly : Exactly ((record_step_of f s a).code ≡ 9) (NanThird f (six_in f s))
    nine_exactly = ((λ c. (nine_means a c).third), there)
      where
        there : NanThird f (six_in f s) → (record_step_of f s a).code ≡ 9
        there h =
            let m = (third_met f (six_in f s) six_fit refl used_six).1 h in
            nine_told f s a _ (codes f s a) sizes listed rest given-finite
            (none_passes (λ (p : Float). le p (zero_f f)) (pivots_in f s) (rw (pivots_six kind) m.0))
            2 (rw (pivots_six kind) (omega arith)) (rw (pivots_six kind) (third_is_nan f (six_in f s) six_fit refl used_six h))

-- ---- any answer within the promise of the record step

pub nine_by_calls : (κs : Lfts 2) (a : _) (r : Result (Unit {0}) Refusal) (x : _) → answer-record.Post κs a r x → code_of r ≡ 9 → Nine F a.0.now x.1.0.now
nine_by_calls κs a r x p e = rw p.1 (nine_means F a.0.now a.1.0.now (sym p.0 ∙ e))

pub seven_by_calls : (κs : Lfts 2) (a : _) (r : Result (Unit {0}) Refusal) (x : _) → answer-record.Post κs a r x → code_of r ≡ 7
    → Seven F (kernel_numbered (kind_in a.0.now)) (given F a.0.now)
seven_by_calls κs a r x p e = seven_means F a.0.now a.1.0.now (sym p.0 ∙ e)
