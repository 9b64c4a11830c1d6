-- A kind's code over finite numbers: 6 where a pivot is at most zero, else 9 where one is NaN, else 7 where a number of the answer is not finite, else 0.
-- It is the kernel's own exact code, of which 5 is left out; and in the scaled way 7 also where a value is not finite when it is multiplied back.
use Rattle.float.proofs.Words.{◌≡◌, refl, ap, ◌∙◌, subst, Bool, true, false≢true, List, [], ◌++◌, ℕ, eqb, Float, Format}
use Rattle.float.specs.Choice.{pick}
use Rattle.float.specs.Sign.{all_finite}
use Rattle.float.proofs.Choice.{chosen, so_or_not}
use Rattle.float.proofs.Finite.{both_true, append_passes, append_fails}
use Rattle.matrix.specs.Places.{zeros}
use Rattle.cholesky.specs.Pivots.{one, pivot_code, Stopped}
use Rattle.cholesky.proofs.Stops.{unstopped}
use Rattle.cholesky.proofs.Codes.{factor2_code, factor3_code, solved2_code, solved3_code}
use Rattle.eigen.proofs.Answered as eigen
use Rattle.eigen.proofs.Owed.{eigen2_code, eigen3_code}
use Rattle.svd.proofs.Answered as svd
use Rattle.svd.proofs.Owed.{svd2_code, svd3_code}
use Rattle.kinds.specs.Table.{Kernel, Kind, kind_numbered, known_kind}
use Rattle.kinds.specs.Work.{WorkedAnswer, Asked, first_of, padded, used_finite, answered_by, plain_of}
use Rattle.kinds.specs.Ways.{is_scaled, times_all, power_for, divided, multiplied_back, work_of}
use Rattle.kinds.proofs.Rows.{each_kind, each_known}
use Rattle.kinds.proofs.Works.{Used, used, factor_code}
use Rattle.kinds.proofs.BothWays.{divided_used, by_back, by_way}
use Rattle.promises.specs.Conditions.{pivots_of, numbers_of, values_of}
use Rattle.eigen.specs.Eigen2x2.{Eigen2Answer}
use Rattle.eigen.specs.Eigen3x3.{EigenAnswer}
use Rattle.svd.specs.Svd2x2.{Svd2Answer}
use Rattle.svd.specs.Svd3x3.{SvdAnswer}

-- u says that the used numbers are finite: then 5 is left out
left_out : (u : Bool) {k c : ℕ} → k ≡ pick u c 5 → u ≡ true → k ≡ c
left_out u e h = e ∙ (rw h)

module _ (f : Format) (a : Asked) where
  -- the code by the pivots and the numbers made
  abbrev pub later_code : Kernel → ℕ
  later_code k = pivot_code f (pivots_of f k a) (pick (all_finite (numbers_of f k a)) 0 7)

  pub plain_code : known_kind a.kind ≡ true → used_finite a ≡ true → (plain_of f a).code ≡ later_code (kind_numbered a.kind).kernel
  unfolding answered_by one
  plain_code known finite =
      let nine = a.nine in
      let three = a.three in
      each_known (λ (k : Kind). Used a k → (answered_by f k.kernel a).code ≡ later_code k.kernel)
      (λ _ h. left_out (all_finite (first_of 3 nine)) (eigen2_code f (first_of 3 nine)) h.0)
      (λ _ h. left_out (all_finite (first_of 6 nine)) (eigen3_code f (first_of 6 nine)) h.0)
      (λ _ h. left_out (all_finite (first_of 4 nine)) (svd2_code f (first_of 4 nine)) h.0)
      (λ _ h. left_out (all_finite (first_of 9 nine)) (svd3_code f (first_of 9 nine)) h.0)
      (λ _ h. factor_code f 3 _ ∙ left_out (all_finite (first_of 3 nine)) (factor2_code f (zeros f 3) (first_of 3 nine)) h.0)
      (λ _ h. factor_code f 6 _ ∙ left_out (all_finite (first_of 6 nine)) (factor3_code f (zeros f 6) (first_of 6 nine)) h.0)
      (λ _ h. left_out (all_finite (first_of 3 nine ++ first_of 2 three)) (solved2_code f (first_of 3 nine) (first_of 2 three))
      (append_passes (first_of 3 nine) (first_of 2 three) h.0 ∙ h.1))
      (λ _ h. left_out (all_finite (first_of 6 nine ++ first_of 3 three)) (solved3_code f (first_of 6 nine) (first_of 3 three))
      (append_passes (first_of 6 nine) (first_of 3 three) h.0 ∙ h.1))
      a.kind known (used a finite)

-- ---- with code 0 the values of a kind whose matrix is scaled are those that are worked out

pub values_made : (f : Format) (a : Asked) → (kind_numbered a.kind).scales ≡ true → (plain_of f a).code ≡ 0
    → (plain_of f a).values ≡ values_of f (kind_numbered a.kind).kernel a
unfolding answered_by
values_made f a =
    let nine = a.nine in
    each_kind (λ (k : Kind). k.scales ≡ true → (answered_by f k.kernel a).code ≡ 0 → (answered_by f k.kernel a).values ≡ values_of f k.kernel a)
    (λ e _. absurd (false≢true e))
    (λ _ c. ap (λ (r : Eigen2Answer). padded f 3 2 r.values) (eigen.answered2 f (first_of 3 nine) c).answer)
    (λ _ c. ap (λ (r : EigenAnswer). padded f 3 3 r.values) (eigen.answered f (first_of 6 nine) c).answer)
    (λ _ c. ap (λ (r : Svd2Answer). padded f 3 2 r.values) (svd.answered2 f (first_of 4 nine) c).answer)
    (λ _ c. ap (λ (r : SvdAnswer). padded f 3 3 r.values) (svd.answered f (first_of 9 nine) c).answer)
    (λ e _. absurd (false≢true e))
    (λ e _. absurd (false≢true e))
    (λ e _. absurd (false≢true e))
    (λ e _. absurd (false≢true e))
    a.kind

-- ---- the code in both ways

-- a matrix that is scaled has no pivots
no_pivots : (f : Format) (a : Asked) → (kind_numbered a.kind).scales ≡ true → pivots_of f (kind_numbered a.kind).kernel a ≡ []
no_pivots f a =
    each_kind (λ (k : Kind). k.scales ≡ true → pivots_of f k.kernel a ≡ []) (λ _. refl) (λ _. refl) (λ _. refl) (λ _. refl) (λ _. refl)
    (λ e. absurd (false≢true e)) (λ e. absurd (false≢true e)) (λ e. absurd (false≢true e)) (λ e. absurd (false≢true e)) a.kind

module _ (f : Format) (a : Asked) where
  abbrev kernel : Kernel
  kernel = (kind_numbered a.kind).kernel

  abbrev within : Asked
  within = divided f (power_for f a) a

  -- the values multiplied back
  abbrev back_of : List Float
  back_of = times_all f (power_for f a) 3 (values_of f kernel within)

  -- the numbers made
  abbrev pub made_of : List Float
  made_of = pick (is_scaled a) (numbers_of f kernel within ++ back_of) (numbers_of f kernel a)

  scaled_code : known_kind a.kind ≡ true → used_finite a ≡ true → (kind_numbered a.kind).scales ≡ true
      → (multiplied_back f (power_for f a) (plain_of f within)).code ≡ pick (all_finite (numbers_of f kernel within ++ back_of)) 0 7
  unfolding one
  scaled_code known used scales =
      let w = plain_of f within in
      let code : w.code ≡ pick (all_finite (numbers_of f kernel within)) 0 7 =
      plain_code f within known (divided_used f a used) ∙ (rw (no_pivots f within scales)) in
      so_or_not (all_finite (numbers_of f kernel within))
      (λ e.
      let done : w.code ≡ 0 = code ∙ (rw e) in
      rw (append_passes (numbers_of f kernel within) back_of e, ← values_made f within scales done)
      (by_back f (power_for f a) w (λ (r : WorkedAnswer). r.code ≡ pick (all_finite (times_all f (power_for f a) 3 w.values)) 0 7)
      (λ t. done ∙ (rw t)) (λ t. rw t)))
      (λ e.
      let seven : w.code ≡ 7 = code ∙ (rw e) in
      rw (append_fails (numbers_of f kernel within) back_of e)
      (by_back f (power_for f a) w (λ (r : WorkedAnswer). r.code ≡ 7) (λ _. seven) (λ _. refl)))

  pub scaled_unstopped : known_kind a.kind ≡ true → used_finite a ≡ true → is_scaled a ≡ true
      → Stopped (multiplied_back f (power_for f a) (plain_of f within)).code → ⊥
  scaled_unstopped known used e c =
      let scales = (both_true (kind_numbered a.kind).scales (eqb a.way 0) e).0 in
      chosen (λ (k : ℕ). Stopped k → ⊥) (all_finite (numbers_of f kernel within ++ back_of)) 0 7 (unstopped 0 refl) (unstopped 7 refl)
      (subst Stopped (scaled_code known used scales) c)

  pub kind_code : known_kind a.kind ≡ true → used_finite a ≡ true → (work_of f a).code ≡ pivot_code f (pivots_of f kernel a) (pick (all_finite made_of) 0 7)
  unfolding one
  kind_code known used =
      by_way f a (λ (w : WorkedAnswer). w.code ≡ pivot_code f (pivots_of f kernel a) (pick (all_finite made_of) 0 7))
      (λ e.
      let scales = (both_true (kind_numbered a.kind).scales (eqb a.way 0) e).0 in
      rw (e, no_pivots f a scales) (scaled_code known used scales))
      (λ e. rw e (plain_code f a known used))
