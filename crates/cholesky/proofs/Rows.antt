-- The codes of the Cholesky kernels by their rows: 5, then 6 or 9, then 7. The tests of the pivots decide whether one is at most zero, and whether one is NaN.
use Rattle.float.proofs.Words.{take, ◌≡◌, refl, sym, ◌∙◌, Bool, false, false≢true, List, [], ◌∷◌, ◌++◌, ℕ, zero, suc, ◌<◌, arith}
use Rattle.float.proofs.Words.{length, inl, inr, Float, Format, le, is_nan}
use Rattle.float.specs.Choice.{pick}
use Rattle.float.specs.Constants.{zero_f}
use Rattle.float.specs.Sign.{all_finite}
use Rattle.float.proofs.Choice.{neither, so_or_not, by_eqb}
use Rattle.float.proofs.Judged.{by_call}
use Rattle.matrix.specs.Places.{at, zeros}
use Rattle.matrix.specs.Rows.{Row, on, Gives, TooShort, NotFinite, AtMostZero, OneNan, kernel_rows, pivot_rows}
use Rattle.matrix.proofs.Calls.{all_codes, first_codes}
use Rattle.matrix.proofs.Rows.{Decides, first_row, last_row, by_finite}
use Rattle.cholesky.specs.Factor.{FactorAnswer, refused_factor, if_whole, factor_of, steps2_of, steps3_of, factor2_of, factor3_of}
use Rattle.cholesky.specs.Pivots.{pivots2_of, pivots3_of, one, one_at_most_zero, one_nan, refused_pivot, pivot_code, Stopped, Stops}
use Rattle.cholesky.specs.Solve.{SolvedAnswer, refused_solved, with_solution, factor_and_solve_of, solution2_of, solution3_of, judged_solution, solve2_of}
use Rattle.cholesky.specs.Solve.{solve3_of, factor_and_solve2_of, factor_and_solve3_of}
use Rattle.cholesky.proofs.Stops.{steps2_stops, steps3_stops}
use Rattle.cholesky.proofs.Codes.{factor2_code, factor3_code, solved2_code, solved3_code}

-- ---- whether one number passes a test, and whether none does

module _ (test : Float → Bool) where
  each_fails : (ps : List Float) → ((i : ℕ) → i < length ps → test (at ps i) ≡ false) → one test ps ≡ false
  unfolding one
  each_fails [] h = refl
  each_fails (p ∷ ps) h = rw (h 0 (omega arith), each_fails ps (λ i l. h (suc i) (omega arith)))

  pub none_passes : (ps : List Float) → one test ps ≡ false → (i : ℕ) → i < length ps → test (at ps i) ≡ false
  unfolding one
  none_passes [] e i l = absurd (omega arith)
  none_passes (p ∷ ps) e zero l = (neither (test p) (one test ps) e).0
  none_passes (p ∷ ps) e (suc i) l = none_passes ps (neither (test p) (one test ps) e).1 i (omega arith)

  by_one : (ps : List Float) → Decides (one test ps) (((i : ℕ) → i < length ps → test (at ps i) ≡ false) → ⊥)
  by_one ps = ((λ e h. false≢true (sym (each_fails ps h) ∙ e)), (λ e w. w (none_passes ps e)))

-- ---- the kernels

pub later_rows : (f : Format) (pivots made : List Float) → Gives (on 6 (AtMostZero f pivots) ∷ on 9 (OneNan pivots) ∷ on 7 (NotFinite made) ∷ [])
    (pivot_code f pivots (pick (all_finite made) 0 7))
later_rows f pivots made =
    let seven : List Row = on 7 (NotFinite made) ∷ [] in
    let code : ℕ = pick (all_finite made) 0 7 in
    first_row (one_at_most_zero f pivots) (on 6 (AtMostZero f pivots)) (on 9 (OneNan pivots) ∷ seven) (pick (one_nan pivots) 9 code)
    (by_one (λ (p : Float). le p (zero_f f)) pivots)
    (first_row (one_nan pivots) (on 9 (OneNan pivots)) seven code (by_one is_nan pivots)
    (last_row (all_finite made) (on 7 (NotFinite made)) [] 0 (by_finite made) refl))

pivot_codes : (f : Format) (used pivots made : List Float) {k : ℕ} → k ≡ pick (all_finite used) (pivot_code f pivots (pick (all_finite made) 0 7)) 5
    → Gives (pivot_rows f used pivots made) k
pivot_codes f used pivots made e =
    rw e (last_row (all_finite used) (on 5 (NotFinite used)) (on 6 (AtMostZero f pivots) ∷ on 9 (OneNan pivots) ∷ on 7 (NotFinite made) ∷ [])
    (pivot_code f pivots (pick (all_finite made) 0 7)) (by_finite used) (later_rows f pivots made))

module _ (f : Format) (l a : List Float) where
  pub factor2-codes : Gives (pivot_rows f a (pivots2_of f a) (steps2_of f l a).factor) (factor2_of f l a).code
  factor2-codes = pivot_codes f a (pivots2_of f a) (steps2_of f l a).factor (factor2_code f l a)

  pub factor3-codes : Gives (pivot_rows f a (pivots3_of f a) (steps3_of f l a).factor) (factor3_of f l a).code
  factor3-codes = pivot_codes f a (pivots3_of f a) (steps3_of f l a).factor (factor3_code f l a)

module _ (f : Format) (a b : List Float) where
  pub solved2-codes : let l = (steps2_of f (zeros f 3) a).factor in
      Gives (pivot_rows f (a ++ b) (pivots2_of f a) (l ++ solution2_of f l b)) (factor_and_solve2_of f a b).code
  solved2-codes = pivot_codes f (a ++ b) (pivots2_of f a) _ (solved2_code f a b)

  pub solved3-codes : let l = (steps3_of f (zeros f 6) a).factor in
      Gives (pivot_rows f (a ++ b) (pivots3_of f a) (l ++ solution3_of f l b)) (factor_and_solve3_of f a b).code
  solved3-codes = pivot_codes f (a ++ b) (pivots3_of f a) _ (solved3_code f a b)

-- a solution by a factor, on slices of which the first numbers count
pub solve2_codes : (f : Format) (l b x : List Float)
    → Gives (on 2 (TooShort x 2) ∷ on 1 (TooShort b 2) ∷ kernel_rows (l ++ take 2 b) (solution2_of f l (take 2 b))) (solve2_of f l b x).code
unfolding solve2_of
solve2_codes f l b x =
    let made = solution2_of f l (take 2 b) in
    first_codes 2 (judged_solution f 2 (solution2_of f) l) b x (kernel_rows (l ++ take 2 b) made) (all_codes f 2 (l ++ take 2 b) made)

pub solve3_codes : (f : Format) (l b x : List Float)
    → Gives (on 2 (TooShort x 3) ∷ on 1 (TooShort b 3) ∷ kernel_rows (l ++ take 3 b) (solution3_of f l (take 3 b))) (solve3_of f l b x).code
unfolding solve3_of
solve3_codes f l b x =
    let made = solution3_of f l (take 3 b) in
    first_codes 3 (judged_solution f 3 (solution3_of f) l) b x (kernel_rows (l ++ take 3 b) made) (all_codes f 3 (l ++ take 3 b) made)

-- ---- without a 6 or a 9 there is no pivot's number

none_refused : (f : Format) (k : ℕ) (ps : List Float) → one_at_most_zero f ps ≡ false → one_nan ps ≡ false → refused_pivot f k ps ≡ 0
unfolding one refused_pivot
none_refused f k [] e n = refl
none_refused f k (p ∷ ps) e n =
    let low = neither (le p (zero_f f)) (one_at_most_zero f ps) e in
    let nan = neither (is_nan p) (one_nan ps) n in
    rw (low.0, nan.0) (none_refused f (suc k) ps low.1 nan.1)

module _ {f : Format} {l : List Float} {s : ℕ} {pivots : List Float} {r : FactorAnswer} (known : Stops f l s 1 pivots r) where
  steps_unstopped : (Stopped r.code → ⊥) → r.pivot ≡ 0
  steps_unstopped n =
      so_or_not (one_at_most_zero f pivots) (λ e. absurd (n (inl (known.code ∙ (rw e)))))
      (λ e. so_or_not (one_nan pivots) (λ m. absurd (n (inr (known.code ∙ (rw (e, m)))))) (λ m. known.pivot ∙ none_refused f 1 pivots e m))

  factor_unstopped : (a : List Float) → (Stopped (factor_of l a r).code → ⊥) → (factor_of l a r).pivot ≡ 0
  factor_unstopped a =
      by_call (refused_factor l) a (if_whole r r.factor) r (λ (q : FactorAnswer). (Stopped q.code → ⊥) → q.pivot ≡ 0) (λ _ _. steps_unstopped)
      (λ _ _ _. refl) (λ _ _. refl)

  solved_unstopped : (n : ℕ) (a b x : List Float) → (Stopped (factor_and_solve_of f n a b r x).code → ⊥) → (factor_and_solve_of f n a b r x).pivot ≡ 0
  solved_unstopped n a b x =
      by_call (refused_solved f n 0) (a ++ b) (if_whole r (r.factor ++ x)) (with_solution f n r x) (λ (q : SolvedAnswer). (Stopped q.code → ⊥) → q.pivot ≡ 0)
      (λ _ _. by_eqb (λ (q : SolvedAnswer). (Stopped q.code → ⊥) → q.pivot ≡ 0) r.code 0 _ _ (λ _ _. refl) (λ _. steps_unstopped))
      (λ _ _ _. refl) (λ _ _. refl)

module _ (f : Format) (l a : List Float) where
  pub factor2_unstopped : (Stopped (factor2_of f l a).code → ⊥) → (factor2_of f l a).pivot ≡ 0
  unfolding factor2_of
  factor2_unstopped = factor_unstopped (steps2_stops f l a) a

  pub factor3_unstopped : (Stopped (factor3_of f l a).code → ⊥) → (factor3_of f l a).pivot ≡ 0
  unfolding factor3_of
  factor3_unstopped = factor_unstopped (steps3_stops f l a) a

module _ (f : Format) (a b : List Float) where
  pub solved2_unstopped : (Stopped (factor_and_solve2_of f a b).code → ⊥) → (factor_and_solve2_of f a b).pivot ≡ 0
  unfolding factor_and_solve2_of
  solved2_unstopped = solved_unstopped (steps2_stops f (zeros f 3) a) 2 a b (solution2_of f (steps2_of f (zeros f 3) a).factor b)

  pub solved3_unstopped : (Stopped (factor_and_solve3_of f a b).code → ⊥) → (factor_and_solve3_of f a b).pivot ≡ 0
  unfolding factor_and_solve3_of
  solved3_unstopped = solved_unstopped (steps3_stops f (zeros f 6) a) 3 a b (solution3_of f (steps3_of f (zeros f 6) a).factor b)
