-- The code and the pivot of a judged call over steps are told by its numbers: 5 is tested before the steps, and 7 only where they are whole.
use Rattle.float.proofs.Words.{◌≡◌, refl, sym, ap, ◌∙◌, subst, Bool, true, false, List, [], ◌++◌, ℕ, eqb, Float, Format}
use Rattle.float.specs.Choice.{pick}
use Rattle.float.specs.Sign.{all_finite}
use Rattle.float.specs.Judged.{judged_call}
use Rattle.float.proofs.Choice.{by_eqb}
use Rattle.float.proofs.Judged.{by_call}
use Rattle.matrix.specs.Places.{zeros}
use Rattle.matrix.proofs.Owed.{call_code}
use Rattle.cholesky.specs.Factor.{FactorAnswer, if_whole, refused_factor, factor_of, steps2_of, factor2_of, steps3_of, factor3_of}
use Rattle.cholesky.specs.Solve.{SolvedAnswer, refused_solved, with_solution, factor_and_solve_of, solution2_of, factor_and_solve2_of, solution3_of}
use Rattle.cholesky.specs.Solve.{factor_and_solve3_of}
use Rattle.cholesky.specs.Pivots.{pivots2_of, pivots3_of, one_at_most_zero, one_nan, refused_pivot, Stopped, Stops}
use Rattle.cholesky.specs.Owed.{code_of}
use Rattle.cholesky.proofs.Stops.{steps2_stops, steps3_stops, unstopped}

-- ---- a call that answers q by the steps r, and is judged by the numbers xs that they made

module _ {f : Format} {l : List Float} {s : ℕ} {pivots : List Float} {r : FactorAnswer} (known : Stops f l s 1 pivots r)
    {A : Type 0} (code : A → ℕ) (refuse : ℕ → A) (own : (k : ℕ) → code (refuse k) ≡ k) (used xs : List Float) (q : A) where
  pub call_over : code q ≡ r.code → code (judged_call refuse used (if_whole r xs) q) ≡ code_of f used pivots xs
  unfolding all_finite
  call_over e =
      call_code code refuse own used (if_whole r xs) q
      ∙ ap (λ (k : ℕ). pick (all_finite used) k 5) (rw (e, known.code) (by (one_at_most_zero f pivots) (one_nan pivots)))
    where
      by : (t n : Bool) → let stop : ℕ = pick t 6 (pick n 9 0) in
          ◌≡◌ {A = ℕ} (pick (all_finite (pick (eqb stop 0) xs [])) stop 7) (pick t 6 (pick n 9 (pick (all_finite xs) 0 7)))
      by true n = refl
      by false true = refl
      by false false = refl

  pivot_over : (pivot : A → ℕ) → (Stopped (code q) → pivot q ≡ r.pivot) → Stopped (code (judged_call refuse used (if_whole r xs) q))
      → pivot (judged_call refuse used (if_whole r xs) q) ≡ refused_pivot f 1 pivots
  pivot_over pivot e =
      by_call refuse used (if_whole r xs) q (λ (a : A). Stopped (code a) → pivot a ≡ refused_pivot f 1 pivots) (λ _ _ c. e c ∙ known.pivot)
      (λ _ _ c. absurd (unstopped 7 refl (subst Stopped (own 7) c))) (λ _ c. absurd (unstopped 5 refl (subst Stopped (own 5) c)))

-- ---- a factor, alone and with its solution

pub same_code : (f : Format) (n : ℕ) (r : FactorAnswer) (x : List Float) → (with_solution f n r x).code ≡ r.code
same_code f n r x = by_eqb (λ (q : SolvedAnswer). q.code ≡ r.code) r.code 0 _ _ (λ e. sym e) (λ _. refl)

module _ {f : Format} {l : List Float} {s : ℕ} {pivots : List Float} {r : FactorAnswer} (known : Stops f l s 1 pivots r) (a : List Float) where
  factor_code : (factor_of l a r).code ≡ code_of f a pivots r.factor
  factor_code = call_over known (λ (q : FactorAnswer). q.code) (refused_factor l) (λ k. refl) a r.factor r refl

  factor_pivot : Stopped (factor_of l a r).code → (factor_of l a r).pivot ≡ refused_pivot f 1 pivots
  factor_pivot = pivot_over known (λ (q : FactorAnswer). q.code) (refused_factor l) (λ k. refl) a r.factor r (λ (q : FactorAnswer). q.pivot) (λ _. refl)

  module _ (n : ℕ) (b x : List Float) where
    solved_code : (factor_and_solve_of f n a b r x).code ≡ code_of f (a ++ b) pivots (r.factor ++ x)
    solved_code =
        call_over known (λ (q : SolvedAnswer). q.code) (refused_solved f n 0) (λ k. refl) (a ++ b) (r.factor ++ x) (with_solution f n r x) (same_code f n r x)

    solved_pivot : Stopped (factor_and_solve_of f n a b r x).code → (factor_and_solve_of f n a b r x).pivot ≡ refused_pivot f 1 pivots
    solved_pivot =
        pivot_over known (λ (q : SolvedAnswer). q.code) (refused_solved f n 0) (λ k. refl) (a ++ b) (r.factor ++ x) (with_solution f n r x)
        (λ (q : SolvedAnswer). q.pivot)
        (by_eqb (λ (q : SolvedAnswer). Stopped q.code → q.pivot ≡ r.pivot) r.code 0 _ _
        (λ _ c. absurd (unstopped 0 refl c)) (λ _ _. refl))

-- ---- the four kernels

module _ (f : Format) (l a : List Float) where
  pub factor2_code : (factor2_of f l a).code ≡ code_of f a (pivots2_of f a) (steps2_of f l a).factor
  unfolding factor2_of
  factor2_code = factor_code (steps2_stops f l a) a

  pub factor3_code : (factor3_of f l a).code ≡ code_of f a (pivots3_of f a) (steps3_of f l a).factor
  unfolding factor3_of
  factor3_code = factor_code (steps3_stops f l a) a

  pub factor2_pivot : Stopped (factor2_of f l a).code → (factor2_of f l a).pivot ≡ refused_pivot f 1 (pivots2_of f a)
  unfolding factor2_of
  factor2_pivot = factor_pivot (steps2_stops f l a) a

  pub factor3_pivot : Stopped (factor3_of f l a).code → (factor3_of f l a).pivot ≡ refused_pivot f 1 (pivots3_of f a)
  unfolding factor3_of
  factor3_pivot = factor_pivot (steps3_stops f l a) a

module _ (f : Format) (a b : List Float) where
  pub solved2_code : let l = (steps2_of f (zeros f 3) a).factor in (factor_and_solve2_of f a b).code
      ≡ code_of f (a ++ b) (pivots2_of f a) (l ++ solution2_of f l b)
  unfolding factor_and_solve2_of
  solved2_code = solved_code (steps2_stops f (zeros f 3) a) a 2 b (solution2_of f (steps2_of f (zeros f 3) a).factor b)

  pub solved3_code : let l = (steps3_of f (zeros f 6) a).factor in (factor_and_solve3_of f a b).code
      ≡ code_of f (a ++ b) (pivots3_of f a) (l ++ solution3_of f l b)
  unfolding factor_and_solve3_of
  solved3_code = solved_code (steps3_stops f (zeros f 6) a) a 3 b (solution3_of f (steps3_of f (zeros f 6) a).factor b)

  pub solved2_pivot : Stopped (factor_and_solve2_of f a b).code → (factor_and_solve2_of f a b).pivot ≡ refused_pivot f 1 (pivots2_of f a)
  unfolding factor_and_solve2_of
  solved2_pivot = solved_pivot (steps2_stops f (zeros f 3) a) a 2 b (solution2_of f (steps2_of f (zeros f 3) a).factor b)

  pub solved3_pivot : Stopped (factor_and_solve3_of f a b).code → (factor_and_solve3_of f a b).pivot ≡ refused_pivot f 1 (pivots3_of f a)
  unfolding factor_and_solve3_of
  solved3_pivot = solved_pivot (steps3_stops f (zeros f 6) a) a 3 b (solution3_of f (steps3_of f (zeros f 6) a).factor b)
