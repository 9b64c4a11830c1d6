-- The kernels owe what every kernel does: the exact code tells which codes there are, and each way ends in the answer, a refusal or stopped steps.
use Rattle.float.proofs.Words.{◌≡◌, refl, sym, ◌∙◌, Bool, true, false, true≢false, List, ◌++◌, ◌⊎◌, inl, inr, ⊎_elim, ℕ, arith, length, Float, Format, eq-eqb}
use Rattle.float.specs.Choice.{pick}
use Rattle.float.specs.Exactly.{Exactly}
use Rattle.float.specs.Judged.{judged_call}
use Rattle.float.specs.Sign.{all_finite}
use Rattle.float.proofs.Choice.{by_eqb}
use Rattle.float.proofs.Finite.{parts_finite}
use Rattle.float.proofs.Judged.{by_call}
use Rattle.matrix.specs.Places.{zeros, triangular}
use Rattle.matrix.specs.Owed.{Part, AllFull, Owed}
use Rattle.cholesky.specs.Factor.{FactorAnswer, if_whole, refused_factor, factor_of, steps2_of, factor2_of, steps3_of, factor3_of}
use Rattle.cholesky.specs.Solve.{SolvedAnswer, refused_solved, with_solution, factor_and_solve_of, solution2_of, factor_and_solve2_of, solution3_of}
use Rattle.cholesky.specs.Solve.{factor_and_solve3_of}
use Rattle.cholesky.specs.Pivots.{one_at_most_zero, one_nan, Stopped, Stops}
use Rattle.cholesky.specs.Owed.{left_factor, factor_parts, solved_parts}
use Rattle.cholesky.proofs.Stops.{steps2_stops, steps3_stops, zero_or_stopped}
use Rattle.cholesky.proofs.Codes.{call_over, same_code}

-- ---- what is said by the four tests of the code

abbrev Told : Bool → ℕ → Type 0
Told u k = ((k ≡ 0) ⊎ ((k ≡ 5) ⊎ ((k ≡ 6) ⊎ ((k ≡ 7) ⊎ (k ≡ 9))))) × Exactly (k ≡ 5) (u ≡ false)

told : (u t n m : Bool) → Told u (pick u (pick t 6 (pick n 9 (pick m 0 7))) 5)
told false t n m = (inr (inl refl), ((λ _. refl), (λ _. refl)))
told true true n m = (inr (inr (inl refl)), ((λ e. absurd (omega arith)), (λ e. absurd (true≢false e))))
told true false true m = (inr (inr (inr (inr refl))), ((λ e. absurd (omega arith)), (λ e. absurd (true≢false e))))
told true false false true = (inl refl, ((λ e. absurd (omega arith)), (λ e. absurd (true≢false e))))
told true false false false = (inr (inr (inr (inl refl))), ((λ e. absurd (omega arith)), (λ e. absurd (true≢false e))))

-- steps that stopped are what is left of a factor
stopped-left : (l : List Float) (r : FactorAnswer) → Stopped r.code → r ≡ left_factor l r r.code
stopped-left l r = ⊎_elim (λ (e : r.code ≡ 6). rw e) (λ (e : r.code ≡ 9). rw e)

-- ---- a call that answers q by the steps r, and is judged by the numbers xs that they made; left is what a refused answer must be

module _ {f : Format} {l : List Float} {s : ℕ} {pivots : List Float} {r : FactorAnswer} (known : Stops f l s 1 pivots r)
    {A : Type 0} (code : A → ℕ) (refuse : ℕ → A) (own : (k : ℕ) → code (refuse k) ≡ k) (used xs : List Float) (q : A)
    (left : A → ℕ → A) (parts : A → List Part) where
  abbrev answer : A
  answer = judged_call refuse used (if_whole r xs) q

  owed_over : code q ≡ r.code → refuse 5 ≡ left (refuse 5) 5 → refuse 7 ≡ left (refuse 7) 7 → ((code q ≡ 0 → ⊥) → q ≡ left q (code q))
      → (code q ≡ 0 → all_finite xs ≡ true → AllFull (parts q))
      → Owed code (left answer) parts used answer
  owed_over same five seven stopped full =
      let all = told (all_finite used) (one_at_most_zero f pivots) (one_nan pivots) (all_finite xs) in
      let tests = rw (sym (call_over known code refuse own used xs q same)) at all in
      record {
        known = tests.0;
        five = tests.1;
        clear =
            by_call refuse used (if_whole r xs) q (λ (a : A). (code a ≡ 0 → ⊥) → a ≡ left a (code a))
            (λ _ _. stopped) (λ _ _ _. rw (own 7) seven) (λ _ _. rw (own 5) five);
        full =
            by_call refuse used (if_whole r xs) q (λ (a : A). code a ≡ 0 → AllFull (parts a))
            (λ _ h c. full c (rw (eq-eqb r.code 0 (sym same ∙ c)) at h)) (λ _ _ c. absurd (omega (arith, own 7))) (λ _ c. absurd (omega (arith, own 5)));
      }

-- ---- a factor, alone and with its solution

module _ {f : Format} {l : List Float} {pivots : List Float} {r : FactorAnswer} (n : ℕ) (known : Stops f l (triangular n) 1 pivots r)
    (sized : length l ≡ triangular n) (a : List Float) where
  factor_owed : Owed (λ (q : FactorAnswer). q.code) (left_factor l r) (factor_parts n) a (factor_of l a r)
  factor_owed =
      owed_over known (λ (q : FactorAnswer). q.code) (refused_factor l) (λ k. refl) a r.factor r (λ _. left_factor l r) (factor_parts n) refl refl refl
      (λ h. stopped-left l r (zero_or_stopped known h))
      (λ _ e. (known.full sized, e, tt))

  solved_owed : (b x : List Float) → length x ≡ n
      → Owed (λ (q : SolvedAnswer). q.code) (refused_solved f n (factor_and_solve_of f n a b r x).pivot) (solved_parts n)
      (a ++ b) (factor_and_solve_of f n a b r x)
  solved_owed b x e =
      owed_over known (λ (q : SolvedAnswer). q.code) (refused_solved f n 0) (λ k. refl) (a ++ b) (r.factor ++ x) (with_solution f n r x)
      (λ (q : SolvedAnswer). refused_solved f n q.pivot) (solved_parts n) (same_code f n r x) refl refl
      (by_eqb (λ (q : SolvedAnswer). (q.code ≡ 0 → ⊥) → q ≡ refused_solved f n q.pivot q.code) r.code 0 _ _ (λ _ c. absurd (c refl)) (λ _ _. refl))
      (by_eqb (λ (q : SolvedAnswer). q.code ≡ 0 → all_finite (r.factor ++ x) ≡ true → AllFull (solved_parts n q)) r.code 0 _ _
      (λ _ _ h.
      let both = parts_finite r.factor x h in
      (known.full sized, both.0, (e, both.1, tt)))
      (λ m c. absurd (m c)))

-- ---- the four kernels

module _ (f : Format) (l a : List Float) where
  pub factor2_owed : length l ≡ 3 → Owed (λ (r : FactorAnswer). r.code) (left_factor l (steps2_of f l a)) (factor_parts 2) a (factor2_of f l a)
  unfolding factor2_of
  factor2_owed e = factor_owed 2 (steps2_stops f l a) e a

  pub factor3_owed : length l ≡ 6 → Owed (λ (r : FactorAnswer). r.code) (left_factor l (steps3_of f l a)) (factor_parts 3) a (factor3_of f l a)
  unfolding factor3_of
  factor3_owed e = factor_owed 3 (steps3_stops f l a) e a

module _ (f : Format) (a b : List Float) where
  pub solved2_owed : let q = factor_and_solve2_of f a b in Owed (λ (r : SolvedAnswer). r.code) (refused_solved f 2 q.pivot) (solved_parts 2) (a ++ b) q
  unfolding factor_and_solve2_of
  solved2_owed = solved_owed 2 (steps2_stops f (zeros f 3) a) refl a b (solution2_of f (steps2_of f (zeros f 3) a).factor b) refl

  pub solved3_owed : let q = factor_and_solve3_of f a b in Owed (λ (r : SolvedAnswer). r.code) (refused_solved f 3 q.pivot) (solved_parts 3) (a ++ b) q
  unfolding factor_and_solve3_of
  solved3_owed = solved_owed 3 (steps3_stops f (zeros f 6) a) refl a b (solution3_of f (steps3_of f (zeros f 6) a).factor b) refl
