-- The laws of `run`, for any step and any test: each follows the rounds one by one.
use Rattle.float.proofs.Words.{◌≡◌, refl, sym, ap, ◌∙◌, subst⁻¹, Bool, true, false, false≢true, ◌⊎◌, inl, inr, ℕ, zero, suc, ◌+◌, ◌-◌, ◌≤◌, ◌<◌, le_antisymm}
use Rattle.float.proofs.Words.{arith}
use Rattle.float.proofs.Choice.{not_below_lem}
use Rattle.jacobi.specs.Run.{run_from, run, after, Ran}

module _ {S : Type 0} (step : S → S) (done : S → Bool) where
  -- ---- how it goes on and where it stops

  pub ends : (s : S) → run step done 0 s ≡ s
  unfolding run run_from
  ends s = refl

  pub stops : (k : ℕ) (s : S) → done s ≡ true → run step done k s ≡ s
  unfolding run run_from
  stops zero s h = refl
  stops (suc k) s h = rw h

  pub goes : (k : ℕ) (s : S) → done s ≡ false → run step done (suc k) s ≡ run step done k (step s)
  unfolding run run_from
  goes k s h = rw h

  -- ---- the same of a loop that has made n of its k rounds, where w is what the whole run leaves

  pub leaves : (k n : ℕ) (s : S) {w : S} → done s ≡ true → run step done (k - n) s ≡ w → s ≡ w
  leaves k n s h e = sym (stops (k - n) s h) ∙ e

  pub goes_once : (k n : ℕ) (s : S) {w : S} → n < k → done s ≡ false → run step done (k - n) s ≡ w → run step done (k - (n + 1)) (step s) ≡ w
  goes_once k n s l h e = let left : k - n ≡ suc (k - (n + 1)) = omega arith in sym (goes (k - (n + 1)) s h) ∙ (rw left at e)

  pub used_up : (k n : ℕ) (s : S) {w : S} → k ≤ n → run step done (k - n) s ≡ w → s ≡ w
  used_up k n s l e = let none : k - n ≡ 0 = omega arith in sym (ends s) ∙ (rw none at e)

  -- ---- the run is a row of states

  -- how many steps are made
  rounds : ℕ → Bool → S → ℕ
  rounds zero b s = 0
  rounds (suc k) true s = 0
  rounds (suc k) false s = suc (rounds k (done (step s)) (step s))

  none_earlier : (s : S) (j : ℕ) → j < 0 → done (after step done j s) ≡ false
  none_earlier s j l = absurd (omega arith)

  -- what a test says of the first state and of those behind it, it says of all
  pub one_more_lem : (test : S → Bool) (n : ℕ) (s : S) → test s ≡ false → ((j : ℕ) → j < n → test (after step done j (step s)) ≡ false)
      → (j : ℕ) → j < suc n → test (after step done j s) ≡ false
  unfolding after
  one_more_lem test n s e h zero l = e
  one_more_lem test n s e h (suc j) l = h j (omega arith)

  also_ended : {k n : ℕ} {r : S} → (n ≡ k) ⊎ (done r ≡ true) → (suc n ≡ suc k) ⊎ (done r ≡ true)
  also_ended (inl e) = inl (ap suc e)
  also_ended (inr e) = inr e

  ran_from : (k : ℕ) (b : Bool) (s : S) → done s ≡ b → Ran step done k s (run_from step done k b s) (rounds k b s)
  unfolding run_from after rounds
  ran_from zero b s e = record { within = omega arith; stands = refl; earlier = none_earlier s; ended = inl refl }
  ran_from (suc k) true s e = record { within = omega arith; stands = refl; earlier = none_earlier s; ended = inr e }
  ran_from (suc k) false s e =
      let r = ran_from k (done (step s)) (step s) refl in
      record { within = omega (arith, r.within); stands = r.stands; earlier = one_more_lem done _ s e r.earlier; ended = also_ended r.ended }

  pub ran : (k : ℕ) (s : S) → (n : ℕ) × Ran step done k s (run step done k s) n
  unfolding run
  ran k s = (rounds k (done s) s, ran_from k (done s) s refl)

  -- ---- there is one such run: a shorter one would have gone on, and a longer one would have stopped

  not_sooner : {k n m : ℕ} {s r q : S} → Ran step done k s r n → Ran step done k s q m → n < m → ⊥
  not_sooner {k} {n} {m} {s} {r} x y l = by x.ended
    where
      by : (n ≡ k) ⊎ (done r ≡ true) → ⊥
      by (inl e) = omega (arith, y.within)
      by (inr e) = false≢true (sym (y.earlier n l) ∙ ap done (sym x.stands) ∙ e)

  pub ran_one : {k n m : ℕ} {s r q : S} → Ran step done k s r n → Ran step done k s q m → (n ≡ m) × (r ≡ q)
  ran_one {k} {n} {m} {s} x y =
      let e : n ≡ m = le_antisymm (not_below_lem m n (not_sooner y x)) (not_below_lem n m (not_sooner x y)) in
      (e, x.stands ∙ ap (λ (j : ℕ). after step done j s) e ∙ sym y.stands)

  -- ---- a number that every step raises by one tells how many were made

  module _ (count : S → ℕ) (counts : (s : S) → count (step s) ≡ count s + 1) where
    count_after : (n : ℕ) (s : S) → count (after step done n s) ≡ count s + n
    unfolding after
    count_after zero s = omega arith
    count_after (suc n) s = let e = counts s in let i = count_after n (step s) in omega arith

    pub ran_counted : (k : ℕ) (s : S) → count s ≡ 0 → Ran step done k s (run step done k s) (count (run step done k s))
    ran_counted k s z =
        let r = ran k s in
        let e : r.0 ≡ count (run step done k s) = omega (arith, ap count r.1.stands, count_after r.0 s) in
        rw e at r.1

-- ---- what each step keeps, the run keeps

module _ {S : Type 0} (step : S → S) (done : S → Bool) (P : S → Type 0) (kept : (s : S) → P s → P (step s)) where
  after_keeps : (n : ℕ) (s : S) → P s → P (after step done n s)
  unfolding after
  after_keeps zero s p = p
  after_keeps (suc n) s p = after_keeps n (step s) (kept s p)

  pub run_keeps : (k : ℕ) (s : S) → P s → P (run step done k s)
  run_keeps k s p = let r = ran step done k s in subst⁻¹ P r.1.stands (after_keeps r.0 s p)

-- ---- a map that keeps steps and the test keeps the run

module _ {S T : Type 0} (step : S → S) (done : S → Bool) (step' : T → T) (done' : T → Bool) (g : S → T)
    (steps : (s : S) → g (step s) ≡ step' (g s)) (tests : (s : S) → done' (g s) ≡ done s) where
  keeps_from : (k : ℕ) (b : Bool) (s : S) → g (run_from step done k b s) ≡ run_from step' done' k b (g s)
  unfolding run_from
  keeps_from zero b s = refl
  keeps_from (suc k) true s = refl
  keeps_from (suc k) false s = keeps_from k (done (step s)) (step s) ∙ (rw (← steps, tests))

  pub keeps : (k : ℕ) (s : S) → g (run step done k s) ≡ run step' done' k (g s)
  unfolding run
  keeps k s = keeps_from k (done s) s ∙ (rw tests)

-- ---- where two states are related, and so are the next ones, and the test is the same for both, the runs from them end in related states

module _ {S : Type 0} (step : S → S) (done : S → Bool) (R : S → S → Type 0) (tests : (s q : S) → R s q → done s ≡ done q)
    (steps : (s q : S) → R s q → R (step s) (step q)) where
  from_rel : (k : ℕ) (t : Bool) (s q : S) → R s q → R (run_from step done k t s) (run_from step done k t q)
  unfolding run_from
  from_rel zero t s q r = r
  from_rel (suc k) true s q r = r
  from_rel (suc k) false s q r = rw (← tests (step s) (step q) (steps s q r)) (from_rel k (done (step s)) (step s) (step q) (steps s q r))

  pub run_rel : (k : ℕ) (s q : S) → R s q → R (run step done k s) (run step done k q)
  unfolding run
  run_rel k s q r = rw (← tests s q r) (from_rel k (done s) s q r)
