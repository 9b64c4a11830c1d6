-- At most k steps, stopping where a state is done: the work of every kernel that turns until it is settled. Definitions only.
use Rattle.std.specs.Prelude.{◌≡◌, Bool, true, false, ◌⊎◌, ℕ, suc, zero, ◌+◌, ◌≤◌, ◌<◌}
use Rattle.jacobi.specs.declared.made.Made.{Made}

module _ {S : Type 0} (step : S → S) (done : S → Bool) where
  -- b says whether s is done. It is an argument to match on, so that no step is worked out that is not made.
  unfoldable pub run_from : ℕ → Bool → S → S
  run_from zero b s = s
  run_from (suc k) true s = s
  run_from (suc k) false s = run_from k (done (step s)) (step s)

  unfoldable pub run : ℕ → S → S
  unfolding run_from
  run k s = run_from k (done s) s

  -- the state after n steps
  unfoldable pub after : ℕ → S → S
  after zero s = s
  after (suc n) s = after n (step s)

  -- What is said of count and mark: r is the state after n steps; no state before it was done; and it is done, or the k steps are used up.
  pub record Ran (k : ℕ) (s r : S) (n : ℕ) : Type 0 where
    pub within : n ≤ k
    pub stands : r ≡ after n s
    pub earlier : (j : ℕ) → j < n → done (after j s) ≡ false
    pub ended : (n ≡ k) ⊎ (done r ≡ true)

-- ---- what a run of rotations made

abbrev pub nothing_made : Made
nothing_made = record { count = 0 }

-- with one rotation more
abbrev pub one_more : Made → Made
one_more m = record { count = m.count + 1 }
