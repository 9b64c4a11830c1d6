-- A branch on the finite test is one way through `judged`, and what holds of both ways holds of it: `judged` is a choice by that test. A call has three ways,
-- and only the one on which nothing is refused leaves code 0.
use Rattle.float.proofs.Words.{[], ◌≡◌, refl, sym, ◌∙◌, Bool, true, false, List, ℕ, ◌<◌, arith, Float}
use Rattle.float.specs.Sign.{all_finite}
use Rattle.float.specs.Judged.{judged, judged_call}
use Rattle.float.proofs.Choice.{by_test, both_chosen}

-- t is what a callee answered that promised the test
pub stands : {A : Type 0} (xs : List Float) {t : Bool} → t ≡ all_finite xs → t ≡ true → (refuse : ℕ → A) (k : ℕ) (r : A) → judged refuse k xs r ≡ r
unfolding judged
stands xs e h refuse k r = rw (sym e ∙ h)

pub refuses : {A : Type 0} (xs : List Float) {t : Bool} → t ≡ all_finite xs → t ≡ false → (refuse : ℕ → A) (k : ℕ) (r : A) → judged refuse k xs r ≡ refuse k
unfolding judged
refuses xs e h refuse k r = rw (sym e ∙ h)

by_judged : {A : Type 0} (refuse : ℕ → A) (k : ℕ) (xs : List Float) (r : A) (P : A → Type 0)
    → (all_finite xs ≡ true → P r) → (all_finite xs ≡ false → P (refuse k)) → P (judged refuse k xs r)
unfolding judged
by_judged refuse k xs r P h g = by_test P (all_finite xs) r (refuse k) h g

-- of no numbers there is nothing to refuse
pub unjudged : {A : Type 0} (refuse : ℕ → A) (k : ℕ) (r : A) → judged refuse k [] r ≡ r
unfolding judged all_finite
unjudged refuse k r = refl

-- the three ways through a call
pub by_call : {A : Type 0} (refuse : ℕ → A) (used made : List Float) (r : A) (P : A → Type 0)
    → (all_finite used ≡ true → all_finite made ≡ true → P r) → (all_finite used ≡ true → all_finite made ≡ false → P (refuse 7))
    → (all_finite used ≡ false → P (refuse 5))
    → P (judged_call refuse used made r)
by_call refuse used made r P done seven five =
    by_judged refuse 5 used (judged refuse 7 made r) P (λ e. by_judged refuse 7 made r P (done e) (seven e)) five

-- a change that leaves every refusal what it is changes the answer that is judged
pub judged_through : {A : Type 0} (g : A → A) (refuse : ℕ → A) → ((k : ℕ) → g (refuse k) ≡ refuse k) → (used made : List Float) (r : A)
    → g (judged_call refuse used made r) ≡ judged_call refuse used made (g r)
unfolding judged
judged_through g refuse own used made r =
    by_call refuse used made r (λ q. g q ≡ judged_call refuse used made (g r)) (λ i n. rw (i, n)) (λ i n. rw (i, n) (own 7)) (λ i. rw i (own 5))

-- two judgements: the tests agree, and what holds of both answers holds where both stand
both_judged : {A : Type 0} (R : A → A → Type 0) (refuse : ℕ → A) (k : ℕ) (xs ys : List Float) (r q : A) → all_finite xs ≡ all_finite ys
    → (all_finite xs ≡ true → R r q) → R (refuse k) (refuse k) → R (judged refuse k xs r) (judged refuse k ys q)
unfolding judged
both_judged R refuse k xs ys r q e h n = rw (← e) (both_chosen R (all_finite xs) r (refuse k) q (refuse k) h (λ _. n))

-- and two calls
pub both_called : {A : Type 0} (R : A → A → Type 0) (refuse : ℕ → A) (used used' made made' : List Float) (r q : A)
    → all_finite used ≡ all_finite used' → all_finite made ≡ all_finite made' → (all_finite made ≡ true → R r q) → ((k : ℕ) → 0 < k → R (refuse k) (refuse k))
    → R (judged_call refuse used made r) (judged_call refuse used' made' q)
both_called R refuse used used' made made' r q e d h n =
    both_judged R refuse 5 used used' _ _ e (λ _. both_judged R refuse 7 made made' r q d h (n 7 (omega arith))) (n 5 (omega arith))

-- ---- with code 0 the answer q is the one that was worked out, r, of finite numbers

pub record Accepted {A : Type 0} (used made : List Float) (r q : A) : Type 0 where
  pub input : all_finite used ≡ true
  pub numbers : all_finite made ≡ true
  pub answer : q ≡ r

pub accepted : {A : Type 0} (code : A → ℕ) (refuse : ℕ → A) → ((k : ℕ) → code (refuse k) ≡ k) → (used made : List Float) (r : A)
    → code (judged_call refuse used made r) ≡ 0 → Accepted used made r (judged_call refuse used made r)
accepted code refuse own used made r =
    let five = own 5 in
    let seven = own 7 in
    by_call refuse used made r (λ q. code q ≡ 0 → Accepted used made r q)
    (λ i n _. record { input = i; numbers = n; answer = refl })
    (λ i n e. absurd (omega arith))
    (λ i e. absurd (omega arith))
