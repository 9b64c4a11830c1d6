-- Tallies are added place by place, so a sum keeps the laws of numbers; and counts only grow, so what has passed 64 bits stays past them.
use Rattle.float.proofs.Words.{◌≡◌, refl, sym, ap, ◌∙◌, Bool, true, false, false≢true, List, [], ◌∷◌, ℕ, zero, suc, ◌+◌, ◌^◌, ◌<◌, add_comm, add_assoc}
use Rattle.float.proofs.Words.{add-zero, le_of_suc-le-suc, arith, ltb, ltb-true, lt-ltb, le-ltb, length, length-set, get_or, set, replicate}
use Rattle.float.proofs.Words.{subst, subst⁻¹, true≢false, and-true}
use lib.ListN.{length-replicate}
use Rattle.float.proofs.Choice.{so_or_not}
use Rattle.float.proofs.Finite.{both_true}
use Rattle.std.specs.Prelude.{Result, Ok, Err, is_ok, is_err}
use Rattle.counts.specs.Cells.{tally_size}
use Rattle.counts.specs.Tally.{plus_of, all_fit}
use Rattle.counts.specs.Adding.{Summed, only}

-- ---- the sum

pub plus_comm : (xs ys : List ℕ) → plus_of xs ys ≡ plus_of ys xs
unfolding plus_of
plus_comm [] [] = refl
plus_comm [] (y ∷ ys) = refl
plus_comm (x ∷ xs) [] = refl
plus_comm (x ∷ xs) (y ∷ ys) = rw (add_comm x y, plus_comm xs ys)

pub plus_assoc : (xs ys zs : List ℕ) → plus_of (plus_of xs ys) zs ≡ plus_of xs (plus_of ys zs)
unfolding plus_of
plus_assoc [] ys zs = refl
plus_assoc (x ∷ xs) [] zs = refl
plus_assoc (x ∷ xs) (y ∷ ys) [] = refl
plus_assoc (x ∷ xs) (y ∷ ys) (z ∷ zs) = rw (add_assoc x y z, plus_assoc xs ys zs)

pub plus_zero : (xs : List ℕ) → plus_of xs (replicate (length xs) 0) ≡ xs
unfolding plus_of
plus_zero [] = refl
plus_zero (x ∷ xs) = rw (add-zero x, plus_zero xs)

pub plus_zeros : (xs : List ℕ) (n : ℕ) → length xs ≡ n → plus_of xs (replicate n 0) ≡ xs
plus_zeros xs n e = subst (λ (k : ℕ). plus_of xs (replicate k 0) ≡ xs) e (plus_zero xs)

pub plus_length : (xs ys : List ℕ) → length ys ≡ length xs → length (plus_of xs ys) ≡ length xs
unfolding plus_of
plus_length [] ys e = refl
plus_length (x ∷ xs) [] e = e
plus_length (x ∷ xs) (y ∷ ys) e = ap suc (plus_length xs ys (omega arith))

pub plus_at : (xs ys : List ℕ) → length ys ≡ length xs → (i : ℕ) → get_or (plus_of xs ys) i 0 ≡ get_or xs i 0 + get_or ys i 0
unfolding plus_of
plus_at [] [] e i = refl
plus_at [] (y ∷ ys) e i = absurd (omega arith)
plus_at (x ∷ xs) [] e i = absurd (omega arith)
plus_at (x ∷ xs) (y ∷ ys) e zero = refl
plus_at (x ∷ xs) (y ∷ ys) e (suc i) = plus_at xs ys (omega arith) i

-- ---- what fits

-- where a sum fits, so does each of the two
pub part_fits : (xs ys : List ℕ) → length ys ≡ length xs → all_fit (plus_of xs ys) ≡ true → all_fit xs ≡ true
unfolding plus_of all_fit
part_fits [] ys e h = refl
part_fits (x ∷ xs) [] e h = absurd (omega arith)
part_fits (x ∷ xs) (y ∷ ys) e h =
    let b = both_true (ltb (x + y) (2 ^ 64)) (all_fit (plus_of xs ys)) h in
    let k : x + y < 2 ^ 64 = ltb-true (x + y) (2 ^ 64) b.0 in
    rw (lt-ltb x (2 ^ 64) (omega arith), part_fits xs ys (omega arith) b.1)

-- where one does not, the sum does not
pub part_past : (xs ys : List ℕ) → length ys ≡ length xs → all_fit xs ≡ false → all_fit (plus_of xs ys) ≡ false
part_past xs ys e h = so_or_not (all_fit (plus_of xs ys)) (λ k. absurd (true≢false (sym (part_fits xs ys e k) ∙ h))) (λ k. k)

pub fits_each : (xs : List ℕ) → ((i : ℕ) → get_or xs i 0 < 2 ^ 64) → all_fit xs ≡ true
unfolding all_fit
fits_each [] h = refl
fits_each (x ∷ xs) h = rw (lt-ltb x (2 ^ 64) (h 0), fits_each xs (λ (i : ℕ). h (suc i)))

pub each_fits : (xs : List ℕ) → all_fit xs ≡ true → (i : ℕ) → get_or xs i 0 < 2 ^ 64
unfolding all_fit
each_fits [] h i = omega arith
each_fits (x ∷ xs) h zero = ltb-true x (2 ^ 64) (both_true (ltb x (2 ^ 64)) (all_fit xs) h).0
each_fits (x ∷ xs) h (suc i) = each_fits xs (both_true (ltb x (2 ^ 64)) (all_fit xs) h).1 i

-- the same of a sum
module _ (xs ys : List ℕ) (n : length ys ≡ length xs) where
  pub sum_fits_each : ((i : ℕ) → get_or xs i 0 + get_or ys i 0 < 2 ^ 64) → all_fit (plus_of xs ys) ≡ true
  sum_fits_each h = fits_each (plus_of xs ys) (λ i. subst⁻¹ (λ (k : ℕ). k < 2 ^ 64) (plus_at xs ys n i) (h i))

  pub each_of_sum : all_fit (plus_of xs ys) ≡ true → (i : ℕ) → get_or xs i 0 + get_or ys i 0 < 2 ^ 64
  each_of_sum h i = subst (λ (k : ℕ). k < 2 ^ 64) (plus_at xs ys n i) (each_fits (plus_of xs ys) h i)

-- ---- one place

pub only-length : (size at n : ℕ) → length (only size at n) ≡ size
only-length size at n = simp (length-set, length-replicate)

pub set_plus : (xs : List ℕ) (at n : ℕ) → at < length xs → set xs at (get_or xs at 0 + n) ≡ plus_of xs (only (length xs) at n)
unfolding plus_of
set_plus [] at n h = refl
set_plus (x ∷ xs) zero n h = rw (plus_zero xs)
set_plus (x ∷ xs) (suc at) n h = rw (add-zero x, set_plus xs at n (le_of_suc-le-suc h))

pub only_fits : (xs : List ℕ) (at n : ℕ) → at < length xs → all_fit xs ≡ true → all_fit (plus_of xs (only (length xs) at n)) ≡ ltb (get_or xs at 0 + n) (2 ^ 64)
unfolding plus_of all_fit
only_fits [] at n h e = absurd (omega arith)
only_fits (x ∷ xs) zero n h e =
    let b = both_true (ltb x (2 ^ 64)) (all_fit xs) e in
    rw (plus_zero xs, b.1) (and-true (ltb (x + n) (2 ^ 64)))
only_fits (x ∷ xs) (suc at) n h e =
    let b = both_true (ltb x (2 ^ 64)) (all_fit xs) e in
    rw (add-zero x, b.0) (only_fits xs at n (le_of_suc-le-suc h) b.1)

-- the test of the one count that grows
module _ (xs : List ℕ) (at n : ℕ) (room : length xs ≡ tally_size) (below : at < tally_size) (each : (i : ℕ) → get_or xs i 0 < 2 ^ 64) where
  one_fits : all_fit (plus_of xs (only tally_size at n)) ≡ ltb (get_or xs at 0 + n) (2 ^ 64)
  one_fits =
      subst (λ (k : ℕ). all_fit (plus_of xs (only k at n)) ≡ ltb (get_or xs at 0 + n) (2 ^ 64)) room
      (only_fits xs at n (omega arith) (fits_each xs each))

  pub count_fits : get_or xs at 0 + n < 2 ^ 64 → Summed xs (only tally_size at n) true (set xs at (get_or xs at 0 + n))
  count_fits h = (
    sym (one_fits ∙ lt-ltb _ (2 ^ 64) h),
    length-set xs at _,
    λ e.
        subst (λ (k : ℕ). set xs at (get_or xs at 0 + n) ≡ plus_of xs (only k at n)) room (set_plus xs at n (omega arith)),
  )

  pub count_passes : (get_or xs at 0 + n < 2 ^ 64 → ⊥) → Summed xs (only tally_size at n) false xs
  count_passes h = (sym (one_fits ∙ le-ltb _ (2 ^ 64) (omega arith)), refl, λ e. absurd (false≢true e))

-- ---- one adding after another

-- what a `?` hands on is no answer
pub handed_on : {T E : Type 0} (r : Result T E) → is_err r ≡ true → is_ok r ≡ false
handed_on (Ok x) e = absurd (false≢true e)
handed_on (Err x) e = refl

-- nothing is added yet
pub none_summed : (xs : List ℕ) (n : ℕ) → length xs ≡ n → ((i : ℕ) → get_or xs i 0 < 2 ^ 64) → Summed xs (replicate n 0) true xs
none_summed xs n e h =
    let z = plus_zeros xs n e in
    (sym (ap all_fit z ∙ fits_each xs h), refl, λ k. sym z)

-- where the first fits, both together are one
pub then_summed : (xs us vs ys zs : List ℕ) (b c : Bool) → b ≡ true → Summed xs us b ys → Summed ys vs c zs → Summed xs (plus_of us vs) c zs
then_summed xs us vs ys zs b c t p q =
    let e : ys ≡ plus_of xs us = p.2 t in
    let s : plus_of ys vs ≡ plus_of xs (plus_of us vs) = ap (λ (l : List ℕ). plus_of l vs) e ∙ plus_assoc xs us vs in
    (q.0 ∙ ap all_fit s, q.1 ∙ p.1, λ k. q.2 k ∙ s)

-- where it does not, they don't
pub stays_past : (xs us vs ys : List ℕ) (b : Bool) → length us ≡ length xs → length vs ≡ length xs → b ≡ false → Summed xs us b ys
    → Summed xs (plus_of us vs) false ys
stays_past xs us vs ys b u v t p =
    let past = part_past (plus_of xs us) vs (v ∙ sym (plus_length xs us u)) (sym p.0 ∙ t) in
    (sym (ap all_fit (sym (plus_assoc xs us vs)) ∙ past), p.1, λ k. absurd (false≢true k))
