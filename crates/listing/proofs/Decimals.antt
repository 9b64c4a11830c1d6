-- Whole numbers in decimal: a number below ten is one digit, any other is its tenth part with a digit behind it. So the digits read back give the number.
use Rattle.float.proofs.Words.{◌≡◌, refl, sym, List, [], ◌∷◌, ◌++◌, ℕ, zero, suc, ◌+◌, ◌-◌, ◌*◌, ◌/◌, ◌%◌, ◌^◌, ◌≤◌, ◌<◌, pow-suc, pow-zero}
use Rattle.float.proofs.Words.{length, length-append, get_or, get_or-append-add, lt-ltb, le-ltb, arith}
use lib.ListN.{get_or-append}
use Rattle.std.specs.Fmt.{decimal}
use Rattle.std.proofs.lemmas.Fmt.{AppendsLastDigit, decimal_from_appends, length-decimal-le}
use Rattle.float.proofs.Choice.{either}
use Rattle.listing.specs.Text.{most_digits, decimal_in, decimal_of, read_behind}

-- ---- digit by digit

pub decimal_small : (k n : ℕ) → n < 10 → decimal_in (suc k) n ≡ (48 + n) ∷ []
unfolding decimal_in
decimal_small k n h = rw (lt-ltb n 10 h)

pub decimal_large : (k n : ℕ) → 10 ≤ n → decimal_in (suc k) n ≡ decimal_in k (n / 10) ++ ((48 + n % 10) ∷ [])
unfolding decimal_in
decimal_large k n h = rw (le-ltb n 10 h)

-- what `{}` and itoa write
pub decimal_is : (n : ℕ) → n < 2 ^ 64 → decimal n ≡ decimal_of n
decimal_is n h =
    let steps : AppendsLastDigit decimal_in = record { one = decimal_small; more = decimal_large } in
    sym (decimal_from_appends decimal_in steps most_digits n h (length-decimal-le most_digits n (omega arith) (omega arith) h))

-- ---- how many

pub digits_most : (k n : ℕ) → length (decimal_in k n) ≤ k
unfolding decimal_in
digits_most zero n = omega arith
digits_most (suc k) n =
    either n 10
    (λ l. rw (decimal_small k n l) (omega arith))
    (λ l. let m = digits_most k (n / 10) in rw (decimal_large k n l, length-append) (omega arith))

-- a number below a power of ten has as many digits at most
pub digits_below : (w k n : ℕ) → n < 10 ^ suc w → length (decimal_in k n) ≤ suc w
unfolding decimal_in
digits_below w zero n h = omega arith
digits_below zero (suc k) n h = rw (decimal_small k n h) (omega arith)
digits_below (suc w) (suc k) n h =
    let b : n < 10 ^ suc w * 10 = rw pow-suc at h in
    either n 10
    (λ l. rw (decimal_small k n l) (omega arith))
    (λ l. let m = digits_below w k (n / 10) (omega arith) in rw (decimal_large k n l, length-append) (omega arith))

-- ---- what they stand for

read_more : (m d : ℕ) (ds : List ℕ) → read_behind m (ds ++ (d ∷ [])) ≡ 10 * read_behind m ds + (d - 48)
unfolding read_behind
read_more m d [] = refl
read_more m d (x ∷ ds) = read_more (10 * m + (x - 48)) d ds

pub read_digits : (k n : ℕ) → n < 10 ^ k → read_behind 0 (decimal_in k n) ≡ n
unfolding read_behind decimal_in
read_digits zero n h = let l : n < 1 = rw pow-zero at h in omega arith
read_digits (suc k) n h =
    let b : n < 10 ^ k * 10 = rw pow-suc at h in
    either n 10
    (λ l. rw (decimal_small k n l) (omega arith))
    (λ l. rw (decimal_large k n l, read_more, read_digits k (n / 10) (omega arith)) (omega arith))

pub read_back : (n : ℕ) → n < 10 ^ most_digits → read_behind 0 (decimal_of n) ≡ n
read_back n h = read_digits most_digits n h

-- ---- which bytes they are

-- a digit behind others
each_more : (ds : List ℕ) (d : ℕ) → ((i : ℕ) → i < length ds → (48 ≤ get_or ds i 0) × (get_or ds i 0 ≤ 57)) → 48 ≤ d → d ≤ 57
    → (i : ℕ) → i < length (ds ++ (d ∷ [])) → (48 ≤ get_or (ds ++ (d ∷ [])) i 0) × (get_or (ds ++ (d ∷ [])) i 0 ≤ 57)
each_more ds d h u v i l =
    either i (length ds)
    (λ below. rw (get_or-append ds (d ∷ []) 0 i below) (h i below))
    (λ past.
    let last : i ≡ length ds + 0 = omega (arith, rw length-append at l) in
    rw (last, get_or-append-add) (u, v))

each_digit_in : (k n i : ℕ) → i < length (decimal_in k n) → (48 ≤ get_or (decimal_in k n) i 0) × (get_or (decimal_in k n) i 0 ≤ 57)
unfolding decimal_in
each_digit_in zero n = λ i h. absurd (omega arith)
each_digit_in (suc k) n =
    either n 10
    (λ l. rw (decimal_small k n l) (each_more [] (48 + n) (λ i h. absurd (omega arith)) (omega arith) (omega arith)))
    (λ l. rw (decimal_large k n l) (each_more (decimal_in k (n / 10)) (48 + n % 10) (each_digit_in k (n / 10)) (omega arith) (omega arith)))

-- every byte is a digit
pub each_digit : (n i : ℕ) → i < length (decimal_of n) → (48 ≤ get_or (decimal_of n) i 0) × (get_or (decimal_of n) i 0 ≤ 57)
each_digit n = each_digit_in most_digits n

first_of : (ds es : List ℕ) → 48 < get_or ds 0 0 → 48 < get_or (ds ++ es) 0 0
first_of [] es h = absurd (omega arith)
first_of (d ∷ ds) es h = h

first_digit_in : (k n : ℕ) → 0 < n → n < 10 ^ k → 48 < get_or (decimal_in k n) 0 0
first_digit_in zero n p h = absurd (omega (arith, rw pow-zero at h))
first_digit_in (suc k) n p h =
    let b : n < 10 ^ k * 10 = rw pow-suc at h in
    either n 10
    (λ l. rw (decimal_small k n l) (omega arith))
    (λ l. rw (decimal_large k n l) (first_of (decimal_in k (n / 10)) ((48 + n % 10) ∷ []) (first_digit_in k (n / 10) (omega arith) (omega arith))))

-- no zero stands in front
pub no_zero_in_front : (n : ℕ) → 0 < n → n < 10 ^ most_digits → 48 < get_or (decimal_of n) 0 0
no_zero_in_front n p h = first_digit_in most_digits n p h
