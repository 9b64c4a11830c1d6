-- The power of two under a number, and under the largest of some. A number of n + 1 digits is from 2 ^ n up to 2 ^ (n + 1), times 2 to its exponent. Order is
-- that of the ratios, so it stays when all exponents grow alike, and so does the largest. Rounding keeps order, so the largest product is that of the largest.
use Rattle.float.proofs.Words.{◌≡◌, refl, sym, ap, ◌∙◌, subst, Bool, true, false, true≢false, false≢true, List, [], ◌∷◌, map, ℕ, zero, suc, ◌-◌, ◌*◌}
use Rattle.float.proofs.Words.{◌^◌, ◌≤◌, ◌<◌, zero-lt-suc, mul-pos, mul-le-mul, mul-le-mul_right, mul-lt-mul_of_pos_right, pow-succ'}
use Rattle.float.proofs.Words.{arith, T, length, get_or, lit≤, lit<, lt→ltb, ltb-true, lt-ltb, ℤ, pos, negsuc, ◌+ℤ◌, pow_pos, Float, nan, inf, fin, Format}
use Rattle.float.proofs.Words.{binary32, binary64, up, down, size, lt, eq, le, fits, of_bits}
use lib.IntN.{suc_ℤ, +ℤ-suc_ℤ, +ℤ_assoc, +ℤ_comm, +ℤ_invl}
use lib.Ieee.Bits.{is_true}
use lib.Ieee.Digits.{size-lt, size_reaches}
use lib.Ieee.Fits.{up_pos, down_pos}
use lib.Ieee.Positive.{above, above_of_le, le→cross, cross→le}
use Rattle.float.specs.Constants.{zero_f, one_f, two_f}
use Rattle.float.specs.Scaled.{shifted, power_under, larger, largest_from, largest_magnitude}
use Rattle.float.specs.Sign.{magnitude_of, finite, all_finite}
use Rattle.float.proofs.Choice.{chosen, by_test, so_or_not}
use Rattle.float.proofs.Finite.{both_true, at-finite, magnitude_finite, magnitude_twice, zero-finite}
use Rattle.float.proofs.Invalid.{zero_test}
use Rattle.float.proofs.Keys.{below_same, not_below_itself}
use Rattle.float.proofs.Scaling.{powers_add}
use Rattle.float.proofs.Under.{under}
use Rattle.float.proofs.Sizes.{size_exact, size_pos}
use Rattle.float.proofs.Zeros.{zero_is, magnitude_fits, zero_lt_above}

-- ---- a number that is not zero is from 2 ^ k up to 2 ^ (k + 1)

-- m * 2 ^ e beside 2 ^ (e + n)
module _ (e : ℤ) (n m : ℕ) where
  power_most : 2 ^ n ≤ m → 1 * up (e +ℤ pos n) * down e ≤ m * up e * down (e +ℤ pos n)
  power_most h = let g = e +ℤ pos n in omega (arith, powers_add e (pos n), mul-le-mul_right (up e * down g) h)

  power-over : m < 2 ^ n → m * up e * down (e +ℤ pos n) < 1 * up (e +ℤ pos n) * down e
  power-over h =
      let g = e +ℤ pos n in omega (arith, powers_add e (pos n), mul-lt-mul_of_pos_right h (mul-pos (up_pos e) (down_pos g)))

pub power_low : (f : Format) (x : Float) → finite x ≡ true → eq x (zero_f f) ≡ false → le (fin false 1 (power_under x)) (magnitude_of x) ≡ true
unfolding finite power_under magnitude_of
power_low f nan h n = absurd (false≢true h)
power_low f (inf s) h n = absurd (false≢true h)
power_low f (fin s zero e) h n = absurd (true≢false (sym (zero_test f s 0 e) ∙ n))
power_low f (fin s (suc m) e) h n =
    let d = size (suc m) - 1 in
    let p = size_pos (suc m) (zero-lt-suc m) in
    is_true _ (cross→le (fin false 1 (e +ℤ pos d)) (fin false (suc m) e) tt (lt→ltb 0 (suc m) (zero-lt-suc m))
    (power_most e d (suc m) (size_reaches (suc m) d (omega arith))))

-- what is zero is below 2 ^ 1
pub power_above : (x : Float) → finite x ≡ true → lt (magnitude_of x) (fin false 1 (suc_ℤ (power_under x))) ≡ true
unfolding finite power_under magnitude_of lt
power_above nan h = absurd (false≢true h)
power_above (inf s) h = absurd (false≢true h)
power_above (fin s zero e) h = zero_lt_above e (fin false 1 (pos 1)) tt
power_above (fin s (suc m) e) h =
    let d = size (suc m) - 1 in
    let c : suc d ≡ size (suc m) = let p = size_pos (suc m) (zero-lt-suc m) in omega arith in
    rw (← +ℤ-suc_ℤ e (pos d)) (lt-ltb _ _ (power-over e (suc d) (suc m) (rw c (size-lt (suc m)))))

-- from 1 up to 2 it is 2 ^ 0
range_whole : (m a : ℕ) → suc m * 2 ^ a * 1 < 2 → pos a +ℤ pos (size (suc m) - 1) ≡ pos 0
range_whole zero zero h = rw (size_exact 0 1 (lit≤ tt) (lit< tt))
range_whole zero (suc a) h = absurd (omega (arith, pow_pos a, pow-succ' 2 a))
range_whole (suc m) a h = let two : 2 ≤ suc (suc m) = omega arith in absurd (omega (arith, mul-le-mul two (pow_pos a)))

range_parts : (m a : ℕ) → 1 * 2 ^ suc a ≤ suc m * 1 * 1 → suc m * 1 * 1 < 2 * 2 ^ suc a → negsuc a +ℤ pos (size (suc m) - 1) ≡ pos 0
range_parts m a lo hi =
    let c : size (suc m) - 1 ≡ suc a = omega (arith, size_exact (suc a) (suc m) (omega arith) (omega (arith, pow-succ' 2 (suc a)))) in
    rw c (+ℤ_invl (pos (suc a)))

range_at : (m : ℕ) (e : ℤ) → 1 * down e ≤ suc m * up e * 1 → suc m * up e * 1 < 2 * down e → e +ℤ pos (size (suc m) - 1) ≡ pos 0
range_at m (pos a) lo hi = range_whole m a hi
range_at m (negsuc a) lo hi = range_parts m a lo hi

range_is : (x : Float) → T (above x) → T (le (fin false 1 (pos 0)) x) → lt x (fin false 1 (pos 1)) ≡ true → power_under x ≡ pos 0
unfolding lt power_under
range_is nan p h l = absurd p
range_is (inf true) p h l = absurd p
range_is (inf false) p h l = absurd (false≢true l)
range_is (fin true m e) p h l = absurd p
range_is (fin false zero e) p h l = absurd p
range_is (fin false (suc m) e) p h l =
    range_at m e (le→cross (fin false 1 (pos 0)) (fin false (suc m) e) tt p h) (ltb-true (suc m * up e * 1) (2 * down e) l)

pub one_is : (f : Format) → one_f f ≡ fin false 1 (pos 0)
unfolding of_bits
one_is binary32 = refl
one_is binary64 = refl

pub two_is : (f : Format) → two_f f ≡ fin false 1 (pos 1)
unfolding of_bits
two_is binary32 = refl
two_is binary64 = refl

pub power_range : (f : Format) (x : Float) → le (one_f f) x ≡ true → lt x (two_f f) ≡ true → power_under x ≡ pos 0
power_range f x h l =
    let t : T (le (fin false 1 (pos 0)) x) = subst T (sym (rw (one_is f) at h)) tt in
    range_is x (above_of_le (fin false 1 (pos 0)) x tt t) t (rw (two_is f) at l)

-- ---- the largest of some

-- it is one of them, or what they begin with
module _ (P : Float → Type 0) where
  pub from_either : (x : Float) (ys : List Float) → P x → ((i : ℕ) → i < length ys → P (magnitude_of (get_or ys i nan))) → P (largest_from x ys)
  unfolding largest_from
  from_either x [] p h = p
  from_either x (y ∷ ys) p h =
      from_either (larger x (magnitude_of y)) ys (chosen P (lt x (magnitude_of y)) (magnitude_of y) x (h 0 (omega arith)) p) (λ i l. h (suc i) (omega arith))

pub largest-finite : (f : Format) (xs : List Float) → all_finite xs ≡ true → finite (largest_magnitude f xs) ≡ true
largest-finite f xs a =
    from_either (λ (v : Float). finite v ≡ true) (zero_f f) xs (zero-finite f) (λ i h. magnitude_finite (get_or xs i nan) (at-finite xs a i h))

pub largest_fits : (f : Format) (xs : List Float) → ((i : ℕ) → i < length xs → T (fits f (get_or xs i nan))) → T (fits f (largest_magnitude f xs))
largest_fits f xs h =
    from_either (λ (v : Float). T (fits f v)) (zero_f f) xs (rw (zero_is f) (unfold fits in tt)) (λ i l. magnitude_fits f (get_or xs i nan) (h i l))

-- what is not below z stays so
larger_keeps : (x y z : Float) → finite z ≡ true → lt x z ≡ false → lt (larger x y) z ≡ false
larger_keeps x y z t h =
    by_test (λ (v : Float). lt v z ≡ false) (lt x y) y x
    (λ e. so_or_not (lt y z) (λ g. absurd (true≢false (sym (under x y z t e g) ∙ h))) (λ g. g))
    (λ e. h)

from_keeps : (x : Float) (ys : List Float) (z : Float) → finite z ≡ true → lt x z ≡ false → lt (largest_from x ys) z ≡ false
unfolding largest_from
from_keeps x [] z t h = h
from_keeps x (y ∷ ys) z t h = from_keeps (larger x (magnitude_of y)) ys z t (larger_keeps x (magnitude_of y) z t h)

from_most : (x : Float) (ys : List Float) → all_finite ys ≡ true → (i : ℕ) → i < length ys → lt (largest_from x ys) (magnitude_of (get_or ys i nan)) ≡ false
unfolding largest_from all_finite
from_most x [] a i h = absurd (omega arith)
from_most x (y ∷ ys) a zero h =
    let z = magnitude_of y in
    let t = magnitude_finite y (both_true (finite y) (all_finite ys) a).0 in
    from_keeps (larger x z) ys z t (by_test (λ (v : Float). lt v z ≡ false) (lt x z) z x (λ e. not_below_itself z t) (λ e. e))
from_most x (y ∷ ys) a (suc i) h = from_most (larger x (magnitude_of y)) ys (both_true (finite y) (all_finite ys) a).1 i (omega arith)

pub largest_most : (f : Format) (xs : List Float) → all_finite xs ≡ true → (i : ℕ) → i < length xs
    → lt (largest_magnitude f xs) (magnitude_of (get_or xs i nan)) ≡ false
largest_most f xs = from_most (zero_f f) xs

-- it goes by the magnitudes alone
from_magnitudes : (x : Float) (ys : List Float) → largest_from x ys ≡ largest_from x (map magnitude_of ys)
unfolding largest_from
from_magnitudes x [] = refl
from_magnitudes x (y ∷ ys) =
    from_magnitudes (larger x (magnitude_of y)) ys ∙ ap (λ (z : Float). largest_from (larger x z) (map magnitude_of ys)) (sym (magnitude_twice y))

pub largest-same : (f : Format) (xs ys : List Float) → map magnitude_of xs ≡ map magnitude_of ys → largest_magnitude f xs ≡ largest_magnitude f ys
largest-same f xs ys h = from_magnitudes (zero_f f) xs ∙ ap (largest_from (zero_f f)) h ∙ sym (from_magnitudes (zero_f f) ys)

-- ---- all exponents larger by j

-- the digits stay, and the exponent is such that the number is 2 ^ j times what it was
shifted_is : (j : ℤ) (s : Bool) (m : ℕ) (e : ℤ) → (g : ℤ) × (shifted j (fin s m e) ≡ fin s m g) × (m * up g * (down e * down j) ≡ m * up e * up j * down g)
shifted_is j s zero e = (e, refl, omega arith)
shifted_is j s (suc m) e = (e +ℤ j, refl, omega (arith, ap (λ (x : ℕ). suc m * x) (powers_add e j)))

pub lt-shifted : (j : ℤ) (x y : Float) → lt (shifted j x) (shifted j y) ≡ lt x y
unfolding lt
lt-shifted j nan y = refl
lt-shifted j (inf s) nan = refl
lt-shifted j (inf s) (inf t) = refl
lt-shifted j (inf s) (fin t n d) = rw (shifted_is j t n d).1
lt-shifted j (fin s m e) nan = rw (shifted_is j s m e).1
lt-shifted j (fin s m e) (inf t) = rw (shifted_is j s m e).1
lt-shifted j (fin s m e) (fin t n d) =
    let a = shifted_is j s m e in
    let b = shifted_is j t n d in
    rw (a.1, b.1)
    (below_same s t _ _ _ _ (down e * down d * down j) (up j * down a.0 * down b.0) (mul-pos (mul-pos (down_pos e) (down_pos d)) (down_pos j))
    (mul-pos (mul-pos (up_pos j) (down_pos a.0)) (down_pos b.0))
    (omega (arith, ap (λ (x : ℕ). x * (down b.0 * down d)) a.2)) (omega (arith, ap (λ (x : ℕ). x * (down a.0 * down e)) b.2)))

pub magnitude_shifted : (j : ℤ) (x : Float) → magnitude_of (shifted j x) ≡ shifted j (magnitude_of x)
unfolding magnitude_of
magnitude_shifted j nan = refl
magnitude_shifted j (inf s) = refl
magnitude_shifted j (fin s zero e) = refl
magnitude_shifted j (fin s (suc m) e) = refl

larger-shifted : (j : ℤ) (x y : Float) → larger (shifted j x) (shifted j y) ≡ shifted j (larger x y)
larger-shifted j x y = rw (lt-shifted j x y) (by_test (λ (v : Float). v ≡ shifted j (larger x y)) (lt x y) (shifted j y) (shifted j x) (λ e. rw e) (λ e. rw e))

from_shifted : (j : ℤ) (x : Float) (ys : List Float) → largest_from (shifted j x) (map (shifted j) ys) ≡ shifted j (largest_from x ys)
unfolding largest_from
from_shifted j x [] = refl
from_shifted j x (y ∷ ys) =
    ap (λ (z : Float). largest_from (larger (shifted j x) z) (map (shifted j) ys)) (magnitude_shifted j y)
    ∙ ap (λ (z : Float). largest_from z (map (shifted j) ys)) (larger-shifted j x (magnitude_of y))
    ∙ from_shifted j (larger x (magnitude_of y)) ys

pub largest-shifted : (f : Format) (j : ℤ) (xs : List Float) → largest_magnitude f (map (shifted j) xs) ≡ shifted j (largest_magnitude f xs)
largest-shifted f j xs = rw (zero_is f) (from_shifted j (fin false 0 (pos 0)) xs)

pub power-shifted : (f : Format) (j : ℤ) (x : Float) → finite x ≡ true → eq x (zero_f f) ≡ false → power_under (shifted j x) ≡ power_under x +ℤ j
unfolding finite power_under
power-shifted f j nan h n = absurd (false≢true h)
power-shifted f j (inf s) h n = absurd (false≢true h)
power-shifted f j (fin s zero e) h n = absurd (true≢false (sym (zero_test f s 0 e) ∙ n))
power-shifted f j (fin s (suc m) e) h n =
    let d = pos (size (suc m) - 1) in +ℤ_assoc e j d ∙ ap (λ (z : ℤ). e +ℤ z) (+ℤ_comm j d) ∙ sym (+ℤ_assoc e d j)
