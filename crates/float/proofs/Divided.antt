-- Numbers divided by the power of two under the largest of them. Rounding keeps order, so the largest product is the product of the largest. That one is from
-- 1 up to 2 before it is rounded, so it is exact, and all others are at most 2.
use Rattle.float.proofs.Words.{◌≡◌, refl, sym, ap, ◌∙◌, subst, true, false, false≢true, List, [], ◌∷◌, map, ℕ, ◌*◌, ◌^◌, ◌≤◌, ◌<◌, mul-pos}
use Rattle.float.proofs.Words.{mul_right_comm, mul-le-mul_right, arith, T, length, get_or, eqb, eqb→eq, ℤ, pos, neg_ℤ, ◌+ℤ◌, Float, nan, inf, fin, Format}
use Rattle.float.proofs.Words.{binary32, binary64, low, up, down, round, lt, eq, le, fits, of_bits, ltb-false, not-true}
use lib.IntN.{suc_ℤ, suc_ℤ-+ℤ, +ℤ_invr}
use lib.Ieee.Bits.{is_true}
use lib.Ieee.Fits.{down_pos, and_l}
use lib.Ieee.Nearest.{div_same}
use lib.Ieee.Order.{round_mono}
use Rattle.float.specs.Constants.{zero_f, one_f, two_f, smallest_f}
use Rattle.float.specs.Scaled.{times_power, shifted, power_under, larger, largest_from, largest_magnitude, power_of}
use Rattle.float.specs.Sign.{magnitude_of, sign_bit_of, finite, all_finite}
use Rattle.float.proofs.Choice.{chosen, by_test}
use Rattle.float.proofs.Exact.{own_rounded}
use Rattle.float.proofs.Finite.{both_true, at-finite, all_finite-map, magnitude_finite, magnitude_twice, zero-finite}
use Rattle.float.proofs.Invalid.{at_most}
use Rattle.float.proofs.Keys.{keyed, key_below, key-not_below, below_of_keys}
use Rattle.float.proofs.Power.{one_is, two_is, power_low, power_above, from_either, largest-finite, largest_fits, largest_most, lt-shifted}
use Rattle.float.proofs.Scaling.{scaled_at, scaled_fits, scaled_zero, scaled_magnitude, finite_before}
use Rattle.float.proofs.Under.{not_above, finite_no_nan}
use Rattle.float.proofs.Units.{same_units}
use Rattle.float.proofs.Unrounded.{smallest_finite, scaled_above}
use Rattle.float.proofs.Zeros.{zero_is}

-- ---- order, of numbers without a sign

-- what is at most another is not above it
not_over : (x y : Float) → finite x ≡ true → finite y ≡ true → le x y ≡ true → lt y x ≡ false
not_over x y p q h = not-true (lt y x) (sym (at_most x y p q) ∙ h)

at_most_of_below : (x y : Float) → lt x y ≡ true → le x y ≡ true
unfolding le
at_most_of_below x y h = rw h

-- products are in the order of the numbers
round_order : (f : Format) (k : ℤ) (m : ℕ) (e : ℤ) (n : ℕ) (d : ℤ) → m * up e * down d ≤ n * up d * down e
    → T (le (times_power f k (fin false m e)) (times_power f k (fin false n d)))
unfolding times_power
round_order f k m e n d h =
    round_mono f (m * up e * up k) (down e * down k) (n * up d * up k) (down d * down k) (mul-pos (down_pos e) (down_pos k)) (mul-pos (down_pos d) (down_pos k))
    (omega (arith, mul-le-mul_right (up k * down k) h))

signed_not : (m : ℕ) (e : ℤ) → fin false m e ≡ fin true m e → ⊥
unfolding sign_bit_of
signed_not m e h = false≢true (ap sign_bit_of h)

pub scaled_order : (f : Format) (k : ℤ) (x y : Float) → magnitude_of x ≡ x → magnitude_of y ≡ y → finite x ≡ true → finite y ≡ true → lt y x ≡ false
    → le (times_power f k x) (times_power f k y) ≡ true
unfolding magnitude_of finite lt
scaled_order f k nan y a b p q h = absurd (false≢true p)
scaled_order f k (inf s) y a b p q h = absurd (false≢true p)
scaled_order f k (fin s m e) nan a b p q h = absurd (false≢true q)
scaled_order f k (fin s m e) (inf t) a b p q h = absurd (false≢true q)
scaled_order f k (fin true m e) (fin t n d) a b p q h = absurd (signed_not m e a)
scaled_order f k (fin false m e) (fin true n d) a b p q h = absurd (signed_not n d b)
scaled_order f k (fin false m e) (fin false n d) a b p q h = is_true _ (round_order f k m e n d (ltb-false _ _ h))

-- numbers without a sign that are equal, and fit, are the same
same_number : (f : Format) (x y : Float) → magnitude_of x ≡ x → magnitude_of y ≡ y → finite x ≡ true → finite y ≡ true → T (fits f x) → T (fits f y)
    → eq x y ≡ true → x ≡ y
unfolding magnitude_of finite eq
same_number f nan y a b p q s t h = absurd (false≢true p)
same_number f (inf u) y a b p q s t h = absurd (false≢true p)
same_number f (fin u m e) nan a b p q s t h = absurd (false≢true q)
same_number f (fin u m e) (inf v) a b p q s t h = absurd (false≢true q)
same_number f (fin true m e) (fin v n d) a b p q s t h = absurd (signed_not m e a)
same_number f (fin false m e) (fin true n d) a b p q s t h = absurd (signed_not n d b)
same_number f (fin false m e) (fin false n d) a b p q s t h =
    let x = m * up e * down d in
    let y = n * up d * down e in
    let g : x ≡ y = eqb→eq x y (and_l (eqb x y) true (subst T (sym h) tt)) in
    same_units f m e n d s t (div_same (m * up e * 2 ^ low f) (down e) (n * up d * 2 ^ low f) (down d) (down_pos e) (down_pos d)
    (mul_right_comm (m * up e) (2 ^ low f) (down d) ∙ ap (λ (z : ℕ). z * 2 ^ low f) g ∙ mul_right_comm (n * up d) (down e) (2 ^ low f)))

-- ---- the largest product is the product of the largest

module _ (f : Format) (k : ℤ) where
  still_unsigned : (x : Float) → magnitude_of x ≡ x → magnitude_of (times_power f k x) ≡ times_power f k x
  still_unsigned x h = scaled_magnitude f k x ∙ ap (times_power f k) h

  module _ (x y : Float) (a : magnitude_of x ≡ x) (b : magnitude_of y ≡ y) (p : finite (times_power f k x) ≡ true) (q : finite (times_power f k y) ≡ true) where
    -- where y is above x, y's product is the larger one, or both round to one number
    second_larger : lt x y ≡ true → larger (times_power f k x) (times_power f k y) ≡ times_power f k y
    unfolding le
    second_larger e =
        let u = times_power f k x in
        let v = times_power f k y in
        let i = finite_before f k x p in
        let j = finite_before f k y q in
        let o : le u v ≡ true = scaled_order f k x y a b i j (not_over x y i j (at_most_of_below x y e)) in
        by_test (λ (w : Float). w ≡ v) (lt u v) v u (λ g. refl)
        (λ g. same_number f u v (still_unsigned x a) (still_unsigned y b) p q (scaled_fits f k x) (scaled_fits f k y) (rw g at o))

    first_larger : lt x y ≡ false → larger (times_power f k x) (times_power f k y) ≡ times_power f k x
    first_larger e =
        let u = times_power f k x in
        let v = times_power f k y in
        rw (not_over v u q p (scaled_order f k y x b a (finite_before f k y q) (finite_before f k x p) e))

    larger_scaled : larger (times_power f k x) (times_power f k y) ≡ times_power f k (larger x y)
    larger_scaled = by_test (λ (w : Float). larger (times_power f k x) (times_power f k y) ≡ times_power f k w) (lt x y) y x second_larger first_larger

  from_scaled : (x : Float) (ys : List Float) → magnitude_of x ≡ x → finite (times_power f k x) ≡ true → all_finite (map (times_power f k) ys) ≡ true
      → largest_from (times_power f k x) (map (times_power f k) ys) ≡ times_power f k (largest_from x ys)
  unfolding largest_from all_finite
  from_scaled x [] a p t = refl
  from_scaled x (y ∷ ys) a p t =
      let z = magnitude_of y in
      let c = magnitude_twice y in
      let b = both_true (finite (times_power f k y)) (all_finite (map (times_power f k) ys)) t in
      let q : finite (times_power f k z) ≡ true = rw (scaled_magnitude f k y) at (magnitude_finite (times_power f k y) b.0) in
      ap (λ (w : Float). largest_from (larger (times_power f k x) w) (map (times_power f k) ys)) (scaled_magnitude f k y)
      ∙ ap (λ (w : Float). largest_from w (map (times_power f k) ys)) (larger_scaled x z a c p q)
      ∙ from_scaled (larger x z) ys (chosen (λ (w : Float). magnitude_of w ≡ w) (lt x z) z x c a)
      (chosen (λ (w : Float). finite (times_power f k w) ≡ true) (lt x z) z x q p) b.1

zero_unsigned : (f : Format) → magnitude_of (zero_f f) ≡ zero_f f
zero_unsigned f = rw (zero_is f) (unfold magnitude_of in refl)

pub largest_scaled : (f : Format) (k : ℤ) (xs : List Float) → all_finite (map (times_power f k) xs) ≡ true
    → largest_magnitude f (map (times_power f k) xs) ≡ times_power f k (largest_magnitude f xs)
largest_scaled f k xs t =
    ap (λ (w : Float). largest_from w (map (times_power f k) xs)) (sym (scaled_zero f k))
    ∙ from_scaled f k (zero_f f) xs (zero_unsigned f) (rw (scaled_zero f k) (zero-finite f)) t

pub largest_unsigned : (f : Format) (xs : List Float) → magnitude_of (largest_magnitude f xs) ≡ largest_magnitude f xs
largest_unsigned f xs =
    from_either (λ (v : Float). magnitude_of v ≡ v) (zero_f f) xs (zero_unsigned f) (λ i h. magnitude_twice (get_or xs i nan))

-- ---- divided by the power of two under the largest

-- 2 ^ j times 2 ^ k is 2 ^ g
power_scaled : (f : Format) (j k g : ℤ) → j +ℤ k ≡ g → T (fits f (fin false 1 g)) → times_power f k (fin false 1 j) ≡ fin false 1 g
power_scaled f j k g e t =
    scaled_at f k false 1 j ∙ ap (λ (z : ℤ). round f false (1 * up z) (down z)) e ∙ own_rounded f false 1 g t

next_less : (j : ℤ) → suc_ℤ j +ℤ neg_ℤ j ≡ pos 1
next_less j = suc_ℤ-+ℤ j (neg_ℤ j) ∙ ap suc_ℤ (+ℤ_invr j)

one_fits : (f : Format) → T (fits f (fin false 1 (pos 0)))
unfolding fits
one_fits binary32 = tt
one_fits binary64 = tt

two_fits : (f : Format) → T (fits f (fin false 1 (pos 1)))
unfolding fits
two_fits binary32 = tt
two_fits binary64 = tt

-- what is at most a finite number in magnitude is finite
at_most_finite : (x y : Float) → finite y ≡ true → le (magnitude_of x) y ≡ true → finite x ≡ true
unfolding magnitude_of finite le lt eq
at_most_finite nan y p h = h
at_most_finite (inf s) nan p h = h
at_most_finite (inf s) (inf t) p h = absurd (false≢true p)
at_most_finite (inf s) (fin t n d) p h = h
at_most_finite (fin s m e) y p h = refl

-- below 2 ^ (j + 1) the number divided by 2 ^ j is at most 2
under_next : (f : Format) (j : ℤ) (x : Float) → finite x ≡ true → lt (magnitude_of x) (fin false 1 (suc_ℤ j)) ≡ true → finite (times_power f (neg_ℤ j) x) ≡ true
under_next f j x p h =
    let z = magnitude_of x in
    let y = fin false 1 (suc_ℤ j) in
    let q : finite y ≡ true = unfold finite in refl in
    let c = magnitude_finite x p in
    let o = scaled_order f (neg_ℤ j) z y (magnitude_twice x) (unfold magnitude_of in refl) c q (not_over z y c q (at_most_of_below z y h)) in
    at_most_finite (times_power f (neg_ℤ j) x) (fin false 1 (pos 1)) (unfold finite in refl)
    (rw (scaled_magnitude f (neg_ℤ j) x) (rw (power_scaled f (suc_ℤ j) (neg_ℤ j) (pos 1) (next_less j) (two_fits f)) at o))

module _ (f : Format) (xs : List Float) (a : all_finite xs ≡ true) where
  -- the largest is below the next power
  below_next : lt (largest_magnitude f xs) (fin false 1 (suc_ℤ (power_of f xs))) ≡ true
  below_next = rw (largest_unsigned f xs) at (power_above (largest_magnitude f xs) (largest-finite f xs a))

  pub divided-finite : all_finite (map (times_power f (neg_ℤ (power_of f xs))) xs) ≡ true
  divided-finite =
      all_finite-map (times_power f (neg_ℤ (power_of f xs))) xs (λ i h.
      let x = get_or xs i nan in
      let p = at-finite xs a i h in
      under_next f (power_of f xs) x p
      (not_above (largest_magnitude f xs) (magnitude_of x) (fin false 1 (suc_ℤ (power_of f xs))) (unfold finite in refl)
      (finite_no_nan (magnitude_of x) (magnitude_finite x p)) (largest_most f xs a i h) below_next))

-- the smallest normal number is below 1
smallest_below_one : (f : Format) → lt (smallest_f f) (fin false 1 (pos 0)) ≡ true
unfolding lt of_bits
smallest_below_one binary32 = refl
smallest_below_one binary64 = refl

below_at_most : (x y z : Float) → finite x ≡ true → finite y ≡ true → finite z ≡ true → lt x y ≡ true → le y z ≡ true → lt x z ≡ true
below_at_most x y z p q r h k =
    let o = keyed x y z p q r in
    below_of_keys o.L o.K x z o.one o.three
    (omega (arith, key_below o.L o.K x y o.one o.two h, key-not_below o.L o.K z y o.three o.two (not_over y z q r k)))

-- a number that is not zero, divided by the power of two under it
module _ (f : Format) (x : Float) (t : T (fits f x)) (a : magnitude_of x ≡ x) (p : finite x ≡ true) (n : eq x (zero_f f) ≡ false) where
  abbrev quotient : Float
  quotient = times_power f (neg_ℤ (power_under x)) x

  under_two : lt x (fin false 1 (suc_ℤ (power_under x))) ≡ true
  under_two = rw a at (power_above x p)

  quotient_finite : finite quotient ≡ true
  quotient_finite = under_next f (power_under x) x p (power_above x p)

  quotient_low : le (fin false 1 (pos 0)) quotient ≡ true
  quotient_low =
      let j = power_under x in
      let y = fin false 1 j in
      let q : finite y ≡ true = unfold finite in refl in
      let o = scaled_order f (neg_ℤ j) y x (unfold magnitude_of in refl) a q p (not_over y x q p (rw a at (power_low f x p n))) in
      rw (power_scaled f j (neg_ℤ j) (pos 0) (+ℤ_invr j) (one_fits f)) at o

  -- it is exact, so it is below 2
  quotient_exact : quotient ≡ shifted (neg_ℤ (power_under x)) x
  quotient_exact =
      let one = fin false 1 (pos 0) in
      let over = below_at_most (smallest_f f) one quotient (smallest_finite f) (unfold finite in refl) quotient_finite (smallest_below_one f) quotient_low in
      scaled_above f (neg_ℤ (power_under x)) x t quotient_finite (rw (scaled_magnitude f (neg_ℤ (power_under x)) x, a) over)

  quotient_high : lt quotient (fin false 1 (pos 1)) ≡ true
  quotient_high =
      let j = power_under x in
      rw quotient_exact
      (rw (ap (λ (g : ℤ). fin false 1 g) (next_less j)) at (lt-shifted (neg_ℤ j) x (fin false 1 (suc_ℤ j)) ∙ under_two))

pub divided_range : (f : Format) (xs : List Float) → all_finite xs ≡ true → ((i : ℕ) → i < length xs → T (fits f (get_or xs i nan)))
    → eq (largest_magnitude f xs) (zero_f f) ≡ false
    → let y = largest_magnitude f (map (times_power f (neg_ℤ (power_of f xs))) xs) in (le (one_f f) y ≡ true) × (lt y (two_f f) ≡ true)
divided_range f xs a t n =
    let x = largest_magnitude f xs in
    let fit = largest_fits f xs t in
    let u = largest_unsigned f xs in
    let p = largest-finite f xs a in
    rw (largest_scaled f (neg_ℤ (power_of f xs)) xs (divided-finite f xs a), one_is f, two_is f) (quotient_low f x fit u p n, quotient_high f x fit u p n)
