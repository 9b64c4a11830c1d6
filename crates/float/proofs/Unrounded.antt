-- Where a product with a power of two is exact. The digits of a number of the format stay, so only its exponent can be out of reach: below the smallest one, or
-- too large. A product no less than the smallest normal number and no larger than the largest number is neither; and what rounds to more than the smallest
-- normal number has all of the format's digits, so it is not below it.
use Rattle.float.proofs.Words.{◌≡◌, refl, sym, ap, ◌∙◌, subst, Bool, true, false, not, ◌&&◌, false≢true, ℕ, zero, suc, ◌-◌, ◌*◌, ◌%◌, ◌^◌, ◌≤◌, ◌<◌}
use Rattle.float.proofs.Words.{mul-one, mul-le-mul_right, mul-lt-mul_of_pos_right, lt_of_le_of_lt, le_trans, le_of_eq, le_of_suc-le-suc, zero-lt-suc}
use Rattle.float.proofs.Words.{pow-succ', arith, T, eqb, ltb, leb, le→leb, lt→ltb, lit<, ℤ, pos, negsuc, ◌+ℤ◌, pow_pos, pow_mono, Float, nan, inf, fin}
use Rattle.float.proofs.Words.{Format, binary32, binary64, prec, emax, low, hid, up, down, round, fits, lt, eq, le, of_bits}
use Rattle.std.proofs.Common.{le-div_iff_mul-le}
use native.Mathlib.Nat.{lt_of_mul-lt-mul_left}
use lib.Ieee.Bits.{is_true}
use lib.Ieee.Digits.{size_reaches}
use lib.Ieee.Exact.{HasValue}
use lib.Ieee.Fits.{down_pos, and_i, and_l}
use lib.Ieee.Order.{round_mono, le_of_values}
use lib.Ieee.Positive.{num, positive, values_of_le}
use lib.Ieee.Scale as scale
use lib.Ieee.Scale.{round_val, round_under, normal_of_rounded, grid}
use Rattle.float.specs.Constants.{zero_f, smallest_f, largest_f}
use Rattle.float.specs.Scaled.{times_power, shifted, zero_or_normal}
use Rattle.float.specs.Sign.{magnitude_of, finite}
use Rattle.float.proofs.Choice.{by_either, either}
use Rattle.float.proofs.Exact.{own_rounded}
use Rattle.float.proofs.Finite.{both_true, magnitude_finite}
use Rattle.float.proofs.Invalid.{at_most, positive_is_finite}
use Rattle.float.proofs.Powers.{exponent_lt}
use Rattle.float.proofs.Scaling.{scaled_at, scaled_none, scaled_itself, round_unsigned}
use Rattle.float.proofs.Units.{in_units_lem, prec_pos, twice_hid}
use Rattle.float.proofs.Zeros.{zero_of_eq}

-- ---- a number of the format with another exponent

-- it fits where the exponent is not too low and the number not too large
moved_fits : (f : Format) (s : Bool) (m : ℕ) (e g : ℤ) → T (fits f (fin s (suc m) e)) → down g ≤ 2 ^ low f → suc m * up g < 2 ^ suc (emax f) * down g
    → T (fits f (fin s (suc m) g))
unfolding fits
moved_fits f s m e g t lo hi =
    let A = eqb (suc m % 2) 1 && ltb (suc m) (2 ^ prec f) in
    let B = leb (down e) (2 ^ low f) in
    let C = leb (down g) (2 ^ low f) in
    and_i (A && C) (ltb (suc m * up g) (2 ^ suc (emax f) * down g))
    (and_i A C (and_l A B (and_l (A && B) (ltb (suc m * up e) (2 ^ suc (emax f) * down e)) t)) (le→leb (down g) (2 ^ low f) lo))
    (lt→ltb (suc m * up g) (2 ^ suc (emax f) * down g) hi)

-- a number of no more digits than the format's that is no less than the smallest normal one
exponent_reached : (f : Format) (m : ℕ) (g : ℤ) → m < 2 ^ prec f → hid f * down g ≤ m * up g * 2 ^ low f → down g ≤ 2 ^ low f
exponent_reached f m (pos a) small h = pow_pos (low f)
exponent_reached f m (negsuc a) small h =
    let twice : 2 ^ prec f * 2 ^ low f ≡ hid f * 2 ^ suc (low f) =
    ap (λ (x : ℕ). x * 2 ^ low f) (sym (twice_hid f)) ∙ omega (arith, ap (λ (x : ℕ). hid f * x) (pow-succ' 2 (low f))) in
    let under : m * 1 * 2 ^ low f < 2 ^ prec f * 2 ^ low f = mul-lt-mul_of_pos_right (rw (mul-one m) small) (pow_pos (low f)) in
    let l : hid f * 2 ^ suc a < hid f * 2 ^ suc (low f) = lt_of_le_of_lt h (rw twice at under) in
    pow_mono (le_of_suc-le-suc (exponent_lt (suc a) (suc (low f)) (lt_of_mul-lt-mul_left (hid f) l)))

-- ---- the smallest normal number is `hid` units, and the largest number is a whole number below 2 ^ (emax + 1)
smallest_value : (f : Format) → HasValue (smallest_f f) false (hid f) (2 ^ low f)
unfolding of_bits
smallest_value binary32 = (refl, refl)
smallest_value binary64 = (refl, refl)

smallest_positive : (f : Format) → T (positive (smallest_f f))
unfolding of_bits
smallest_positive binary32 = tt
smallest_positive binary64 = tt

pub smallest_finite : (f : Format) → finite (smallest_f f) ≡ true
smallest_finite f = positive_is_finite (smallest_f f) (smallest_positive f)

largest_value : (f : Format) → HasValue (largest_f f) false (num (largest_f f)) 1
unfolding of_bits
largest_value binary32 = (refl, refl)
largest_value binary64 = (refl, refl)

largest_positive : (f : Format) → T (positive (largest_f f))
unfolding of_bits
largest_positive binary32 = tt
largest_positive binary64 = tt

largest_under : (f : Format) → num (largest_f f) < 2 ^ suc (emax f)
unfolding of_bits
largest_under binary32 = lit< tt
largest_under binary64 = lit< tt

-- ---- rounded fractions: above the smallest normal number there are more than `hid` units, and from 2 ^ (emax + 1) on there is the infinity

-- the kit's finite test says the same
kit_finite : (x : Float) → finite x ≡ true → T (scale.finite x)
unfolding finite
kit_finite nan h = absurd (false≢true h)
kit_finite (inf s) h = absurd (false≢true h)
kit_finite (fin s m e) h = tt

over_smallest : (f : Format) (a c : ℕ) → finite (round f false a c) ≡ true → lt (smallest_f f) (round f false a c) ≡ true → hid f < grid f a c
over_smallest f a c h l =
    let v = round f false a c in
    let w = round_val f a c (round_under f a c (kit_finite v h)) in
    either (hid f) (grid f a c) (λ g. g)
    (λ g.
    let b = le_of_values v (smallest_f f) _ _ _ _ (pow_pos (low f)) (pow_pos (low f)) w (smallest_value f) (mul-le-mul_right (2 ^ low f) g) in
    absurd (false≢true (ap not (sym l) ∙ sym (at_most v (smallest_f f) h (smallest_finite f)) ∙ is_true _ b)))

top_infinite : (f : Format) → round f false (2 ^ suc (emax f)) 1 ≡ inf false
unfolding round
top_infinite binary32 = refl
top_infinite binary64 = refl

infinity_not_low : (x : Float) → finite x ≡ true → T (le (inf false) x) → ⊥
unfolding finite le lt eq
infinity_not_low nan h l = l
infinity_not_low (inf s) h l = absurd (false≢true h)
infinity_not_low (fin s m e) h l = l

too_large : (f : Format) (a c : ℕ) → 0 < c → finite (round f false a c) ≡ true → 2 ^ suc (emax f) * c ≤ a → ⊥
too_large f a c C h l =
    infinity_not_low (round f false a c) h
    (rw (top_infinite f) at (round_mono f (2 ^ suc (emax f)) 1 a c (lit< tt) C (le_trans l (le_of_eq (sym (mul-one a))))))

-- ---- a product keeps its digits

-- a zero of the format has the exponent 0
zero_stays : (f : Format) (k : ℤ) (s : Bool) (e : ℤ) → T (fits f (fin s 0 e)) → times_power f k (fin s 0 e) ≡ fin s 0 e
zero_stays f k s e t = scaled_none f k s e ∙ sym (scaled_none f (pos 0) s e) ∙ scaled_itself f (fin s 0 e) t

module _ (f : Format) (k : ℤ) (s : Bool) (m : ℕ) (e : ℤ) (t : T (fits f (fin s (suc m) e))) where
  abbrev moved : ℤ
  moved = e +ℤ k

  stays : hid f * down moved ≤ suc m * up moved * 2 ^ low f → suc m * up moved < 2 ^ suc (emax f) * down moved
      → times_power f k (fin s (suc m) e) ≡ fin s (suc m) moved
  stays lo hi =
      scaled_at f k s (suc m) e
      ∙ own_rounded f s (suc m) moved (moved_fits f s m e moved t (exponent_reached f (suc m) moved (in_units_lem f s (suc m) e t).small lo) hi)

  -- no less than the smallest normal number, and no larger than the largest number
  normal_stays : le (smallest_f f) (fin false (suc m) moved) ≡ true → le (fin false (suc m) moved) (largest_f f) ≡ true
      → times_power f k (fin s (suc m) e) ≡ fin s (suc m) moved
  normal_stays a b =
      let x = fin false (suc m) moved in
      let p : T (positive x) = lt→ltb 0 (suc m) (zero-lt-suc m) in
      let v : HasValue x false (suc m * up moved) (down moved) = (refl, refl) in
      let top = values_of_le x (largest_f f) _ _ _ _ p (largest_positive f) v (largest_value f) (subst T (sym b) tt) in
      stays (values_of_le (smallest_f f) x _ _ _ _ (smallest_positive f) p (smallest_value f) v (subst T (sym a) tt))
      (lt_of_le_of_lt (le_of_eq (sym (mul-one _))) (lt_of_le_of_lt top (mul-lt-mul_of_pos_right (largest_under f) (down_pos moved))))

  -- a rounded product that is above the smallest normal number
  above_stays : finite (times_power f k (fin s (suc m) e)) ≡ true → lt (smallest_f f) (magnitude_of (times_power f k (fin s (suc m) e))) ≡ true
      → times_power f k (fin s (suc m) e) ≡ fin s (suc m) moved
  above_stays p q =
      let a = suc m * up moved in
      let c = down moved in
      let v = round f false a c in
      let is : magnitude_of (times_power f k (fin s (suc m) e)) ≡ v = ap magnitude_of (scaled_at f k s (suc m) e) ∙ round_unsigned f s a c in
      let w : finite v ≡ true = rw is at (magnitude_finite (times_power f k (fin s (suc m) e)) p) in
      stays ((le-div_iff_mul-le (down_pos moved)).0
      (size_reaches _ (prec f - 1) (omega (arith, prec_pos f, normal_of_rounded f a c (over_smallest f a c w (rw is at q))))))
      (either a (2 ^ suc (emax f) * c) (λ l. l) (λ l. absurd (too_large f a c (down_pos moved) w l)))

pub scaled_exact : (f : Format) (k : ℤ) (x : Float) → T (fits f x) → zero_or_normal f (shifted k x) ≡ true → times_power f k x ≡ shifted k x
unfolding magnitude_of
scaled_exact f k nan t h = unfold times_power in refl
scaled_exact f k (inf s) t h = unfold times_power in refl
scaled_exact f k (fin s zero e) t h = zero_stays f k s e t
scaled_exact f k (fin s (suc m) e) t h =
    let g = e +ℤ k in
    let lo = le (smallest_f f) (fin false (suc m) g) in
    let hi = le (fin false (suc m) g) (largest_f f) in
    by_either (eq (fin s (suc m) g) (zero_f f)) (lo && hi) h (λ z. absurd (omega (arith, zero_of_eq f s (suc m) g z)))
    (λ n. normal_stays f k s m e t (both_true lo hi n).0 (both_true lo hi n).1)

pub scaled_above : (f : Format) (k : ℤ) (x : Float) → T (fits f x) → finite (times_power f k x) ≡ true
    → lt (smallest_f f) (magnitude_of (times_power f k x)) ≡ true → times_power f k x ≡ shifted k x
scaled_above f k nan t p q = unfold times_power in refl
scaled_above f k (inf s) t p q = unfold times_power in refl
scaled_above f k (fin s zero e) t p q = zero_stays f k s e t
scaled_above f k (fin s (suc m) e) t p q = above_stays f k s m e t p q
