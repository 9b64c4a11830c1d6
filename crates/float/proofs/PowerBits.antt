-- Powers of two by their patterns. In units of the smallest value 2 ^ k is 2 ^ j: a digit of its own below the smallest normal number, and from there on a
-- field with no digits. The power under any other number is told by its leading digit: that of the pattern, or the one that the field stands for.
use Rattle.float.proofs.Words.{◌≡◌, refl, sym, ap, ◌∙◌, subst, Bool, true, false, true≢false, ℕ, zero, suc, ◌+◌, ◌-◌, ◌*◌, ◌/◌, ◌%◌, ◌^◌, ◌≤◌, ◌<◌}
use Rattle.float.proofs.Words.{one-mul, add-zero, zero-mul, mul-div_cancel, mul-le-mul_right, mul-lt-mul_of_pos_right, mul-pos, mod-eq_of_lt, mod-lt}
use Rattle.float.proofs.Words.{zero-lt-suc, lt_irrefl, lt_of_lt_of_le, lt_of_le_of_lt, le_trans, le_of_eq, pow-succ', arith, T, leb, pos, pow-add}
use Rattle.float.proofs.Words.{pow_pos, Float, nan, inf, fin, Format, binary32, binary64, prec, emax, low, down, hid, ones, top, size, minus, odd, fits}
use Rattle.float.proofs.Words.{of_bits, pow-lt, mul-mod_left, lt-leb, le-ltb}
use lib.Count.{count_trailing_zeros}
use lib.Ieee.Digits.{minus_val}
use lib.Ieee.Fits.{two, up_pos, odd-fits}
use lib.Ieee.Exact.{HasValue}
use lib.Ieee.Bits.{of_bits-fits}
use Rattle.float.specs.Sign.{finite}
use Rattle.float.specs.Parts.{field_of, significand_of, exponent_of}
use Rattle.float.specs.Scaled.{power_under}
use Rattle.float.proofs.Exponent.{minus-same}
use Rattle.float.proofs.Sizes.{size_exact, size-shifted}
use Rattle.float.proofs.Patterns.{hid_pos, unsigned, finite_of}
use Rattle.float.proofs.Units.{prec_pos, units_of, parts_value, subnormal_units, field_pos, normal_significand, same_units}
use Rattle.float.proofs.Reach.{power_at}

-- ---- the pattern of a power

one_power : (f : Format) (j : ℕ) → odd (prec f) false 1 j (low f) ≡ fin false 1 (minus j (low f))
unfolding odd count_trailing_zeros
one_power binary32 j = ap (λ (x : ℕ). fin false 1 (minus x (low binary32))) (add-zero j)
one_power binary64 j = ap (λ (x : ℕ). fin false 1 (minus x (low binary64))) (add-zero j)

hid_finite : (f : Format) → hid f ≤ ones f * hid f
hid_finite f = le_trans (le_of_eq (sym (one-mul (hid f)))) (mul-le-mul_right (hid f) (omega arith))

module _ (f : Format) (j : ℕ) (h : j ≤ low f + emax f) where
  power_fits : T (fits f (fin false 1 (minus j (low f))))
  power_fits =
      subst (λ (x : Float). T (fits f x)) (one_power f j)
      (odd-fits f (prec f) false 1 j (pow-lt (prec_pos f)) (pow_pos (prec f))
      (lt_of_le_of_lt (le_of_eq (one-mul (2 ^ j))) (pow-lt (omega arith))))

  -- what has its size, and fits, is the power
  same_power : (x : Float) → T (fits f x) → HasValue x false (2 ^ j) (2 ^ low f) → x ≡ fin false 1 (minus j (low f))
  same_power nan t v = absurd v
  same_power (inf s) t v = absurd v
  same_power (fin true n d) t v = absurd (true≢false v.0)
  same_power (fin false n d) t v =
      same_units f n d 1 (minus j (low f)) t power_fits
      (units_of f n d (2 ^ j) v.1
      ∙ sym (units_of f 1 (minus j (low f)) (2 ^ j) (minus_val 1 j (low f) ∙ ap (λ (x : ℕ). x * down (minus j (low f))) (one-mul (2 ^ j)))))

  pattern_power : (b : ℕ) → b < ones f * hid f → significand_of f b * 2 ^ exponent_of f b ≡ 2 ^ j → of_bits f b ≡ fin false 1 (minus j (low f))
  pattern_power b l e =
      let u = lt_of_lt_of_le l (unsigned f) in
      same_power (of_bits f b) (of_bits-fits f b)
      (rw (lt-leb (top f) b u, e) at (parts_value f b (lt_of_le_of_lt (le_of_eq (mod-eq_of_lt u)) l)))

  pub low_power : j < prec f - 1 → of_bits f (2 ^ j) ≡ fin false 1 (minus j (low f))
  low_power l =
      let d : 2 ^ j < ones f * hid f = lt_of_lt_of_le (pow-lt l) (hid_finite f) in
      let own : 2 ^ j % top f ≡ 2 ^ j = mod-eq_of_lt (lt_of_lt_of_le d (unsigned f)) in
      pattern_power (2 ^ j) d (subnormal_units f (2 ^ j) (lt_of_le_of_lt (le_of_eq own) (pow-lt l)) ∙ own)

  pub high_finite : (j - (prec f - 2)) * hid f < ones f * hid f
  high_finite = let p = two f in mul-lt-mul_of_pos_right (omega arith) (hid_pos f)

  pub high_power : prec f - 1 ≤ j → of_bits f ((j - (prec f - 2)) * hid f) ≡ fin false 1 (minus j (low f))
  high_power l =
      let p = two f in
      let x = j - (prec f - 2) in
      let b = x * hid f in
      let d = high_finite in
      let own : b % top f ≡ b = mod-eq_of_lt (lt_of_lt_of_le d (unsigned f)) in
      let field : field_of f b ≡ x = ap (λ (y : ℕ). y / hid f) own ∙ mul-div_cancel x (hid_pos f) in
      let big : hid f ≤ b % top f = le_trans (le_of_eq (sym (one-mul (hid f)))) (le_trans (mul-le-mul_right (hid f) (omega arith)) (le_of_eq (sym own))) in
      let places : prec f - 1 + (x - 1) ≡ j = omega arith in
      pattern_power b d
      (ap (λ (y : ℕ). y * 2 ^ exponent_of f b) (normal_significand f b big ∙ ap (λ (y : ℕ). hid f + y) (mul-mod_left x (hid f)) ∙ add-zero (hid f))
      ∙ ap (λ (y : ℕ). hid f * 2 ^ (y - 1)) field ∙ sym (pow-add 2 (prec f - 1) (x - 1)) ∙ ap (λ (y : ℕ). 2 ^ y) places)

-- ---- the power under the number of a pattern

-- what is zero, and what is no number
zero-at : (x : Float) (s : Bool) (l : ℕ) → HasValue x s 0 (2 ^ l) → power_under x ≡ pos 0
unfolding power_under
zero-at nan s l v = absurd v
zero-at (inf t) s l v = absurd v
zero-at (fin t zero e) s l v = refl
zero-at (fin t (suc m) e) s l v =
    absurd (lt_irrefl 0 (lt_of_lt_of_le (mul-pos (mul-pos (zero-lt-suc m) (up_pos e)) (pow_pos l)) (le_of_eq (v.1 ∙ zero-mul (down e)))))

no_number : (x : Float) → finite x ≡ false → power_under x ≡ pos 0
unfolding finite power_under
no_number nan e = refl
no_number (inf s) e = refl
no_number (fin s m d) e = absurd (true≢false e)

module _ (f : Format) (b : ℕ) where
  pub power_zero : b % top f ≡ 0 → power_under (of_bits f b) ≡ pos 0
  power_zero e =
      let p = hid_pos f in
      let h : b % top f < hid f = omega arith in
      zero-at (of_bits f b) (leb (top f) b) (low f)
      (rw (subnormal_units f b h ∙ e) at (parts_value f b (lt_of_lt_of_le h (hid_finite f))))

  pub power-infinite : ones f * hid f ≤ b % top f → power_under (of_bits f b) ≡ pos 0
  power-infinite l = no_number (of_bits f b) (finite_of f b ∙ le-ltb (b % top f) (ones f * hid f) l)

  pub power_subnormal : 0 < b % top f → b % top f < hid f → power_under (of_bits f b) ≡ minus (size (b % top f) - 1) (low f)
  power_subnormal p h =
      power_at (of_bits f b) (leb (top f) b) (b % top f) (low f) p
      (rw (subnormal_units f b h) at (parts_value f b (lt_of_lt_of_le h (hid_finite f))))

  pub power_normal : hid f ≤ b % top f → b % top f < ones f * hid f → power_under (of_bits f b) ≡ minus (field_of f b) (emax f)
  power_normal h l =
      let p = two f in
      let q = field_pos f b h in
      let m = hid f + b % hid f in
      let pm : 0 < m = omega (arith, hid_pos f) in
      let d = mod-lt b (hid_pos f) in
      let z : size m ≡ suc (prec f - 1) = size_exact (prec f - 1) m (omega arith) (lt_of_lt_of_le (omega arith) (le_of_eq (sym (pow-succ' 2 (prec f - 1))))) in
      let y : size (m * 2 ^ exponent_of f b) ≡ size m + exponent_of f b = size-shifted m (exponent_of f b) pm in
      power_at (of_bits f b) (leb (top f) b) (m * 2 ^ exponent_of f b) (low f) (mul-pos pm (pow_pos (exponent_of f b)))
      (rw (normal_significand f b h) at (parts_value f b l))
      ∙ minus-same (size (m * 2 ^ exponent_of f b) - 1) (low f) (field_of f b) (emax f) (omega arith)
