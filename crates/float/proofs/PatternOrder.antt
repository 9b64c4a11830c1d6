-- Patterns without a sign are in the order of their numbers: the field decides, since the numbers of one field end where those of the next begin, and in one
-- field the digits do. So the largest of some patterns is the pattern of the largest magnitude.
use Rattle.float.proofs.Words.{◌≡◌, refl, sym, ap, ◌∙◌, true, false, cond, true≢false, List, [], ◌∷◌, ◌⊎◌, inl, inr, ℕ, zero, suc, ◌+◌, ◌-◌, ◌*◌, ◌%◌}
use Rattle.float.proofs.Words.{◌^◌, ◌≤◌, ◌<◌, mul-pos, mul-le-mul_right, mul-le-mul_left, mul-lt-mul_of_pos_right, mod-eq_of_lt, mod-lt, div-add-mod'}
use Rattle.float.proofs.Words.{pow-succ', zero-add, lt_of_lt_of_le, le_trans, lt_irrefl, eq-or-lt_of_le, arith, T, ltb, eqb, eqb·suc-zero, length}
use Rattle.float.proofs.Words.{get_or, pow_pos, pow_mono, Float, nan, inf, fin, Format, binary32, binary64, low, up, down, hid, ones, top, lt, fits}
use Rattle.float.proofs.Words.{is_nan, of_bits, to_bits, ltb-false, lt-ltb, le-ltb, lt-leb, leb-false, add_assoc}
use Rattle.std.proofs.Common.{zero-le}
use native.Mathlib.Nat.{add-mod_left}
use lib.Ieee.Bits.{of_bits-to_bits, nan_bits_is, nan_bits_above}
use lib.Ieee.Exact.{HasValue}
use lib.Ieee.Fits.{down_pos}
use Rattle.float.specs.Constants.{zero_f}
use Rattle.float.specs.Parts.{field_of, significand_of, exponent_of}
use Rattle.float.specs.Scaled.{larger, largest_from, largest_magnitude, pattern_of, larger_pattern, largest_pattern_from, largest_pattern}
use Rattle.float.specs.Sign.{magnitude_of}
use Rattle.float.proofs.Choice.{chosen, both_chosen, either, so_or_not}
use Rattle.float.proofs.Finite.{magnitude_unsigned}
use Rattle.float.proofs.Invalid.{finite_below}
use Rattle.float.proofs.Keys.{ltb_iff, below_same}
use Rattle.float.proofs.Patterns.{hid_pos, unsigned, digits_of, finite_of, only_nan, sign_written}
use Rattle.float.proofs.Units.{parts_value}
use Rattle.float.proofs.Zeros.{magnitude_fits}

-- ---- the units of the digits t in the field x, h being the leading digit's weight

module _ (h : ℕ) where
  abbrev value : ℕ → ℕ → ℕ
  value x t = cond (eqb x 0) t (h + t) * 2 ^ (x - 1)

  value_normal : (x t : ℕ) → value (suc x) t ≡ (h + t) * 2 ^ x
  value_normal x t = let e : suc x - 1 ≡ x = omega arith in rw (eqb·suc-zero x, e)

  -- they end before the next field's
  value_under : (x t : ℕ) → t < h → value x t < h * 2 ^ x
  value_under zero t l = omega arith
  value_under (suc x) t l =
      let twice : h + t < 2 * h = omega arith in
      rw (value_normal x t) (omega (arith, ap (λ (p : ℕ). h * p) (pow-succ' 2 x), mul-lt-mul_of_pos_right twice (pow_pos x)))

  value_over : (x t : ℕ) → h * 2 ^ x ≤ value (suc x) t
  value_over x t = rw (value_normal x t) (mul-le-mul_right (2 ^ x) (omega arith))

  -- in one field the digits decide
  value_within : (x t u : ℕ) → t < u → value x t < value x u
  value_within zero t u l = omega arith
  value_within (suc x) t u l = rw (value_normal x t, value_normal x u) (mul-lt-mul_of_pos_right (omega arith) (pow_pos x))

  value_across : (x t y u : ℕ) → t < h → x < y → value x t < value y u
  value_across x t zero u a l = absurd (omega arith)
  value_across x t (suc y) u a l =
      lt_of_lt_of_le (value_under x t a) (le_trans (mul-le-mul_left h (pow_mono (omega arith))) (value_over y u))

  value_order : (x t y u : ℕ) → t < h → u < h → x * h + t < y * h + u → value x t < value y u
  value_order x t y u a b l =
      either x y (value_across x t y u a) (λ g. go (eq-or-lt_of_le g))
    where
      go : (y ≡ x) ⊎ (y < x) → value x t < value y u
      go (inl e) = rw e (value_within x t u (omega (arith, rw e at l)))
      go (inr g) = absurd (omega (arith, mul-le-mul_right h g))

-- ---- patterns below +infinity's

module _ (f : Format) where
  -- numbers without a sign are in the order of their units
  units_order : (x y : Float) (a b : ℕ) → HasValue x false a (2 ^ low f) → HasValue y false b (2 ^ low f) → lt x y ≡ ltb a b
  unfolding lt
  units_order nan y a b p q = absurd p
  units_order (inf s) y a b p q = absurd p
  units_order (fin s m e) nan a b p q = absurd q
  units_order (fin s m e) (inf t) a b p q = absurd q
  units_order (fin true m e) (fin t n d) a b p q = absurd (true≢false p.0)
  units_order (fin false m e) (fin true n d) a b p q = absurd (true≢false q.0)
  units_order (fin false m e) (fin false n d) a b p q =
      below_same false false (m * up e * down d) (n * up d * down e) a b (2 ^ low f) (down e * down d) (pow_pos (low f)) (mul-pos (down_pos e) (down_pos d))
      (omega (arith, ap (λ (x : ℕ). x * down d) p.1)) (omega (arith, ap (λ (x : ℕ). x * down e) q.1))

  abbrev units : ℕ → ℕ
  units b = significand_of f b * 2 ^ exponent_of f b

  module _ (b : ℕ) (l : b < ones f * hid f) where
    own : b % top f ≡ b
    own = mod-eq_of_lt (lt_of_lt_of_le l (unsigned f))

    fields : field_of f b * hid f + b % hid f ≡ b
    fields = ap (λ (x : ℕ). field_of f b * hid f + x) (sym (digits_of f b)) ∙ div-add-mod' (b % top f) (hid f) ∙ own

    has_units : HasValue (of_bits f b) false (units b) (2 ^ low f)
    has_units = rw (lt-leb (top f) b (lt_of_lt_of_le l (unsigned f))) at (parts_value f b (rw own l))

  units_grow : (b c : ℕ) → b < ones f * hid f → c < ones f * hid f → b < c → units b < units c
  units_grow b c p q l =
      value_order (hid f) (field_of f b) (b % hid f) (field_of f c) (c % hid f) (mod-lt b (hid_pos f)) (mod-lt c (hid_pos f)) (rw (fields b p, fields c q) l)

  number_order : (b c : ℕ) → b < ones f * hid f → c < ones f * hid f → lt (of_bits f b) (of_bits f c) ≡ ltb b c
  number_order b c p q =
      units_order (of_bits f b) (of_bits f c) (units b) (units c) (has_units b p) (has_units c q)
      ∙ ltb_iff (units b) (units c) b c (λ l. either b c (λ g. g) (λ g. absurd (back l (eq-or-lt_of_le g)))) (units_grow b c p q)
    where
      back : units b < units c → (c ≡ b) ⊎ (c < b) → ⊥
      back l (inl e) = lt_irrefl (units b) (rw e at l)
      back l (inr g) = omega (arith, units_grow c b q p g)

-- ---- and up to +infinity's

infinity : (f : Format) → of_bits f (ones f * hid f) ≡ inf false
unfolding of_bits
infinity binary32 = refl
infinity binary64 = refl

infinity_below : (y : Float) → lt (inf false) y ≡ false
unfolding lt
infinity_below nan = refl
infinity_below (inf t) = refl
infinity_below (fin t n d) = refl

pub pattern_order : (f : Format) (b c : ℕ) → b ≤ ones f * hid f → c ≤ ones f * hid f → lt (of_bits f b) (of_bits f c) ≡ ltb b c
pattern_order f b c p q = go (eq-or-lt_of_le p) (eq-or-lt_of_le q)
  where
    go : (b ≡ ones f * hid f) ⊎ (b < ones f * hid f) → (c ≡ ones f * hid f) ⊎ (c < ones f * hid f) → lt (of_bits f b) (of_bits f c) ≡ ltb b c
    go (inl e) g = rw (e, infinity f) (infinity_below (of_bits f c) ∙ sym (le-ltb (ones f * hid f) c q))
    go (inr l) (inl e) =
        rw (e, infinity f)
        (finite_below (of_bits f b) (finite_of f b ∙ lt-ltb (b % top f) (ones f * hid f) (rw (own f b l) l)) ∙ sym (lt-ltb b (ones f * hid f) l))
    go (inr l) (inr g) = number_order f b c l g

-- ---- the pattern of a magnitude

-- a sign adds its weight, which is divided away
weight_off : (c a b : ℕ) → (c + a + b) % c ≡ (0 + a + b) % c
weight_off c a b = ap (λ (x : ℕ). x % c) (add_assoc c a b) ∙ add-mod_left c (a + b) ∙ ap (λ (x : ℕ). (x + b) % c) (sym (zero-add a))

sign_off : (f : Format) (x : Float) → is_nan x ≡ false → to_bits f x % top f ≡ to_bits f (magnitude_of x) % top f
unfolding to_bits is_nan magnitude_of
sign_off f nan n = absurd (true≢false n)
sign_off f (inf true) n = add-mod_left (top f) (ones f * hid f) ∙ ap (λ (x : ℕ). x % top f) (sym (zero-add (ones f * hid f)))
sign_off f (inf false) n = refl
sign_off f (fin true m e) n = weight_off (top f) _ _
sign_off f (fin false m e) n = refl

magnitude_nan : (x : Float) → is_nan (magnitude_of x) ≡ is_nan x
unfolding is_nan magnitude_of
magnitude_nan nan = refl
magnitude_nan (inf s) = refl
magnitude_nan (fin s m e) = refl

module _ (f : Format) (x : Float) (t : T (fits f x)) (n : is_nan x ≡ false) where
  unsigned_bits : to_bits f (magnitude_of x) % top f ≡ to_bits f (magnitude_of x)
  unsigned_bits =
      mod-eq_of_lt (leb-false (top f) (to_bits f (magnitude_of x)) (sym (sign_written f (magnitude_of x) (magnitude_fits f x t)) ∙ magnitude_unsigned x))

  pattern_is : pattern_of f x ≡ to_bits f (magnitude_of x)
  unfolding pattern_of
  pattern_is = rw (n, sign_off f x n) unsigned_bits

  pattern_number : of_bits f (pattern_of f x) ≡ magnitude_of x
  pattern_number = ap (of_bits f) pattern_is ∙ of_bits-to_bits f (magnitude_of x) (magnitude_fits f x t)

  pattern_most : pattern_of f x ≤ ones f * hid f
  pattern_most =
      let b = pattern_of f x in
      let own : b % top f ≡ b = rw pattern_is unsigned_bits in
      ltb-false (ones f * hid f) b (rw own at (sym (nan_bits_above f b) ∙ nan_bits_is f b ∙ ap is_nan pattern_number ∙ magnitude_nan x ∙ n))

-- ---- the largest of some

-- nothing is below a NaN
below_nan : (x : Float) → lt x nan ≡ false
unfolding lt
below_nan nan = refl
below_nan (inf s) = refl
below_nan (fin s m e) = refl

nan_pattern : (f : Format) → pattern_of f nan ≡ 0
unfolding pattern_of is_nan
nan_pattern f = refl

-- one more number
module _ (f : Format) (b : ℕ) (x : Float) (l : b ≤ ones f * hid f) (t : T (fits f x)) where
  abbrev Larger : Type 0
  Larger = (larger_pattern f b x ≤ ones f * hid f) × (of_bits f (larger_pattern f b x) ≡ larger (of_bits f b) (magnitude_of x))

  larger-number : is_nan x ≡ false → Larger
  unfolding larger_pattern
  larger-number n =
      let c = pattern_of f x in
      let p = pattern_most f x t n in
      let number = pattern_number f x t n in
      let e : lt (of_bits f b) (magnitude_of x) ≡ ltb b c = ap (lt (of_bits f b)) (sym number) ∙ pattern_order f b c l p in (
        chosen (λ (d : ℕ). d ≤ ones f * hid f) (ltb b c) c b p l,
        rw e (both_chosen (λ (d : ℕ) (y : Float). of_bits f d ≡ y) (ltb b c) c b (magnitude_of x) (of_bits f b) (λ _. number) (λ _. refl)),
      )

  larger-nan : is_nan x ≡ true → Larger
  unfolding larger_pattern magnitude_of
  larger-nan n = rw (only_nan x n, nan_pattern f, le-ltb b 0 (omega arith), below_nan (of_bits f b)) (l, refl)

  larger_is : Larger
  larger_is = so_or_not (is_nan x) larger-nan larger-number

from_pattern : (f : Format) (b : ℕ) (xs : List Float) → b ≤ ones f * hid f → ((i : ℕ) → i < length xs → T (fits f (get_or xs i nan)))
    → of_bits f (largest_pattern_from f b xs) ≡ largest_from (of_bits f b) xs
unfolding largest_from
from_pattern f b [] l t = refl
from_pattern f b (x ∷ xs) l t =
    let h = larger_is f b x l (t 0 (omega arith)) in
    from_pattern f (larger_pattern f b x) xs h.0 (λ i g. t (suc i) (omega arith)) ∙ ap (λ (y : Float). largest_from y xs) h.1

zero_pattern : (f : Format) → of_bits f 0 ≡ zero_f f
zero_pattern binary32 = refl
zero_pattern binary64 = refl

pub largest_pattern_lem : (f : Format) (xs : List Float) → ((i : ℕ) → i < length xs → T (fits f (get_or xs i nan)))
    → of_bits f (largest_pattern f xs) ≡ largest_magnitude f xs
largest_pattern_lem f xs t = from_pattern f 0 xs zero-le t ∙ ap (λ (y : Float). largest_from y xs) (zero_pattern f)
