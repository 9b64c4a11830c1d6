-- The exponents that occur. A format's values are from 2 ^ -low up to 2 ^ (emax + 1), so the power of two under one is from 2 ^ -low to 2 ^ emax; and an
-- exponent that is limited to -low and low is left alone where it, or its opposite, is one of those.
use Rattle.float.proofs.Words.{◌≡◌, refl, sym, ap, ◌∙◌, subst, Bool, true, false, true≢false, ℕ, zero, suc, ◌+◌, ◌-◌, ◌*◌, ◌^◌, ◌≤◌, ◌<◌}
use Rattle.float.proofs.Words.{mul-pos, mul-one, zero-lt-suc, zero-mul, lt_irrefl, le_trans, le_of_eq, lt_of_lt_of_le, lt_of_le_of_lt, arith}
use Rattle.float.proofs.Words.{T, leb, leb→le, le→leb, lit≤, lit<, ℤ, pos, negsuc, neg_ℤ, ◌+ℤ◌, ◌-ℤ◌, pow_pos, Float, nan, inf}
use Rattle.float.proofs.Words.{fin, Format, binary32, binary64, emax, low, up, size, minus, fits, min-eq_left, min-le_right, zero-min}
use Rattle.float.proofs.Words.{leb-false}
use lib.IntN.{+ℤ_idl}
use lib.Signed.{mag, le_z}
use mir.Syntax.{Width}
use Rattle.std.proofs.Common.{SFits, to_z, of_z}
use mir.Val.{hbits}
use mir.ValLaws.{to_z-of_z}
use lib.Ieee.Exact.{HasValue}
use lib.Ieee.Digits.{size-le}
use lib.Ieee.Fits.{down_pos, and_l, and_i}
use Rattle.float.specs.Scaled.{limited, InReach, power_under}
use Rattle.float.proofs.Exponent.{minus_pos, minus-neg, sub_pos, sub-minus, in_range}
use Rattle.float.proofs.Sizes.{size_pos, size-shifted}
use Rattle.float.proofs.Units.{in_units_lem, units_lt}

-- ---- limited to -low and low

low_pos : (f : Format) → 0 < low f
low_pos binary32 = lit< tt
low_pos binary64 = lit< tt

emax_low : (f : Format) → emax f ≤ low f
emax_low binary32 = lit≤ tt
emax_low binary64 = lit≤ tt

-- a limited exponent beyond emax has its opposite in reach
pub limited_high : (f : Format) (k : ℤ) → le_z (limited f k) (pos (emax f)) ≡ false → InReach f (neg_ℤ (limited f k))
limited_high f (pos n) t = opposite _ (min-le_right n (low f)) t
  where
    opposite : (n : ℕ) → n ≤ low f → leb n (emax f) ≡ false → InReach f (neg_ℤ (pos n))
    opposite zero h t = absurd (omega (arith, leb-false zero (emax f) t))
    opposite (suc n) h t = and_i (leb n (low f - 1)) true (le→leb n (low f - 1) (omega arith)) tt
limited_high f (negsuc n) t = absurd (true≢false t)

pub limited_reach : (f : Format) (k : ℤ) → InReach f k → limited f k ≡ k
limited_reach f (pos n) t = ap pos (min-eq_left (le_trans (leb→le n (emax f) t) (emax_low f)))
limited_reach f (negsuc n) t = ap negsuc (min-eq_left (leb→le n (low f - 1) (and_l (leb n (low f - 1)) true t)))

pub limited-minus : (f : Format) (k : ℤ) → InReach f k → limited f (neg_ℤ k) ≡ neg_ℤ k
limited-minus f (pos zero) t = ap pos (zero-min (low f))
limited-minus f (pos (suc n)) t = ap negsuc (min-eq_left (omega (arith, leb→le (suc n) (emax f) t, emax_low f)))
limited-minus f (negsuc n) t = ap pos (min-eq_left (omega (arith, leb→le n (low f - 1) (and_l (leb n (low f - 1)) true t), low_pos f)))

-- ---- in size, and counted from -low on

pub limited-size : (f : Format) (k : ℤ) → mag (limited f k) ≤ low f
limited-size f (pos n) = min-le_right n (low f)
limited-size f (negsuc n) = le_trans (min-le_right n (low f - 1)) (omega arith)

pub reach_size : (f : Format) (k : ℤ) → InReach f k → mag k ≤ low f
reach_size f k t = le_trans (le_of_eq (ap mag (sym (limited_reach f k t)))) (limited-size f k)

-- a machine's word holds it, and its opposite where that is the one in reach
module _ (f : Format) (w : Width) (room : low f < 2 ^ hbits w) (k r : ℤ) (h : SFits w k) (e : r ≡ limited f (to_z w (of_z w k))) where
  pub limited_held : to_z w (of_z w r) ≡ limited f k
  limited_held =
      ap (λ (z : ℤ). to_z w (of_z w z)) (e ∙ ap (limited f) (to_z-of_z w k h))
      ∙ to_z-of_z w (limited f k) (record { sfits = lt_of_le_of_lt (limited-size f k) room })

  module _ (over : le_z (to_z w (of_z w r)) (pos (emax f)) ≡ false) where
    opposite_reach : InReach f (neg_ℤ (limited f k))
    opposite_reach = limited_high f k (rw limited_held at over)

    opposite_is : pos 0 -ℤ to_z w (of_z w r) ≡ neg_ℤ (limited f k)
    opposite_is = ap (λ (z : ℤ). pos 0 -ℤ z) limited_held ∙ +ℤ_idl (neg_ℤ (limited f k))

    pub opposite_fits : SFits w (pos 0 -ℤ to_z w (of_z w r))
    opposite_fits = rw opposite_is (record { sfits = lt_of_le_of_lt (reach_size f (neg_ℤ (limited f k)) opposite_reach) room })

    pub opposite_held : to_z w (of_z w (pos 0 -ℤ to_z w (of_z w r))) ≡ neg_ℤ (limited f k)
    opposite_held = to_z-of_z w (pos 0 -ℤ to_z w (of_z w r)) opposite_fits ∙ opposite_is

    pub opposite_in_reach : InReach f (to_z w (of_z w (pos 0 -ℤ to_z w (of_z w r))))
    opposite_in_reach = rw opposite_held opposite_reach

pub reach_place : (f : Format) (k : ℤ) (j : ℕ) → InReach f k → pos j ≡ k +ℤ pos (low f) → (k ≡ minus j (low f)) × (j ≤ low f + emax f)
reach_place f (pos n) j t e =
    let d : j ≡ n + low f = cc in
    (sym (minus_pos j (low f) n (sym d)), omega (arith, leb→le n (emax f) t))
reach_place f (negsuc n) j t e =
    let h : n ≤ low f - 1 = leb→le n (low f - 1) (and_l (leb n (low f - 1)) true t) in
    let p = low_pos f in
    let g : pos j ≡ pos (low f - suc n) = e ∙ sub_pos (low f) (suc n) (low f - suc n) (omega arith) in
    let d : j ≡ low f - suc n = cc in
    (sym (minus-neg j (low f) n (omega arith)), omega arith)

-- ---- the power of two under a number of a units of 2 ^ -l

pub power_at : (x : Float) (s : Bool) (a l : ℕ) → 0 < a → HasValue x s a (2 ^ l) → power_under x ≡ minus (size a - 1) l
unfolding power_under
power_at nan s a l p h = absurd h
power_at (inf t) s a l p h = absurd h
power_at (fin t zero e) s a l p h =
    absurd (lt_irrefl 0 (lt_of_lt_of_le (mul-pos p (down_pos e)) (le_of_eq (sym h.1 ∙ ap (λ (x : ℕ). x * 2 ^ l) (zero-mul (up e)) ∙ zero-mul (2 ^ l)))))
power_at (fin t (suc m) (pos d)) s a l p h =
    let z = size_pos (suc m) (zero-lt-suc m) in
    let e : size a ≡ size (suc m) + d + l =
    ap size (sym (mul-one a)) ∙ ap size (sym h.1) ∙ size-shifted (suc m * 2 ^ d) l (mul-pos (zero-lt-suc m) (pow_pos d))
    ∙ ap (λ (x : ℕ). x + l) (size-shifted (suc m) d (zero-lt-suc m)) in
    sym (minus_pos (size a - 1) l (d + (size (suc m) - 1)) (omega arith))
power_at (fin t (suc m) (negsuc d)) s a l p h =
    let z = size_pos (suc m) (zero-lt-suc m) in
    let y = size_pos a p in
    let e : size a + suc d ≡ size (suc m) + l =
    sym (size-shifted a (suc d) p) ∙ ap size (sym h.1) ∙ ap (λ (x : ℕ). size (x * 2 ^ l)) (mul-one (suc m)) ∙ size-shifted (suc m) l (zero-lt-suc m) in
    sub-minus (size (suc m) - 1) (suc d) (size a - 1) l (omega arith)

zero_reach : (f : Format) → InReach f (pos 0)
zero_reach binary32 = tt
zero_reach binary64 = tt

pub power_reach : (f : Format) (x : Float) → T (fits f x) → InReach f (power_under x)
unfolding power_under
power_reach f nan t = zero_reach f
power_reach f (inf s) t = zero_reach f
power_reach f (fin s zero e) t = zero_reach f
power_reach f (fin s (suc m) e) t =
    let u = in_units_lem f s (suc m) e t in
    let a = suc m * 2 ^ u.j in
    let few : size a ≤ suc (emax f) + low f = size-le a (suc (emax f) + low f) (rw u.is at (units_lt f s m e t)) in
    subst (InReach f) (sym (power_at (fin s (suc m) e) s a (low f) (mul-pos (zero-lt-suc m) (pow_pos u.j)) (refl, u.whole)))
    (in_range (low f - 1) (emax f) (low f) (size a - 1) (omega arith) (omega arith))
