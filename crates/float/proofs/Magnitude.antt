-- The sign taken off, and the finite test, by differences: 0 - x is x negated, and x - x is 0, where x is a number.
use Rattle.float.proofs.Words.{◌≡◌, refl, sym, ◌∙◌, Bool, true, false, not, true≢false, false≢true, ⊎_elim, ℕ, zero, suc, ◌-◌, ◌<◌, ◌*◌, ◌^◌, zero-mul}
use Rattle.float.proofs.Words.{mul-one, one-mul, zero-add, mul-pos, zero-lt-suc, le_refl, arith, T, lit<, lt→ltb, zero-div, ℤ, pos, Float, nan, inf, fin}
use Rattle.float.proofs.Words.{Format, low, up, down, sum, add, sub, neg, le, lt, eq, fits, le-ltb}
use lib.Ieee.Fits.{down_pos, neg-fits}
use lib.Ieee.Positive.{above}
use Rattle.float.specs.Constants.{zero_f}
use Rattle.float.specs.Sign.{magnitude_of, finite}
use Rattle.float.proofs.Exact.{own_value}
use Rattle.float.proofs.Invalid.{one_of_three, minus_infinity_low, finite_below, above_zero}
use Rattle.float.proofs.Negation.{round-zero}
use Rattle.float.proofs.Units.{same_units}
use Rattle.float.proofs.Zeros.{zero_is, zero_lt_above}

-- ---- the magnitude

-- what is added to 0 is its own value
from_zero : (f : Format) (m : ℕ) (e : ℤ) → T (fits f (fin false m e)) → sub f (fin false 0 (pos 0)) (fin true m e) ≡ fin false m e
unfolding sub add sum neg
from_zero f m e t = rw (zero-mul (down e), zero-add, mul-one, one-mul) (own_value f m e t)

-- a zero from 0 leaves 0
zero_off : (f : Format) (e : ℤ) → sub f (fin false 0 (pos 0)) (fin false 0 e) ≡ fin false 0 (pos 0)
unfolding sub add sum neg
zero_off f e = rw (zero-mul (down e), zero-mul (up e)) (round-zero f false _ _ (mul-pos (lit< {m = 0} {n = 1} tt) (down_pos e)) refl)

-- a zero is written in one way
zero-written : (f : Format) (e : ℤ) → T (fits f (fin false 0 e)) → fin false 0 (pos 0) ≡ fin false 0 e
zero-written f e t = same_units f 0 (pos 0) 0 e (unfold fits in tt) t (rw (zero-mul (up e), zero-mul (2 ^ low f), zero-div (down e)))

-- what is above 0 is not at most 0
not_low : (f : Format) (x : Float) → T (above x) → le x (zero_f f) ≡ true → ⊥
not_low f x a h =
    let l : lt (zero_f f) x ≡ true = rw (zero_is f) (zero_lt_above (pos 0) x a) in
    ⊎_elim (λ w. true≢false (sym h ∙ w.1)) (⊎_elim (λ w. true≢false (sym l ∙ w.0)) (λ w. true≢false (sym l ∙ w.0))) (one_of_three f x)

-- of what is at most 0
pub magnitude_low : (f : Format) (x : Float) → T (fits f x) → le x (zero_f f) ≡ true → sub f (zero_f f) x ≡ magnitude_of x
magnitude_low f nan t h = unfold le lt eq in absurd (false≢true h)
magnitude_low f (inf true) t h = rw (zero_is f) (unfold sub add neg magnitude_of in refl)
magnitude_low f (inf false) t h = absurd (not_low f (inf false) tt h)
magnitude_low f (fin true m e) t h = rw (zero_is f) (unfold magnitude_of neg in from_zero f m e (neg-fits f (fin true m e) t))
magnitude_low f (fin false zero e) t h = rw (zero_is f) (unfold magnitude_of in zero_off f e ∙ zero-written f e t)
magnitude_low f (fin false (suc m) e) t h = absurd (not_low f (fin false (suc m) e) (lt→ltb 0 (suc m) (zero-lt-suc m)) h)

-- of what is not
pub magnitude_high : (f : Format) (x : Float) → le x (zero_f f) ≡ false → x ≡ magnitude_of x
unfolding magnitude_of
magnitude_high f nan h = refl
magnitude_high f (inf true) h = absurd (true≢false (sym (minus_infinity_low f) ∙ h))
magnitude_high f (inf false) h = refl
magnitude_high f (fin true m e) h = absurd (above_zero f (fin true m e) (finite_below (fin true m e) (unfold finite in refl)) h)
magnitude_high f (fin false m e) h = refl

-- ---- the finite test

-- equal numbers of unlike signs leave 0
unlike_leave : (f : Format) (s : Bool) (a c : ℕ) → 0 < c → sum f s a (not s) a c ≡ fin false 0 (pos 0)
unfolding sum
unlike_leave f true a c p = rw (le-ltb a a (le_refl a)) (round-zero f false (a - a) c p (omega arith))
unlike_leave f false a c p = rw (le-ltb a a (le_refl a)) (round-zero f false (a - a) c p (omega arith))

pub itself_off : (f : Format) (x : Float) → eq (sub f x x) (sub f x x) ≡ finite x
itself_off f nan = unfold sub add eq finite in refl
itself_off f (inf true) = unfold sub add neg eq finite in refl
itself_off f (inf false) = unfold sub add neg eq finite in refl
itself_off f (fin s m e) =
    unfold sub add neg finite in rw (unlike_leave f s (m * up e * down e) (down e * down e) (mul-pos (down_pos e) (down_pos e))) (unfold eq in refl)
