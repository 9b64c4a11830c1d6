-- Where an operation makes a NaN of numbers: a fraction rounds to a number with its own sign, so only zeros and infinities can. Rounding keeps order too,
-- so a number without a sign taken off what is below +infinity leaves what is below +infinity.
use Rattle.float.proofs.Words.{◌≡◌, refl, sym, ap, ◌∙◌, Bool, true, false, not, ◌&&◌, ◌||◌, cond, true≢false, false≢true, inl, inr, ℕ, zero, suc, ◌-◌}
use Rattle.float.proofs.Words.{◌*◌, ◌^◌, ◌≤◌, ◌<◌, zero-mul, zero-div, zero-lt-suc, mul-pos, mul-le-mul_right, le_trans, le_of_eq, le_of_lt, arith, T}
use Rattle.float.proofs.Words.{ltb, eqb, lt→ltb, eqb·suc-zero, ℤ, pos, pow_pos, Float, nan, inf, fin, Format, binary32, binary64, low, up, down, unlike}
use Rattle.float.proofs.Words.{round, sum, add, sub, minus, mul, div, neg, lt, eq, le, is_nan, fits, ne_eqb, lt-ltb, le-ltb}
use mathlib.Core.Bool.{and-false}
use lib.Ieee.Exact.{HasValue}
use lib.Ieee.Fits.{down_pos}
use lib.Ieee.Order.{round_mono}
use lib.Ieee.Positive.{positive}
use Rattle.float.specs.Constants.{zero_f}
use Rattle.float.specs.Exactly.{OneOfThree}
use Rattle.float.specs.Nearest.{in_units, IsRoot}
use Rattle.float.specs.Root.{root_of}
use Rattle.float.specs.Sign.{finite, infinite, sign_bit_of}
use Rattle.float.proofs.Choice.{by_leb, either}
use Rattle.float.proofs.Correct.{correct}
use Rattle.float.proofs.Exact.{own_size}
use Rattle.float.proofs.Keys.{key, lt-key, eq-key, keyed, le_tests}
use Rattle.float.proofs.Negation.{level_zeros}
use Rattle.float.proofs.Patterns.{only_nan}
use Rattle.float.proofs.Under.{of_round, round_no_nan, add_no_nan}
use Rattle.float.proofs.Units.{in_units_lem}
use Rattle.float.proofs.Zeros.{zero_is, zero_of_eq}

-- ---- a NaN stays one

pub nan_root : (f : Format) (x : Float) → is_nan x ≡ true → is_nan (root_of f x) ≡ true
unfolding root_of is_nan
nan_root f x h = rw (only_nan x h)

pub nan_divisor : (f : Format) (x y : Float) → is_nan y ≡ true → is_nan (div f x y) ≡ true
unfolding div is_nan
nan_divisor f nan y h = refl
nan_divisor f (inf s) y h = rw (only_nan y h)
nan_divisor f (fin s m e) y h = rw (only_nan y h)

pub nan_square : (f : Format) (x : Float) → is_nan x ≡ true → is_nan (mul f x x) ≡ true
unfolding mul is_nan
nan_square f x h = rw (only_nan x h)

pub nan_taken_off : (f : Format) (x y : Float) → is_nan y ≡ true → is_nan (sub f x y) ≡ true
unfolding sub add neg is_nan
nan_taken_off f nan y h = refl
nan_taken_off f (inf s) y h = rw (only_nan y h)
nan_taken_off f (fin s m e) y h = rw (only_nan y h)

pub nan_not_at_most : (f : Format) (x : Float) → is_nan x ≡ true → le x (zero_f f) ≡ false
unfolding le lt eq
nan_not_at_most f x h = rw (only_nan x h)

-- ---- a float is NaN, infinite or finite; what is below +infinity is finite or -infinity

pub number-finite : (x : Float) → is_nan x ≡ false → infinite x ≡ false → finite x ≡ true
unfolding is_nan infinite finite
number-finite nan n i = absurd (true≢false n)
number-finite (inf s) n i = absurd (true≢false i)
number-finite (fin s m e) n i = refl

pub positive_is_finite : (x : Float) → T (positive x) → finite x ≡ true
unfolding finite
positive_is_finite nan p = absurd p
positive_is_finite (inf s) p = absurd p
positive_is_finite (fin s m e) p = refl

pub finite_below : (x : Float) → finite x ≡ true → lt x (inf false) ≡ true
unfolding finite lt
finite_below nan h = h
finite_below (inf s) h = absurd (false≢true h)
finite_below (fin s m e) h = refl

pub below_infinity_number : (x : Float) → lt x (inf false) ≡ true → is_nan x ≡ false
unfolding lt is_nan
below_infinity_number nan h = absurd (false≢true h)
below_infinity_number (inf s) h = refl
below_infinity_number (fin s m e) h = refl

-- what has a sign is below +infinity, and so is what is at most a finite number
negative_below : (x : Float) → is_nan x ≡ false → sign_bit_of x ≡ true → lt x (inf false) ≡ true
unfolding is_nan sign_bit_of lt
negative_below nan n s = absurd (true≢false n)
negative_below (inf true) n s = refl
negative_below (inf false) n s = absurd (false≢true s)
negative_below (fin t m e) n s = refl

at_most_below : (x y : Float) (s : Bool) (a c : ℕ) → T (le x y) → HasValue y s a c → lt x (inf false) ≡ true
unfolding le lt eq
at_most_below nan y s a c h v = absurd h
at_most_below (inf true) y s a c h v = refl
at_most_below (inf false) nan s a c h v = absurd v
at_most_below (inf false) (inf t) s a c h v = absurd v
at_most_below (inf false) (fin t n d) s a c h v = absurd h
at_most_below (fin t m e) y s a c h v = refl

-- ---- each float is above zero, at most zero, or NaN

-- of two finite numbers one is at most the other exactly where the other is not below it
pub at_most : (x y : Float) → finite x ≡ true → finite y ≡ true → le x y ≡ not (lt y x)
unfolding le
at_most x y p q =
    let o = keyed x y y p q q in
    let L = o.L in
    let K = o.K in
    rw (lt-key L K x y o.one o.two, eq-key L K x y o.one o.two, lt-key L K y x o.two o.one) (tests (key L K x) (key L K y))
  where
    tests : (a b : ℕ) → ltb a b || eqb a b ≡ not (ltb b a)
    tests a b =
        either b a (λ l. rw (lt-ltb b a l, le-ltb a b (le_of_lt l)) (ne_eqb a b (λ e. omega arith))) (λ l. rw (le-ltb b a l) (le_tests a b l))

-- what is not above zero is at most zero
not_above : (f : Format) (x : Float) → finite x ≡ true → lt (fin false 0 (pos 0)) x ≡ false → le x (zero_f f) ≡ true
unfolding finite
not_above f x p q = rw (zero_is f) (at_most x (fin false 0 (pos 0)) p refl ∙ ap not q)

pub one_of_three : (f : Format) (x : Float) → OneOfThree (lt (zero_f f) x) (le x (zero_f f)) (is_nan x)
one_of_three f x = rw (zero_is f) (go x)
  where
    either_of : (a b : Bool) → b ≡ not a → OneOfThree a b false
    either_of true b h = inl (refl, h, refl)
    either_of false b h = inr (inl (refl, h, refl))

    go : (x : Float) → OneOfThree (lt (fin false 0 (pos 0)) x) (le x (fin false 0 (pos 0))) (is_nan x)
    go nan = unfold le lt eq is_nan in inr (inr (refl, refl, refl))
    go (inf true) = unfold le lt eq is_nan in inr (inl (refl, refl, refl))
    go (inf false) = unfold le lt eq is_nan in inl (refl, refl, refl)
    go (fin s m e) = unfold finite is_nan in either_of _ _ (at_most (fin s m e) (fin false 0 (pos 0)) refl refl)

pub minus_infinity_low : (f : Format) → le (inf true) (zero_f f) ≡ true
unfolding le lt
minus_infinity_low f = rw (zero_is f)

-- what is below +infinity and not at most zero is a positive finite number
pub above_zero : (f : Format) (x : Float) → lt x (inf false) ≡ true → le x (zero_f f) ≡ false → T (positive x)
unfolding lt finite
above_zero f nan h k = absurd (false≢true h)
above_zero f (inf true) h k = absurd (true≢false (sym (minus_infinity_low f) ∙ k))
above_zero f (inf false) h k = absurd (false≢true h)
above_zero f (fin true m e) h k = absurd (true≢false (sym (not_above f (fin true m e) refl refl) ∙ k))
above_zero f (fin false zero e) h k = absurd (true≢false (sym (not_above f (fin false 0 e) refl (rw (zero-mul (up e), zero-mul (down e)))) ∙ k))
above_zero f (fin false (suc m) e) h k = lt→ltb 0 (suc m) (zero-lt-suc m)

-- ---- a rounded fraction keeps its sign, so squares have none

round_signed : (f : Format) (s : Bool) (n d : ℕ) → sign_bit_of (round f s n d) ≡ s
unfolding sign_bit_of
round_signed f s = of_round (λ (x : Float). sign_bit_of x ≡ s) f s refl (λ m e. refl)

pub square_unsigned : (f : Format) (x : Float) → is_nan x ≡ false → (is_nan (mul f x x) ≡ false) × (sign_bit_of (mul f x x) ≡ false)
unfolding mul is_nan sign_bit_of
square_unsigned f nan n = absurd (true≢false n)
square_unsigned f (inf true) n = (refl, refl)
square_unsigned f (inf false) n = (refl, refl)
square_unsigned f (fin true m e) n = (round_no_nan f false _ _, round_signed f false _ _)
square_unsigned f (fin false m e) n = (round_no_nan f false _ _, round_signed f false _ _)

pub square_infinite : (f : Format) (x : Float) → infinite x ≡ true → mul f x x ≡ inf false
unfolding mul infinite
square_infinite f nan h = absurd (false≢true h)
square_infinite f (inf true) h = refl
square_infinite f (inf false) h = refl
square_infinite f (fin s m e) h = absurd (false≢true h)

-- ---- differences: a number without a sign taken off what is below +infinity

negative_round : (f : Format) (n d : ℕ) → lt (round f true n d) (inf false) ≡ true
negative_round f n d = negative_below (round f true n d) (round_no_nan f true n d) (round_signed f true n d)

-- A negative number becomes no less negative. Another one becomes negative, or is left with a size that is at most its own, which the format holds.
pub sub_below : (f : Format) (x y : Float) → T (fits f x) → lt x (inf false) ≡ true → is_nan y ≡ false → sign_bit_of y ≡ false
    → lt (sub f x y) (inf false) ≡ true
unfolding sub add sum neg lt is_nan sign_bit_of
sub_below f nan y t h n s = absurd (false≢true h)
sub_below f (inf false) y t h n s = absurd (false≢true h)
sub_below f (inf true) nan t h n s = absurd (true≢false n)
sub_below f (inf true) (inf true) t h n s = absurd (true≢false s)
sub_below f (inf true) (inf false) t h n s = refl
sub_below f (inf true) (fin u k d) t h n s = refl
sub_below f (fin r m e) nan t h n s = absurd (true≢false n)
sub_below f (fin r m e) (inf true) t h n s = absurd (true≢false s)
sub_below f (fin r m e) (inf false) t h n s = refl
sub_below f (fin r m e) (fin true k d) t h n s = absurd (true≢false s)
sub_below f (fin true m e) (fin false k d) t h n s = negative_round f _ _
sub_below f (fin false m e) (fin false k d) t h n s =
    let a = m * up e * down d in
    let b = k * up d * down e in
    let c = down e * down d in
    let l : a - b ≤ a = omega arith in
    let g : a * down e ≡ m * up e * c = omega arith in
    by_leb (λ v. lt v (inf false) ≡ true) (suc a) b (round f true (b - a) c) (round f false (a - b) c)
    (λ o. negative_round f (b - a) c)
    (λ o.
    at_most_below _ _ _ _ _
    (round_mono f (a - b) c (m * up e) (down e) (mul-pos (down_pos e) (down_pos d)) (down_pos e) (le_trans (mul-le-mul_right (down e) l) (le_of_eq g)))
    (own_size f m e t))

pub sub_infinity : (f : Format) (x : Float) → lt x (inf false) ≡ true → sub f x (inf false) ≡ inf true
unfolding sub add neg lt
sub_infinity f nan h = absurd (false≢true h)
sub_infinity f (inf true) h = refl
sub_infinity f (inf false) h = absurd (false≢true h)
sub_infinity f (fin s m e) h = refl

pub minus_infinity_stays : (f : Format) (y : Float) → is_nan y ≡ false → sign_bit_of y ≡ false → sub f (inf true) y ≡ inf true
unfolding sub add neg is_nan sign_bit_of
minus_infinity_stays f nan n s = absurd (true≢false n)
minus_infinity_stays f (inf true) n s = absurd (true≢false s)
minus_infinity_stays f (inf false) n s = refl
minus_infinity_stays f (fin t m e) n s = refl

-- ---- the root of a positive number: were it 0, the smallest value, of 1 unit, would be nearer

-- the exponent of the smallest value
abbrev lowest : Format → ℤ
lowest f = minus 0 (low f)

smallest_fits : (f : Format) → T (fits f (fin false 1 (lowest f)))
unfolding fits
smallest_fits binary32 = tt
smallest_fits binary64 = tt

smallest_unit : (f : Format) → in_units f 1 (lowest f) ≡ 1
smallest_unit binary32 = refl
smallest_unit binary64 = refl

pub root_positive : (f : Format) (x : Float) → T (fits f x) → T (positive x) → T (positive (root_of f x))
root_positive f nan t p = elim p [ ]
root_positive f (inf _) t p = elim p [ ]
root_positive f (fin false zero e) t p = elim p [ ]
root_positive f (fin true _ e) t p = elim p [ ]
root_positive f (fin false (suc m) e) t p = go (root_of f (fin false (suc m) e)) (correct f (fin false (suc m) e) t)
  where
    units_pos : 0 < in_units f (suc m) e * 2 ^ low f
    units_pos = let z = in_units_lem f false (suc m) e t in mul-pos (rw z.is (mul-pos (zero-lt-suc m) (pow_pos z.j))) (pow_pos (low f))

    go : (r : Float) → IsRoot f (fin false (suc m) e) r → T (positive r)
    go (fin false (suc n) d) h = lt→ltb 0 (suc n) (zero-lt-suc n)
    go nan h = elim h [ ]
    go (inf _) h = elim h [ ]
    go (fin true _ d) h = elim h [ ]
    go (fin false zero d) h =
        let none : in_units f 0 d ≡ 0 = rw (zero-mul (up d), zero-mul (2 ^ low f)) (zero-div (down d)) in
        let one = smallest_unit f in
        absurd (omega (arith, units_pos, rw (one, none) at (h.above 1 (lowest f) (smallest_fits f) (omega arith))))

-- ---- where a quotient, a difference and a product of numbers are NaN

pub quotient_nan : (f : Format) (x y : Float) → T (positive y) → is_nan (div f x y) ≡ is_nan x
unfolding div is_nan
quotient_nan f nan y p = refl
quotient_nan f (inf s) (fin false (suc n) d) p = refl
quotient_nan f (fin s m e) (fin false (suc n) d) p = rw (eqb·suc-zero n) (round_no_nan f _ _ _)
quotient_nan f (inf s) nan p = elim p [ ]
quotient_nan f (inf s) (inf _) p = elim p [ ]
quotient_nan f (inf s) (fin false zero d) p = elim p [ ]
quotient_nan f (inf s) (fin true _ d) p = elim p [ ]
quotient_nan f (fin s m e) nan p = elim p [ ]
quotient_nan f (fin s m e) (inf _) p = elim p [ ]
quotient_nan f (fin s m e) (fin false zero d) p = elim p [ ]
quotient_nan f (fin s m e) (fin true _ d) p = elim p [ ]

pub difference_nan : (f : Format) (x y : Float) → finite x ≡ true → is_nan (sub f x y) ≡ is_nan y
unfolding sub add neg finite is_nan
difference_nan f nan y h = absurd (false≢true h)
difference_nan f (inf s) y h = absurd (false≢true h)
difference_nan f (fin s m e) nan h = refl
difference_nan f (fin s m e) (inf t) h = refl
difference_nan f (fin s m e) (fin t n d) h = add_no_nan f (fin s m e) (fin (not t) n d) refl refl

-- what is equal to zero has no digits
pub zero_test : (f : Format) (s : Bool) (m : ℕ) (e : ℤ) → eq (fin s m e) (zero_f f) ≡ eqb m 0
zero_test f s zero e = rw (zero_is f) (unfold eq in rw (zero-mul (up e), zero-mul (down e)) (level_zeros s false))
zero_test f s (suc m) e = go (eq (fin s (suc m) e) (zero_f f)) (zero_of_eq f s (suc m) e)
  where
    go : (t : Bool) → (t ≡ true → suc m ≡ 0) → t ≡ eqb (suc m) 0
    go true h = absurd (omega (arith, h refl))
    go false h = sym (eqb·suc-zero m)

pub product_nan : (f : Format) (x y : Float) → finite x ≡ true → is_nan y ≡ false → is_nan (mul f x y) ≡ eq x (zero_f f) && infinite y
unfolding mul finite infinite is_nan
product_nan f nan y h n = absurd (false≢true h)
product_nan f (inf s) y h n = absurd (false≢true h)
product_nan f (fin s m e) nan h n = absurd (true≢false n)
product_nan f (fin s m e) (inf t) h n = rw (zero_test f s m e) (go (eqb m 0))
  where
    go : (z : Bool) → is_nan (cond z nan (inf (unlike s t))) ≡ z && true
    go true = refl
    go false = refl
product_nan f (fin s m e) (fin t k d) h n = round_no_nan f _ _ _ ∙ sym (and-false (eq (fin s m e) (zero_f f)))
