-- Zero and epsilon among the finite numbers: what is equal to zero is a zero of either sign, a number without a sign is at least zero,
-- and epsilon times a number that is no less than epsilon does not vanish, since its square does not.
use Rattle.float.proofs.Words.{◌≡◌, refl, sym, ◌∙◌, subst, Bool, true, false, ◌||◌, Bool·beq, true≢false, false≢true, ℕ, zero, suc, ◌*◌, ◌≤◌, ◌<◌}
use Rattle.float.proofs.Words.{zero-mul, mul-pos, zero-lt-suc, le_refl, lt_irrefl, lt_of_lt_of_le, arith, T, ltb, eqb, eqb→eq, ltb→lt, lt→ltb, ℤ}
use Rattle.float.proofs.Words.{pos, negsuc, Float, nan, inf, fin, Format, binary32, binary64, up, down, mul, lt, eq, le, level, of_bits, ltb-false}
use Rattle.float.proofs.Words.{lt-ltb, fits}
use lib.Ieee.Bits.{of_bits-fits}
use lib.Ieee.Fits.{up_pos, down_pos, and_l}
use lib.Ieee.Positive.{positive, above, above_of_le, mul_mono, cross→le, first_pos}
use Rattle.float.specs.Constants.{zero_f, epsilon_f}
use Rattle.float.specs.Sign.{magnitude_of, sign_bit_of, finite}
use Rattle.float.proofs.Keys.{le-key, keyed}

-- ---- zero fits, and a finite number without a sign is at least zero

pub zero_is : (f : Format) → zero_f f ≡ fin false 0 (pos 0)
unfolding of_bits
zero_is binary32 = refl
zero_is binary64 = refl

pub zero_fits : (f : Format) → T (fits f (zero_f f))
zero_fits binary32 = of_bits-fits binary32 0
zero_fits binary64 = of_bits-fits binary64 0

-- the sign changes nothing of that
pub magnitude_fits : (f : Format) (x : Float) → T (fits f x) → T (fits f (magnitude_of x))
unfolding magnitude_of fits
magnitude_fits f nan t = tt
magnitude_fits f (inf s) t = tt
magnitude_fits f (fin s zero e) t = t
magnitude_fits f (fin s (suc m) e) t = t

pub zero-least : (f : Format) (x : Float) → finite x ≡ true → sign_bit_of x ≡ false → le (zero_f f) x ≡ true
unfolding finite sign_bit_of
zero-least f nan h n = absurd (true≢false (sym h))
zero-least f (inf s) h n = absurd (true≢false (sym h))
zero-least f (fin true m e) h n = absurd (true≢false n)
zero-least f (fin false m e) h n =
    let z = fin false 0 (pos 0) in
    let x = fin false m e in
    let g = keyed z x x refl refl refl in
    rw (zero_is f) (le-key g.L g.K z x g.one g.two (omega arith))

-- ---- epsilon times a number that is no less than epsilon

epsilon_positive : (f : Format) → T (positive (epsilon_f f))
unfolding of_bits
epsilon_positive binary32 = tt
epsilon_positive binary64 = tt

square_positive : (f : Format) → T (positive (mul f (epsilon_f f) (epsilon_f f)))
unfolding mul of_bits
square_positive binary32 = tt
square_positive binary64 = tt

-- a magnitude that is not below a positive number is positive, and no less than it
not_below_lem : (m : ℕ) (e : ℤ) (n : ℕ) (d : ℤ) → T (ltb 0 m) → lt (fin false n d) (fin false m e) ≡ false
    → T (positive (fin false n d)) × T (le (fin false m e) (fin false n d))
unfolding lt
not_below_lem m e n d p h =
    let l : m * up e * down d ≤ n * up d * down e = ltb-false _ _ h in
    let q : T (ltb 0 n) =
    lt→ltb 0 n (first_pos n (up d) (first_pos (n * up d) (down e) (lt_of_lt_of_le (mul-pos (mul-pos (ltb→lt 0 m p) (up_pos e)) (down_pos d)) l))) in
    (q, cross→le (fin false m e) (fin false n d) p q l)

not_below_epsilon : (f : Format) (n : ℕ) (d : ℤ) → lt (fin false n d) (epsilon_f f) ≡ false → T (positive (fin false n d))
    × T (le (epsilon_f f) (fin false n d))
unfolding of_bits
not_below_epsilon binary32 n d h = not_below_lem 1 (negsuc 22) n d tt h
not_below_epsilon binary64 n d h = not_below_lem 1 (negsuc 51) n d tt h

product_above : (f : Format) (n : ℕ) (d : ℤ) → lt (fin false n d) (epsilon_f f) ≡ false → T (above (mul f (epsilon_f f) (fin false n d)))
product_above f n d h =
    let p = epsilon_positive f in
    let b = not_below_epsilon f n d h in
    above_of_le (mul f (epsilon_f f) (epsilon_f f)) (mul f (epsilon_f f) (fin false n d)) (square_positive f)
    (mul_mono f (epsilon_f f) (epsilon_f f) (epsilon_f f) (fin false n d) p p p b.0 (cross→le (epsilon_f f) (epsilon_f f) p p (le_refl _)) b.1)

pub zero_lt_above : (e : ℤ) (z : Float) → T (above z) → lt (fin false 0 e) z ≡ true
unfolding lt
zero_lt_above e nan a = absurd a
zero_lt_above e (inf true) a = absurd a
zero_lt_above e (inf false) a = refl
zero_lt_above e (fin true n d) a = absurd a
zero_lt_above e (fin false n d) a =
    lt-ltb (0 * up e * down d) (n * up d * down e) (rw (zero-mul (up e), zero-mul (down d)) (mul-pos (mul-pos (ltb→lt 0 n a) (up_pos d)) (down_pos e)))

-- ---- what is equal to zero is a zero

pub product_zero : (m : ℕ) (e d : ℤ) → m * up e * down d ≡ 0 → m ≡ 0
product_zero zero e d h = refl
product_zero (suc m) e d h = absurd (lt_irrefl 0 (subst (λ (x : ℕ). 0 < x) h (mul-pos (mul-pos (zero-lt-suc m) (up_pos e)) (down_pos d))))

zero_of_level : (s : Bool) (m : ℕ) (e : ℤ) → level s (m * up e * 1) false (0 * down e) ≡ true → m ≡ 0
zero_of_level s m e h =
    product_zero m e (pos 0)
    (eqb→eq _ _ (and_l (eqb (m * up e * 1) (0 * down e)) (Bool·beq s false || eqb (m * up e * 1) 0) (subst T (sym h) tt)) ∙ zero-mul (down e))

pub zero_of_eq : (f : Format) (s : Bool) (m : ℕ) (e : ℤ) → eq (fin s m e) (zero_f f) ≡ true → m ≡ 0
unfolding eq of_bits
zero_of_eq binary32 s m e h = zero_of_level s m e h
zero_of_eq binary64 s m e h = zero_of_level s m e h

pub finite_of_eq : (f : Format) (x : Float) → eq x (zero_f f) ≡ true → finite x ≡ true
unfolding eq finite of_bits
finite_of_eq f nan h = h
finite_of_eq binary32 (inf s) h = h
finite_of_eq binary64 (inf s) h = h
finite_of_eq f (fin s m e) h = refl

-- a zero is below epsilon times it
pub zero_level : (f : Format) (x : Float) (n : ℕ) (d : ℤ) → eq x (zero_f f) ≡ true → finite x ≡ true → lt (fin false n d) (epsilon_f f) ≡ false
    → lt (magnitude_of x) (mul f (epsilon_f f) (fin false n d)) ≡ true
unfolding magnitude_of finite
zero_level f nan n d h i k = absurd (false≢true i)
zero_level f (inf s) n d h i k = absurd (false≢true i)
zero_level f (fin s m e) n d h i k = rw (zero_of_eq f s m e h) (zero_lt_above e _ (product_above f n d k))
