-- A number times a power of two. Rounding goes by the value of a fraction alone, and m * 2 ^ e times 2 ^ k is m * 2 ^ (e + k), so two
-- powers, one after the other, are their product. A sign goes through, and a zero stays one.
use Rattle.float.proofs.Words.{◌≡◌, refl, sym, ap, ◌∙◌, subst, Bool, true, false, ◌&&◌, true≢false, false≢true, ℕ, zero, suc, ◌+◌, ◌-◌, ◌*◌, ◌^◌}
use Rattle.float.proofs.Words.{zero-mul, mul-pos}
use Rattle.float.proofs.Words.{arith, T, eqb, eqb→eq, ℤ, pos, negsuc, sub_ℕ, ◌+ℤ◌, pow-add, Float, nan, inf, fin, Format, up, down, round, fits, neg, eq}
use lib.IntN.{+ℤ_idr, +ℤ_assoc}
use lib.Ieee.Fits.{down_pos, round-fits, nan-fits, inf-fits, and_l, and_r}
use lib.Ieee.Scale.{round_same}
use Rattle.float.specs.Constants.{zero_f}
use Rattle.float.specs.Scaled.{times_power, shifted}
use Rattle.float.specs.Sign.{magnitude_of, finite}
use Rattle.float.proofs.Choice.{by_leb, so_or_not}
use Rattle.float.proofs.Exact.{own_rounded}
use Rattle.float.proofs.Keys.{equal_itself, equal_turned, equal_finite}
use Rattle.float.proofs.Negation.{Rel, nans, infs, fins, zeros, flip, round-flip, round_rel, round-zero, magnitude_rel, level_zeros}
use Rattle.float.proofs.Under.{of_round}
use Rattle.float.proofs.Zeros.{zero_is, product_zero}

-- ---- 2 ^ e times 2 ^ k is 2 ^ (e + k)

difference : (a b : ℕ) → 2 ^ a * down (sub_ℕ a b) ≡ up (sub_ℕ a b) * 2 ^ b
difference a b =
    by_leb (λ (z : ℤ). 2 ^ a * down z ≡ up z * 2 ^ b) (suc a) b (negsuc (b - suc a)) (pos (a - b))
    (λ h. let e : a + suc (b - suc a) ≡ b = omega arith in sym (pow-add 2 a (suc (b - suc a))) ∙ ap (λ (x : ℕ). 2 ^ x) e ∙ omega arith)
    (λ h. let e : a - b + b ≡ a = omega arith in omega (arith, sym (pow-add 2 (a - b) b) ∙ ap (λ (x : ℕ). 2 ^ x) e))

pub powers_add : (e k : ℤ) → up e * up k * down (e +ℤ k) ≡ up (e +ℤ k) * (down e * down k)
powers_add (pos a) (pos b) = rw (pow-add 2 a b) (omega arith)
powers_add (pos a) (negsuc b) = omega (arith, difference a (suc b))
powers_add (negsuc a) (pos b) = omega (arith, difference b (suc a))
powers_add (negsuc a) (negsuc b) =
    let e : suc (suc (a + b)) ≡ suc a + suc b = omega arith in omega (arith, ap (λ (x : ℕ). 2 ^ x) e ∙ pow-add 2 (suc a) (suc b))

pub scaled_at : (f : Format) (k : ℤ) (s : Bool) (m : ℕ) (e : ℤ) → times_power f k (fin s m e) ≡ round f s (m * up (e +ℤ k)) (down (e +ℤ k))
unfolding times_power
scaled_at f k s m e =
    let g = e +ℤ k in
    round_same f s (m * up e * up k) (down e * down k) (m * up g) (down g) (mul-pos (down_pos e) (down_pos k)) (down_pos g)
    (omega (arith, ap (λ (x : ℕ). m * x) (powers_add e k)))

-- ---- signs and zeros

pub scaled_fits : (f : Format) (k : ℤ) (x : Float) → T (fits f (times_power f k x))
unfolding times_power
scaled_fits f k nan = nan-fits f
scaled_fits f k (inf s) = inf-fits f s
scaled_fits f k (fin s m e) = round-fits f s (m * up e * up k) (down e * down k)

pub scaled_none : (f : Format) (k : ℤ) (s : Bool) (e : ℤ) → times_power f k (fin s 0 e) ≡ fin s 0 (pos 0)
unfolding times_power
scaled_none f k s e = round-zero f s (0 * up e * up k) (down e * down k) (mul-pos (down_pos e) (down_pos k)) (rw (zero-mul (up e), zero-mul (up k)))

pub scaled_zero : (f : Format) (k : ℤ) → times_power f k (zero_f f) ≡ zero_f f
scaled_zero f k = rw (zero_is f) (scaled_none f k false (pos 0))

pub scaled_rel : {b : Bool} {x y : Float} (f : Format) (k : ℤ) → Rel b x y → Rel b (times_power f k x) (times_power f k y)
scaled_rel f k nans = unfold times_power in nans
scaled_rel f k (infs s) = unfold times_power in infs s
scaled_rel {b} f k (fins s m e) = unfold times_power in round_rel b f s (m * up e * up k) (down e * down k)
scaled_rel f k (zeros s t) = rw (scaled_none f k s (pos 0), scaled_none f k t (pos 0)) (zeros s t)

flip-neg : (x : Float) → flip true x ≡ neg x
unfolding neg
flip-neg nan = refl
flip-neg (inf s) = refl
flip-neg (fin s m e) = refl

pub scaled_neg : (f : Format) (k : ℤ) (x : Float) → times_power f k (neg x) ≡ neg (times_power f k x)
unfolding times_power neg
scaled_neg f k nan = refl
scaled_neg f k (inf s) = refl
scaled_neg f k (fin s m e) =
    let a = m * up e * up k in let c = down e * down k in sym (round-flip true f s a c) ∙ flip-neg (round f s a c)

unsigned : (f : Format) (a c : ℕ) → magnitude_of (round f false a c) ≡ round f false a c
unfolding magnitude_of
unsigned f = of_round (λ (x : Float). magnitude_of x ≡ x) f false refl (λ m e. refl)

pub round_unsigned : (f : Format) (s : Bool) (a c : ℕ) → magnitude_of (round f s a c) ≡ round f false a c
round_unsigned f false a c = unsigned f a c
round_unsigned f true a c = sym (magnitude_rel (round_rel true f false a c)) ∙ unsigned f a c

pub scaled_magnitude : (f : Format) (k : ℤ) (x : Float) → magnitude_of (times_power f k x) ≡ times_power f k (magnitude_of x)
unfolding times_power magnitude_of
scaled_magnitude f k nan = refl
scaled_magnitude f k (inf s) = refl
scaled_magnitude f k (fin s m e) = round_unsigned f s (m * up e * up k) (down e * down k)

pub finite_before : (f : Format) (k : ℤ) (x : Float) → finite (times_power f k x) ≡ true → finite x ≡ true
unfolding times_power finite
finite_before f k nan h = h
finite_before f k (inf s) h = h
finite_before f k (fin s m e) h = refl

-- ---- equal numbers have equal products

module _ (f : Format) (k : ℤ) where
  scaled_alike : (s : Bool) (m : ℕ) (e : ℤ) (n : ℕ) (d : ℤ) → m * up e * down d ≡ n * up d * down e → times_power f k (fin s m e) ≡ times_power f k (fin s n d)
  unfolding times_power
  scaled_alike s m e n d h =
      round_same f s (m * up e * up k) (down e * down k) (n * up d * up k) (down d * down k) (mul-pos (down_pos e) (down_pos k))
      (mul-pos (down_pos d) (down_pos k)) (omega (arith, ap (λ (x : ℕ). x * (up k * down k)) h))

  like_signs : (s : Bool) (m : ℕ) (e : ℤ) (n : ℕ) (d : ℤ) → finite (times_power f k (fin s m e)) ≡ true
      → T (eqb (m * up e * down d) (n * up d * down e) && true) → eq (times_power f k (fin s m e)) (times_power f k (fin s n d)) ≡ true
  like_signs s m e n d p h =
      rw (← scaled_alike s m e n d (eqb→eq _ _ (and_l (eqb (m * up e * down d) (n * up d * down e)) true h))) (equal_itself (times_power f k (fin s m e)) p)

  unlike_signs : (s t : Bool) (m : ℕ) (e : ℤ) (n : ℕ) (d : ℤ)
      → T (eqb (m * up e * down d) (n * up d * down e) && eqb (m * up e * down d) 0) → eq (times_power f k (fin s m e)) (times_power f k (fin t n d)) ≡ true
  unlike_signs s t m e n d h =
      let x = m * up e * down d in
      let y = n * up d * down e in
      let a : x ≡ 0 = eqb→eq x 0 (and_r (eqb x y) (eqb x 0) h) in
      let b : y ≡ 0 = sym (eqb→eq x y (and_l (eqb x y) (eqb x 0) h)) ∙ a in
      rw (product_zero m e d a, product_zero n d e b, scaled_none f k s e, scaled_none f k t d) (unfold eq in level_zeros s t)

  pub scaled_eq : (x y : Float) → finite x ≡ true → finite (times_power f k x) ≡ true → eq x y ≡ true → eq (times_power f k x) (times_power f k y) ≡ true
  unfolding finite eq
  scaled_eq nan y p q h = absurd (false≢true p)
  scaled_eq (inf s) y p q h = absurd (false≢true p)
  scaled_eq (fin s m e) nan p q h = absurd (false≢true h)
  scaled_eq (fin s m e) (inf t) p q h = absurd (false≢true h)
  scaled_eq (fin true m e) (fin true n d) p q h = like_signs true m e n d q (subst T (sym h) tt)
  scaled_eq (fin false m e) (fin false n d) p q h = like_signs false m e n d q (subst T (sym h) tt)
  scaled_eq (fin true m e) (fin false n d) p q h = unlike_signs true false m e n d (subst T (sym h) tt)
  scaled_eq (fin false m e) (fin true n d) p q h = unlike_signs false true m e n d (subst T (sym h) tt)

-- ---- one exponent after the other

pub scaled_itself : (f : Format) (x : Float) → T (fits f x) → times_power f (pos 0) x ≡ x
scaled_itself f nan t = unfold times_power in refl
scaled_itself f (inf s) t = unfold times_power in refl
scaled_itself f (fin s m e) t =
    scaled_at f (pos 0) s m e ∙ ap (λ (g : ℤ). round f s (m * up g) (down g)) (+ℤ_idr e) ∙ own_rounded f s m e t

pub scaled_shifted : (f : Format) (j k : ℤ) (x : Float) → times_power f k (shifted j x) ≡ times_power f (j +ℤ k) x
scaled_shifted f j k nan = unfold times_power in refl
scaled_shifted f j k (inf s) = unfold times_power in refl
scaled_shifted f j k (fin s zero e) = scaled_none f k s e ∙ sym (scaled_none f (j +ℤ k) s e)
scaled_shifted f j k (fin s (suc m) e) =
    scaled_at f k s (suc m) (e +ℤ j)
    ∙ ap (λ (g : ℤ). round f s (suc m * up g) (down g)) (+ℤ_assoc e j k)
    ∙ sym (scaled_at f (j +ℤ k) s (suc m) e)

pub shifted-shifted : (j k : ℤ) (x : Float) → shifted j (shifted k x) ≡ shifted (k +ℤ j) x
shifted-shifted j k nan = refl
shifted-shifted j k (inf s) = refl
shifted-shifted j k (fin s zero e) = refl
shifted-shifted j k (fin s (suc m) e) = ap (fin s (suc m)) (+ℤ_assoc e k j)

-- equal numbers are finite together after a product
pub equal_together : (f : Format) (k : ℤ) (x y : Float) → finite x ≡ true → finite y ≡ true → eq x y ≡ true
    → finite (times_power f k x) ≡ finite (times_power f k y)
equal_together f k x y p q e =
    let t : (u v : Float) → finite u ≡ true → eq u v ≡ true → finite (times_power f k u) ≡ true → finite (times_power f k v) ≡ true =
    λ (u v : Float) a b c. equal_finite _ _ (scaled_eq f k u v a c b) c in
    so_or_not (finite (times_power f k x)) (λ c. c ∙ sym (t x y p e c))
    (λ c. so_or_not (finite (times_power f k y)) (λ d. absurd (true≢false (sym (t y x q (equal_turned x y p q e) d) ∙ c))) (λ d. c ∙ sym d))
