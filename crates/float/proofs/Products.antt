-- A product with 2 ^ k, and a quotient by it, are x times 2 ^ k or 2 ^ -k: the fraction that is rounded has the same two parts, in another order.
use Rattle.float.proofs.Words.{◌≡◌, refl, ap, Bool, true, false, zero, suc, one-mul, mul_comm, ℤ, pos, negsuc, neg_ℤ, Float, nan, inf, fin, Format}
use Rattle.float.proofs.Words.{up, down, unlike, mul, div}
use Rattle.float.specs.Scaled.{times_power}

-- a product or a quotient with a number above 0 has x's sign
own_sign : (s : Bool) → unlike s false ≡ s
own_sign true = refl
own_sign false = refl

pub times_power_lem : (f : Format) (k : ℤ) (x : Float) → mul f x (fin false 1 k) ≡ times_power f k x
unfolding mul times_power
times_power_lem f k nan = refl
times_power_lem f k (inf s) = ap inf (own_sign s)
times_power_lem f k (fin s m e) = rw (own_sign s, one-mul (up k))

-- 2 ^ -k turns the fraction of 2 ^ k over
up-minus : (k : ℤ) → up (neg_ℤ k) ≡ down k
up-minus (pos zero) = refl
up-minus (pos (suc n)) = refl
up-minus (negsuc n) = refl

down-minus : (k : ℤ) → down (neg_ℤ k) ≡ up k
down-minus (pos zero) = refl
down-minus (pos (suc n)) = refl
down-minus (negsuc n) = refl

pub over-power : (f : Format) (k : ℤ) (x : Float) → div f x (fin false 1 k) ≡ times_power f (neg_ℤ k) x
unfolding div times_power
over-power f k nan = refl
over-power f k (inf s) = ap inf (own_sign s)
over-power f k (fin s m e) = rw (own_sign s, one-mul (up k), up-minus k, down-minus k, mul_comm (up k) (down e))
