-- A sum starts at +0, and +0 with -0 added is +0: so numbers that are all -0 have the sum +0.
use Rattle.float.proofs.Words.{◌≡◌, refl, ap, ◌∙◌, ℕ, zero, suc, Float, Format, binary32, binary64, of_bits, add, neg}
use Rattle.float.specs.Constants.{zero_f}
use Rattle.matrix.specs.Arithmetic.{sum_of}

zero_stays : (f : Format) → add f (zero_f f) (neg (zero_f f)) ≡ zero_f f
unfolding add neg of_bits
zero_stays binary32 = refl
zero_stays binary64 = refl

pub sum_of_minus_zeros : (f : Format) (n : ℕ) → sum_of f n (λ (i : ℕ). neg (zero_f f)) ≡ zero_f f
sum_of_minus_zeros f zero = refl
sum_of_minus_zeros f (suc n) = ap (λ (x : Float). add f x (neg (zero_f f))) (sum_of_minus_zeros f n) ∙ zero_stays f
