-- The constants are what they are named for, in both formats: by computation, and the root of 1/2 by `correct`.
use Rattle.float.proofs.Words.{◌≡◌, refl, subst, ◌+◌, ◌-◌, ◌^◌, false, T, pos, negsuc, Float, fin, Format, binary32, binary64, prec, low, add, mul}
use Rattle.float.proofs.Words.{fits, of_bits, to_bits}
use lib.Ieee.{of_int}
use Rattle.float.specs.Constants.{one_f, two_f, half_f, epsilon_f, limit_f, half_root_f}
use Rattle.float.specs.Nearest.{IsRoot}
use Rattle.float.specs.Root.{root_of}
use Rattle.float.proofs.Correct.{correct}

-- ---- 1 / sqrt 2 is the root of 1/2

half_root : (f : Format) → root_of f (half_f f) ≡ half_root_f f
unfolding root_of of_bits
half_root binary32 = refl
half_root binary64 = refl

half_fits : (f : Format) → T (fits f (half_f f))
unfolding fits of_bits
half_fits binary32 = tt
half_fits binary64 = tt

pub half_root_nearest : (f : Format) → IsRoot f (half_f f) (half_root_f f)
half_root_nearest f = subst (λ (v : Float). IsRoot f (half_f f) v) (half_root f) (correct f (half_f f) (half_fits f))

-- ---- 1, 2 and 1/2

pub one_named : (f : Format) → one_f f ≡ of_int f (pos 1)
unfolding of_int of_bits
one_named binary32 = refl
one_named binary64 = refl

pub two_named : (f : Format) → two_f f ≡ of_int f (pos 2)
unfolding of_int of_bits
two_named binary32 = refl
two_named binary64 = refl

pub half_named : (f : Format) → mul f (two_f f) (half_f f) ≡ one_f f
unfolding mul of_bits
half_named binary32 = refl
half_named binary64 = refl

-- ---- epsilon reaches from 1 to the next number, and the limit is 256 of it

pub epsilon_named : (f : Format) → to_bits f (add f (one_f f) (epsilon_f f)) ≡ to_bits f (one_f f) + 1
unfolding add of_bits to_bits
epsilon_named binary32 = refl
epsilon_named binary64 = refl

pub limit_named : (f : Format) → mul f (epsilon_f f) (of_int f (pos 256)) ≡ limit_f f
unfolding mul of_int of_bits
limit_named binary32 = refl
limit_named binary64 = refl

-- ---- the exponent goes from that of the smallest number above 0 to that of the largest

pub lowest_named : (f : Format) → of_bits f 1 ≡ fin false 1 (negsuc (low f - 1))
unfolding of_bits
lowest_named binary32 = refl
lowest_named binary64 = refl

pub largest_named : (of_bits binary32 0x7f7f_ffff ≡ fin false (2 ^ prec binary32 - 1) (pos 104))
    × (of_bits binary64 0x7fef_ffff_ffff_ffff ≡ fin false (2 ^ prec binary64 - 1) (pos 971))
unfolding of_bits
largest_named = (refl, refl)
