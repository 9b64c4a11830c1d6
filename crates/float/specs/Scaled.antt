-- A number times a power of two, and the power of two that a matrix is divided by. Definitions only.
use Rattle.std.specs.Prelude.{◌≡◌, ℕ, zero, suc, ◌-◌, ◌*◌, ◌%◌, min, Bool, ◌&&◌, ◌||◌, T, List, [], ◌∷◌, ℤ, pos, negsuc, ◌+ℤ◌, int_le, is_nan, nat_lt}
use Rattle.std.specs.Prelude.{slice_index_or, to_bits, Float}
use Rattle.std.specs.Float.{nan, inf, fin, Format}
use Rattle.std.specs.Float.Ieee.{emax, low, up, down, size, round, eq, lt, le, top}
use Rattle.float.specs.Choice.{pick}
use Rattle.float.specs.Constants.{zero_f, smallest_f, largest_f}
use Rattle.float.specs.Sign.{magnitude_of}

-- ---- x times 2 ^ k

-- The nearest value of the format to the exact product, and of two that are equally near the one whose last digit is even. `round` is handed the exact
-- product of m * 2 ^ e and 2 ^ k as a fraction, and rounds once; subnormals are kept.
unfoldable pub times_power : Format → ℤ → Float → Float
times_power f k nan = nan
times_power f k (inf s) = inf s
times_power f k (fin s m e) = round f s (m * up e * up k) (down e * down k)

-- the exponents that occur are from -low to low, of doubles from -1074 to 1074; one beyond is taken for the nearer end
abbrev pub limited : Format → ℤ → ℤ
limited f (pos n) = pos (min n (low f))
limited f (negsuc n) = negsuc (min n (low f - 1))

-- what `scaled` promises
abbrev pub times_limited : Format → Float → ℤ → Float
times_limited f x k = times_power f (limited f k) x

-- and `scaled_all`, of n numbers: those from place i on, and all from the first
abbrev pub times_from : Format → ℤ → ℕ → ℕ → List Float → List Float
times_from f k i zero xs = []
times_from f k i (suc n) xs = times_limited f (slice_index_or xs i nan) k ∷ times_from f k (suc i) n xs

abbrev pub times_each : Format → ℕ → List Float → ℤ → List Float
times_each f n xs k = times_from f k 0 n xs

-- nine of them, written out: `nine_each` says that they are the same
abbrev pub nine_times : Format → List Float → ℤ → List Float
nine_times f xs k =
    let y : ℕ → Float = λ (i : ℕ). times_limited f (slice_index_or xs i nan) k in y 0 ∷ y 1 ∷ y 2 ∷ y 3 ∷ y 4 ∷ y 5 ∷ y 6 ∷ y 7 ∷ y 8 ∷ []

-- ---- exactly, with no format to round to: the same digits at another exponent

abbrev pub shifted : ℤ → Float → Float
shifted k nan = nan
shifted k (inf s) = inf s
shifted k (fin s zero e) = fin s zero e
shifted k (fin s (suc m) e) = fin s (suc m) (e +ℤ k)

-- zero, or from the smallest normal number to the largest number, in magnitude
abbrev pub zero_or_normal : Format → Float → Bool
zero_or_normal f x = eq x (zero_f f) || (le (smallest_f f) (magnitude_of x) && le (magnitude_of x) (largest_f f))

-- ---- the power of two under a number: 2 ^ k, the number's magnitude being from 2 ^ k up to, but not including, 2 ^ (k + 1)

-- 2 ^ 0 stands there for a zero, and for what is no number
unfoldable pub power_under : Float → ℤ
power_under nan = pos 0
power_under (inf s) = pos 0
power_under (fin s zero e) = pos 0
power_under (fin s (suc m) e) = e +ℤ pos (size (suc m) - 1)

-- from 2 ^ -low, the format's smallest value, to 2 ^ emax
abbrev pub InReach : Format → ℤ → Type 0
InReach f k = T (int_le (negsuc (low f - 1)) k && int_le k (pos (emax f)))

-- what `power_under` promises of the number x of a pattern
pub record PowerPromise (f : Format) (x : Float) (k : ℤ) : Type 0 where
  pub is : k ≡ power_under x
  pub reach : InReach f k

-- ---- and of a matrix: that of its largest magnitude

abbrev pub larger : Float → Float → Float
larger x y = pick (lt x y) y x

-- the largest of x and the magnitudes of the numbers; a NaN is larger than nothing
unfoldable pub largest_from : Float → List Float → Float
unfolding lt
largest_from x [] = x
largest_from x (y ∷ ys) = largest_from (larger x (magnitude_of y)) ys

abbrev pub largest_magnitude : Format → List Float → Float
largest_magnitude f xs = largest_from (zero_f f) xs

abbrev pub power_of : Format → List Float → ℤ
power_of f xs = power_under (largest_magnitude f xs)

-- ---- the same by patterns: without a sign they are in the order of their numbers, and whole numbers are compared sooner

-- the pattern of x with the sign off, and that of 0 for a NaN
unfoldable pub pattern_of : Format → Float → ℕ
pattern_of f x = pick (is_nan x) 0 (to_bits f x % top f)

-- the pattern of the larger one: the number of the pattern b, or x's magnitude
unfoldable pub larger_pattern : Format → ℕ → Float → ℕ
unfolding pattern_of
larger_pattern f b x = pick (nat_lt b (pattern_of f x)) (pattern_of f x) b

abbrev pub largest_pattern_from : Format → ℕ → List Float → ℕ
largest_pattern_from f b [] = b
largest_pattern_from f b (x ∷ xs) = largest_pattern_from f (larger_pattern f b x) xs

abbrev pub largest_pattern : Format → List Float → ℕ
largest_pattern f xs = largest_pattern_from f 0 xs
