-- The scope's sizes, places and kinds as numbers written out, and what a request's bytes say by them. They stand by themselves: of the
-- definitions that the step is made of only `times_power` and `power_of` of `float` are taken, and laws tell that both say the same (proofs/Scope).
-- Definitions only.
use Rattle.std.specs.Prelude.{Bool, ◌&&◌, List, [], ◌∷◌, ℕ, ◌+◌, ◌*◌, eqb, ℤ, neg_ℤ, get_or, take, drop, Float}
use Rattle.std.specs.Float.{Format, binary32, binary64}
use Rattle.std.specs.Float.Ieee.{of_bits}
use Rattle.float.specs.Choice.{pick}
use Rattle.float.specs.Scaled.{times_power, power_of}
use Rattle.matrix.specs.Places.{at, tabulate}
use Rattle.kinds.specs.Table.{Kernel, Eigen2x2, Eigen3x3, Svd2x2, Svd3x3, Factor2x2, Factor3x3, Solve2x2, Solve3x3, Unknown}
use Rattle.kinds.specs.Work.{Asked}

-- ---- bytes

abbrev pub number_length : Format → ℕ
number_length binary32 = 4
number_length binary64 = 8

abbrev pub request_length : Format → ℕ
request_length binary32 = 56
request_length binary64 = 104

abbrev pub answer_length : Format → ℕ
answer_length binary32 = 92
answer_length binary64 = 176

-- the nine numbers of a request begin at byte 8, and the three here
abbrev pub three_begin : Format → ℕ
three_begin binary32 = 44
three_begin binary64 = 80

-- ---- kinds, by their number; the first place is that of no kind

-- so many of the nine numbers are used
abbrev pub used_nine : ℕ → ℕ
used_nine k = get_or (0 ∷ 3 ∷ 6 ∷ 4 ∷ 9 ∷ 3 ∷ 6 ∷ 3 ∷ 6 ∷ []) k 0

-- so many of the three
abbrev pub used_three : ℕ → ℕ
used_three k = get_or (0 ∷ 0 ∷ 0 ∷ 0 ∷ 0 ∷ 0 ∷ 0 ∷ 2 ∷ 3 ∷ []) k 0

-- the last of its ways, byte 5: a matrix of the first four is scaled with 0 and worked as it is with 1
abbrev pub last_way : ℕ → ℕ
last_way k = get_or (0 ∷ 1 ∷ 1 ∷ 1 ∷ 1 ∷ 0 ∷ 0 ∷ 0 ∷ 0 ∷ []) k 0

abbrev pub kernel_numbered : ℕ → Kernel
kernel_numbered k = get_or (Unknown ∷ Eigen2x2 ∷ Eigen3x3 ∷ Svd2x2 ∷ Svd3x3 ∷ Factor2x2 ∷ Factor3x3 ∷ Solve2x2 ∷ Solve3x3 ∷ []) k Unknown

-- ---- a request

abbrev pub kind_in : List ℕ → ℕ
kind_in s = get_or s 4 0

abbrev pub way_in : List ℕ → ℕ
way_in s = get_or s 5 0

-- bytes as a word, the lowest first
unfoldable pub little : List ℕ → ℕ
little [] = 0
little (b ∷ bs) = b + 256 * little bs

-- the first n numbers from byte a on
abbrev pub numbers_in : Format → ℕ → ℕ → List ℕ → List Float
numbers_in f a n s = tabulate n (λ (i : ℕ). of_bits f (little (take (number_length f) (drop (a + number_length f * i) s))))

abbrev pub given : Format → List ℕ → Asked
given f s = record { kind = kind_in s; way = way_in s; nine = numbers_in f 8 9 s; three = numbers_in f (three_begin f) 3 s }

-- ---- the scaled way: each number divided by 2 ^ k, the power of two under the largest magnitude of those that the kind uses

abbrev pub scaled_in : List ℕ → Bool
scaled_in s = eqb (last_way (kind_in s)) 1 && eqb (way_in s) 0

abbrev pub power_in : Format → List ℕ → ℤ
power_in f s = power_of f (numbers_in f 8 (used_nine (kind_in s)) s)

abbrev pub divided_in : Format → List ℕ → Asked
divided_in f s = record {
  kind = kind_in s;
  way = way_in s;
  nine = tabulate 9 (λ (i : ℕ). times_power f (neg_ℤ (power_in f s)) (at (numbers_in f 8 9 s) i));
  three = numbers_in f (three_begin f) 3 s;
}

-- what is worked
abbrev pub worked_in : Format → List ℕ → Asked
worked_in f s = pick (scaled_in s) (divided_in f s) (given f s)
