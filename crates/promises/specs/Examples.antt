-- The scope's examples P1 to P14 and its whole example, a third pivot that is NaN, and blind rotations, as rows of one table: what is asked, and all that is
-- answered, the kinds in both ways. A second table has what the two ways answer differently. Definitions only.
-- A number is its bit pattern. Zeros that fill up the places of a record are left out at the end of a list.
use Rattle.std.specs.Prelude.{List, [], ◌∷◌, ◌++◌, map, ℕ, ◌+◌, ◌-◌, ◌*◌, ◌^◌, length, replicate, Float}
use Rattle.std.specs.Float.{binary64}
use Rattle.std.specs.Float.Ieee.{of_bits, to_bits}
use Rattle.float.specs.Root.{root_bits_of}
use Rattle.cholesky.specs.Factor.{FactorAnswer, factor2_of, factor3_of}
use Rattle.kinds.specs.Ways.{work_of}
use Rattle.record.specs.Answer.{Step, record_step_of}
use Rattle.kinds.specs.Work.{WorkedAnswer}

-- ---- a row

-- the root of a number; a kind of request with the nine numbers and the three; the factor of size 2 or 3 by itself; a whole request, byte by byte
pub data Call : Type 0 where
  root : ℕ → Call
  kind : ℕ → List ℕ → List ℕ → Call
  factor2 : List ℕ → Call
  factor3 : List ℕ → Call
  whole : List ℕ → Call

-- code, byte 6, byte 7, values, left and right, as a record has them; or the code and the bytes of the answer
pub data Shown : Type 0 where
  numbers : ℕ → ℕ → ℕ → List ℕ → List ℕ → List ℕ → Shown
  slice : ℕ → List ℕ → Shown

pub record Row : Type 0 where
  pub asked : Call
  pub answer : Shown

abbrev pub row : Call → Shown → Row
row asked answer = record { asked = asked; answer = answer }

-- what the scaled way answers, and the old one
pub record WaysRow : Type 0 where
  pub asked : Call
  pub scaled : Shown
  pub given : Shown

abbrev pub apart : Call → Shown → Shown → WaysRow
apart asked scaled given = record { asked = asked; scaled = scaled; given = given }

-- ---- what the definitions answer

abbrev pub floats : List ℕ → List Float
floats = map (of_bits binary64)

abbrev pub patterns : List Float → List ℕ
patterns = map (to_bits binary64)

-- a single number
abbrev pub number : ℕ → Shown
number x = numbers 0 0 0 (x ∷ []) [] []

abbrev pub of_kind : WorkedAnswer → Shown
of_kind w = numbers w.code w.count w.settled (patterns w.values) (patterns w.left) (patterns w.right)

abbrev pub of_factor : FactorAnswer → Shown
of_factor r = numbers r.code r.pivot 0 [] (patterns r.factor) []

abbrev pub of_step : Step → Shown
of_step t = slice t.code t.answer

-- the old factor, which shows what is not written
abbrev pub old : ℕ → List ℕ
old n = replicate n 0x4008000000000000

-- in the scaled way, 0, or in the old one, 1
abbrev pub answer_to : ℕ → Call → Shown
answer_to way (root x) = number (root_bits_of binary64 x)
answer_to way (kind k nine three) = of_kind (work_of binary64 (record { kind = k; way = way; nine = floats nine; three = floats three }))
answer_to way (factor2 a) = of_factor (factor2_of binary64 (floats (old 3)) (floats a))
answer_to way (factor3 a) = of_factor (factor3_of binary64 (floats (old 6)) (floats a))
answer_to way (whole request) = of_step (record_step_of binary64 request (replicate 176 0xFF))

-- ---- what is expected

abbrev pub filled : ℕ → List ℕ → List ℕ
filled n xs = xs ++ replicate (n - length xs) 0

-- a record's answer with code 0, and one that is not settled
abbrev pub good : ℕ → List ℕ → List ℕ → List ℕ → Shown
good rotations values left right = numbers 0 rotations 1 (filled 3 values) (filled 9 left) (filled 9 right)

abbrev pub unsettled : ℕ → List ℕ → List ℕ → List ℕ → Shown
unsettled rotations values left right = numbers 0 rotations 0 (filled 3 values) (filled 9 left) (filled 9 right)

-- a refused one, with the pivot's number or 0
abbrev pub bad : ℕ → ℕ → Shown
bad code pivot = numbers code pivot 0 (filled 3 []) (filled 9 []) (filled 9 [])

-- a factor that stopped with a code, and what it wrote before the old numbers
abbrev pub early : ℕ → ℕ → List ℕ → Shown
early code pivot left = numbers code pivot 0 [] left []

-- ---- numbers

abbrev pub minus : ℕ → ℕ
minus x = 2 ^ 63 + x

abbrev pub one : ℕ
one = 0x3FF0000000000000

abbrev pub two : ℕ
two = 0x4000000000000000

abbrev pub three : ℕ
three = 0x4008000000000000

abbrev pub four : ℕ
four = 0x4010000000000000

abbrev pub five : ℕ
five = 0x4014000000000000

-- 1/sqrt 2, rounded
abbrev pub h : ℕ
h = 0x3FE6A09E667F3BCD

abbrev pub largest : ℕ
largest = 0x7FEFFFFFFFFFFFFF

-- 2^k for k of the normal numbers, as 1023 + k
abbrev pub power : ℕ → ℕ
power biased = biased * 2 ^ 52

abbrev pub tiny : ℕ
tiny = power (1023 - 60)

-- a number of either sign, times 2 ^ -50
abbrev pub fifty : ℕ → ℕ
fifty x = x - 50 * 2 ^ 52

abbrev pub nan_pivot : List ℕ
nan_pivot = 1 ∷ 0 ∷ one ∷ power (1023 + 1023) ∷ 0 ∷ one ∷ []

-- ---- numbers as bytes

abbrev pub one_bytes : List ℕ
one_bytes = 0 ∷ 0 ∷ 0 ∷ 0 ∷ 0 ∷ 0 ∷ 0xF0 ∷ 0x3F ∷ []

abbrev pub two_bytes : List ℕ
two_bytes = 0 ∷ 0 ∷ 0 ∷ 0 ∷ 0 ∷ 0 ∷ 0x00 ∷ 0x40 ∷ []

abbrev pub three_bytes : List ℕ
three_bytes = 0 ∷ 0 ∷ 0 ∷ 0 ∷ 0 ∷ 0 ∷ 0x08 ∷ 0x40 ∷ []

-- h, or -h, by its last byte
abbrev pub h_bytes : ℕ → List ℕ
h_bytes last = 0xCD ∷ 0x3B ∷ 0x7F ∷ 0x66 ∷ 0x9E ∷ 0xA0 ∷ 0xE6 ∷ last ∷ []

-- ---- the table

abbrev pub table : List Row
table =
    -- P1: the root of -0
    row (root (minus 0)) (number (minus 0))
    -- P2: of 2^-1074, which is 2^-537
    ∷ row (root 1) (number (power (1023 - 537)))
    -- P3: of (2^53 - 1) * 2^971, which is (2^53 - 1) * 2^459
    ∷ row (root largest) (number (power (1023 + 459 + 53) - 1))
    -- P4
    ∷ row (kind 1 (one ∷ 0 ∷ one ∷ []) []) (good 0 (one ∷ one ∷ []) (0 ∷ one ∷ one ∷ minus 0 ∷ []) [])
    -- P5
    ∷ row (kind 1 (largest ∷ largest ∷ largest ∷ []) []) (bad 7 0)
    -- P6
    ∷ row (kind 2 (three ∷ 0 ∷ one ∷ 0 ∷ 0 ∷ two ∷ []) []) (good 0 (one ∷ two ∷ three ∷ []) (0 ∷ one ∷ 0 ∷ 0 ∷ 0 ∷ one ∷ one ∷ 0 ∷ 0 ∷ []) [])
    -- P7: 1 - 2^-44 is 2^9 patterns below 1, and 1 + 2^-44 is 2^8 above
    ∷ row (kind 2 (one ∷ power (1023 - 44) ∷ one ∷ 0 ∷ 0 ∷ one ∷ []) [])
    (good 1 ((one - 2 ^ 9) ∷ one ∷ (one + 2 ^ 8) ∷ []) (h ∷ minus h ∷ 0 ∷ 0 ∷ 0 ∷ one ∷ h ∷ h ∷ 0 ∷ []) [])
    -- P8
    ∷ row (kind 2 (one ∷ (power (1023 - 44) - 1) ∷ one ∷ 0 ∷ 0 ∷ one ∷ []) [])
    (good 0 (one ∷ one ∷ one ∷ []) (one ∷ 0 ∷ 0 ∷ 0 ∷ one ∷ 0 ∷ 0 ∷ 0 ∷ one ∷ []) [])
    -- P9
    ∷ row (kind 2 (minus two ∷ minus one ∷ minus two ∷ 0 ∷ 0 ∷ minus five ∷ []) [])
    (good 1 (minus five ∷ minus three ∷ minus one ∷ []) (0 ∷ 0 ∷ one ∷ h ∷ h ∷ 0 ∷ h ∷ minus h ∷ 0 ∷ []) [])
    -- P10
    ∷ row (kind 3 (one ∷ 0 ∷ 0 ∷ minus two ∷ []) [])
    (good 0 (two ∷ one ∷ []) (minus 0 ∷ minus one ∷ one ∷ minus 0 ∷ []) (0 ∷ one ∷ one ∷ minus 0 ∷ []))
    -- P11
    ∷ row (kind 4 (one ∷ 0 ∷ 0 ∷ 0 ∷ minus two ∷ 0 ∷ 0 ∷ 0 ∷ three ∷ []) [])
    (good 0 (three ∷ two ∷ one ∷ []) (0 ∷ 0 ∷ one ∷ minus 0 ∷ minus one ∷ minus 0 ∷ one ∷ 0 ∷ 0 ∷ []) (0 ∷ 0 ∷ one ∷ 0 ∷ one ∷ 0 ∷ one ∷ 0 ∷ 0 ∷ []))
    -- P12: 8 and 10 on the right; 1.25 and 1.5
    ∷ row (kind 7 (four ∷ two ∷ five ∷ []) (0x4020000000000000 ∷ 0x4024000000000000 ∷ []))
    (good 0 (0x3FF4000000000000 ∷ 0x3FF8000000000000 ∷ []) (two ∷ one ∷ two ∷ []) [])
    -- P13, the record, and what its kernel wrote
    ∷ row (kind 5 (one ∷ one ∷ one ∷ []) []) (bad 6 2)
    ∷ row (factor2 (one ∷ one ∷ one ∷ [])) (early 6 2 (one ∷ one ∷ old 1))
    -- P14
    ∷ row (factor3 (one ∷ 0 ∷ one ∷ one ∷ 0 ∷ one ∷ [])) (early 6 3 (one ∷ 0 ∷ one ∷ one ∷ 0 ∷ old 1))
    -- a NaN pivot: 2^-1074, 0, 1, 2^1023, 0, 1, the record, and what its kernel wrote: L31 is infinite, and L32 the one NaN
    ∷ row (kind 6 nan_pivot []) (bad 9 3)
    ∷ row (factor3 nan_pivot) (early 9 3 (power (1023 - 537) ∷ 0 ∷ one ∷ 0x7FF0000000000000 ∷ 0x7FF8000000000000 ∷ old 1))
    -- a blind rotation: 0 and 2^-60 on the diagonal, 1 beside it. The values are -1 and 1, rounded, and the vectors those of 45 degrees
    ∷ row (kind 1 (0 ∷ one ∷ tiny ∷ []) []) (unsettled 0 (minus one ∷ one ∷ []) (h ∷ minus h ∷ h ∷ h ∷ []) [])
    ∷ row (kind 2 (0 ∷ one ∷ tiny ∷ 0 ∷ 0 ∷ one ∷ []) [])
    (unsettled 1 (minus one ∷ one ∷ one ∷ []) (h ∷ minus h ∷ 0 ∷ h ∷ h ∷ 0 ∷ 0 ∷ 0 ∷ one ∷ []) [])
    -- 0 and -0 do not differ
    ∷ row (kind 1 (0 ∷ one ∷ minus 0 ∷ []) []) (good 0 (minus one ∷ one ∷ []) (h ∷ minus h ∷ h ∷ h ∷ []) [])
    -- the whole example: event 7, kind 1, numbers 2, 1, 2; h is CD 3B 7F 66 9E A0 E6 3F
    ∷ row (whole (7 ∷ 0 ∷ 0 ∷ 0 ∷ 1 ∷ 0 ∷ 0 ∷ 0 ∷ two_bytes ++ one_bytes ++ two_bytes ++ replicate 72 0))
    (slice 0
    (7 ∷ 0 ∷ 0 ∷ 0 ∷ 1 ∷ 0 ∷ 0 ∷ 1 ∷ one_bytes ++ three_bytes ++ replicate 8 0 ++ h_bytes 0x3F ++ h_bytes 0xBF ++ h_bytes 0x3F ++ h_bytes 0x3F
    ++ replicate 112 0))
    ∷ []

-- ---- where the ways part

abbrev pub ways_table : List WaysRow
ways_table =
    -- P9 times 2 ^ -50: turned as P9 is; in the old way the number beside the diagonal is under the limit, and nothing is turned
    apart (kind 2 (fifty (minus two) ∷ fifty (minus one) ∷ fifty (minus two) ∷ 0 ∷ 0 ∷ fifty (minus five) ∷ []) [])
    (good 1 (fifty (minus five) ∷ fifty (minus three) ∷ fifty (minus one) ∷ []) (0 ∷ 0 ∷ one ∷ h ∷ h ∷ 0 ∷ h ∷ minus h ∷ 0 ∷ []) [])
    (good 0 (fifty (minus five) ∷ fifty (minus two) ∷ fifty (minus two) ∷ []) (0 ∷ 0 ∷ one ∷ 0 ∷ one ∷ 0 ∷ one ∷ 0 ∷ 0 ∷ []) [])
    -- a sensor in such units
    ∷ apart (kind 4 (fifty one ∷ 0 ∷ 0 ∷ 0 ∷ fifty (minus two) ∷ fifty one ∷ 0 ∷ fifty one ∷ fifty three ∷ []) [])
    (good 1 (0x3CE98A68A4A8D9F3 ∷ 0x3CE18A68A4A8D9F3 ∷ fifty one ∷ [])
    (0 ∷ 0x3FC834ACDD64E1E6 ∷ 0x3FEF6C2FCCE3835D ∷ minus 0 ∷ 0xBFEF6C2FCCE3835D ∷ 0x3FC834ACDD64E1E6 ∷ one ∷ 0 ∷ 0 ∷ [])
    (0 ∷ 0x3FC834ACDD64E1E6 ∷ 0x3FEF6C2FCCE3835D ∷ 0 ∷ 0x3FEF6C2FCCE3835D ∷ 0xBFC834ACDD64E1E6 ∷ one ∷ 0 ∷ 0 ∷ []))
    (good 0 (fifty three ∷ fifty two ∷ fifty one ∷ []) (0 ∷ 0 ∷ one ∷ minus 0 ∷ minus one ∷ minus 0 ∷ one ∷ 0 ∷ 0 ∷ [])
    (0 ∷ 0 ∷ one ∷ 0 ∷ one ∷ 0 ∷ one ∷ 0 ∷ 0 ∷ []))
    -- 2, 1, 3 times 2 ^ -60: the old way turns by 45 degrees and is blind
    ∷ apart (kind 1 (0x3C40000000000000 ∷ 0x3C30000000000000 ∷ 0x3C48000000000000 ∷ []) [])
    (good 0 (0x3C361C8864680B58 ∷ 0x3C4CF1BBCDCBFA54 ∷ []) (0x3FEB38880B4603E4 ∷ 0xBFE0D2CA0DA1530C ∷ 0x3FE0D2CA0DA1530C ∷ 0x3FEB38880B4603E4 ∷ []) [])
    (unsettled 0 (0x3C30000000000000 ∷ 0x3C50000000000000 ∷ []) (h ∷ minus h ∷ h ∷ h ∷ []) [])
    -- the difference of the diagonal overflows in the old way, which drops the number beside it
    ∷ apart (kind 1 (0xFFE0000000000000 ∷ 0x7FD0000000000000 ∷ 0x7FE0000000000000 ∷ []) [])
    (good 0 (0xFFE1E3779B97F4A8 ∷ 0x7FE1E3779B97F4A8 ∷ []) (0x3FEF24DB1094205A ∷ 0xBFCD688B2FF4A8D7 ∷ 0x3FCD688B2FF4A8D7 ∷ 0x3FEF24DB1094205A ∷ []) [])
    (good 0 (0xFFE0000000000000 ∷ 0x7FE0000000000000 ∷ []) (one ∷ minus 0 ∷ 0 ∷ one ∷ []) [])
    -- the hypot of the polar step overflows in the old way, and the values are zeros
    ∷ apart (kind 3 (0x7FD8000000000000 ∷ 0x7FD8000000000000 ∷ 0xFFD8000000000000 ∷ 0x7FD8000000000000 ∷ []) [])
    (good 0 (0x7FE0F876CCDF6CD9 ∷ 0x7FE0F876CCDF6CD9 ∷ []) (0x3FE6A09E667F3BCC ∷ 0x3FE6A09E667F3BCC ∷ 0xBFE6A09E667F3BCC ∷ 0x3FE6A09E667F3BCC ∷ [])
    (one ∷ minus 0 ∷ 0 ∷ one ∷ []))
    (good 0 [] (0 ∷ minus 0 ∷ 0 ∷ 0 ∷ []) (one ∷ minus 0 ∷ 0 ∷ one ∷ []))
    ∷ []
