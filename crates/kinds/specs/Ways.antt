-- The two ways in which a matrix is worked: scaled, so that its largest magnitude is from 1 up to 2, or as it is given. Definitions only.
use Rattle.std.specs.Prelude.{Bool, ◌&&◌, List, ℕ, eqb, ℤ, neg_ℤ, Float}
use Rattle.std.specs.Float.{Format}
use Rattle.float.specs.Choice.{pick}
use Rattle.float.specs.Judged.{judged}
use Rattle.float.specs.Scaled.{times_power, power_of}
use Rattle.matrix.specs.Places.{at, tabulate}
use Rattle.kinds.specs.Table.{kind_numbered}
use Rattle.kinds.specs.Work.{Asked, WorkedAnswer, first_of, refused_kind, plain_of}

-- the scaled way: the kind's matrix is scaled, and the request's way is 0
abbrev pub is_scaled : Asked → Bool
is_scaled a = (kind_numbered a.kind).scales && eqb a.way 0

-- the first n numbers, each times 2 ^ k
abbrev pub times_all : Format → ℤ → ℕ → List Float → List Float
times_all f k n xs = tabulate n (λ (i : ℕ). times_power f k (at xs i))

-- ---- before: divided by the power of two under the largest magnitude of the numbers that the kind uses

abbrev pub power_for : Format → Asked → ℤ
power_for f a = power_of f (first_of (kind_numbered a.kind).nine a.nine)

abbrev pub divided : Format → ℤ → Asked → Asked
divided f k a = record { kind = a.kind; way = a.way; nine = times_all f (neg_ℤ k) 9 a.nine; three = a.three }

-- what is worked: the numbers divided, or as they are given
abbrev pub worked_on : Format → Asked → Asked
worked_on f a = pick (is_scaled a) (divided f (power_for f a) a) a

-- ---- after: the values multiplied back. All else of an answer has no unit and stays

abbrev pub revalued : List Float → WorkedAnswer → WorkedAnswer
revalued values w =
    record { code = w.code; count = w.count; settled = w.settled; values = values; left = w.left; right = w.right }

-- 7 where a value is not finite any more. The values of a refusal are zeros, and stay so.
unfoldable pub multiplied_back : Format → ℤ → WorkedAnswer → WorkedAnswer
multiplied_back f k w = judged (λ (code : ℕ). refused_kind f code 0) 7 (times_all f k 3 w.values) (revalued (times_all f k 3 w.values) w)

-- ---- the answer of a kind

abbrev pub work_of : Format → Asked → WorkedAnswer
work_of f a = pick (is_scaled a) (multiplied_back f (power_for f a) (plain_of f (divided f (power_for f a) a))) (plain_of f a)
