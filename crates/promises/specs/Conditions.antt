-- The scope's table of the numbers that answer, for a record: each row's condition as it is read off the bytes, in the order of the rows. The record step's own
-- definitions are not cited. Definitions only.
use Rattle.std.specs.Prelude.{◌≡◌, List, [], ◌∷◌, ◌++◌, ◌⊎◌, ℕ, ◌+◌, ◌*◌, ◌≤◌, ◌<◌, get_or, Float}
use Rattle.std.specs.Float.{Format}
use Rattle.float.specs.Choice.{pick}
use Rattle.float.specs.Scaled.{times_power}
use Rattle.matrix.specs.Places.{zeros, at, tabulate}
use Rattle.matrix.specs.Rows.{Row, on, WrongLength, NotFinite, AtMostZero, OneNan}
use Rattle.cholesky.specs.Factor.{steps2_of, steps3_of}
use Rattle.cholesky.specs.Pivots.{pivots2_of, pivots3_of}
use Rattle.cholesky.specs.Solve.{solution2_of, solution3_of}
use Rattle.eigen.specs.Eigen2x2 as eigen2
use Rattle.eigen.specs.Eigen3x3 as eigen3
use Rattle.svd.specs.Svd2x2 as svd2
use Rattle.svd.specs.Svd3x3 as svd3
use Rattle.kinds.specs.Work.{Asked, first_of, padded}
use Rattle.promises.specs.Scope.{number_length, request_length, answer_length, three_begin, used_nine, used_three, last_way, kernel_numbered, kind_in, way_in}
use Rattle.promises.specs.Scope.{numbers_in, given, scaled_in, power_in, divided_in}
use Rattle.kinds.specs.Table.{Kernel, Eigen2x2, Eigen3x3, Svd2x2, Svd3x3, Factor2x2, Factor3x3, Solve2x2, Solve3x3, Unknown}

-- ---- 3: the kind is none of 1 to 8

abbrev pub NoKind : ℕ → Type 0
NoKind k = (1 ≤ k) × (k ≤ 8) → ⊥

-- ---- 4: the way is none of the kind's; or one of the bytes that are to be zero is not, the reserved ones and those of the numbers that the kind does not use

abbrev pub HasWay : List ℕ → Type 0
HasWay s = way_in s ≤ last_way (kind_in s)

abbrev pub Between : ℕ → ℕ → ℕ → Type 0
Between a e i = (a ≤ i) × (i < e)

abbrev pub Unused : Format → ℕ → ℕ → Type 0
Unused f k i =
    Between 6 8 i
    ⊎ (Between (8 + number_length f * used_nine k) (three_begin f) i ⊎ Between (three_begin f + number_length f * used_three k) (request_length f) i)

abbrev pub Zeros : Format → List ℕ → Type 0
Zeros f s = (i : ℕ) → Unused f (kind_in s) i → get_or s i 0 ≡ 0

abbrev pub NotAsItIsToBe : Format → List ℕ → Type 0
NotAsItIsToBe f s = HasWay s × Zeros f s → ⊥

-- ---- 5: the numbers that the kind uses

abbrev pub used_in : Format → List ℕ → List Float
used_in f s = numbers_in f 8 (used_nine (kind_in s)) s ++ numbers_in f (three_begin f) (used_three (kind_in s)) s

-- ---- 6 and 9: the pivots of each kernel. A pivot counts only if those before it are above zero; if one of them is not, that is a 6 or a 9 already.
-- After a NaN all are NaN, so that no 6 hides a 9.

abbrev pub pivots_of : Format → Kernel → Asked → List Float
pivots_of f Eigen2x2 a = []
pivots_of f Eigen3x3 a = []
pivots_of f Svd2x2 a = []
pivots_of f Svd3x3 a = []
pivots_of f Factor2x2 a = pivots2_of f (first_of 3 a.nine)
pivots_of f Factor3x3 a = pivots3_of f (first_of 6 a.nine)
pivots_of f Solve2x2 a = pivots2_of f (first_of 3 a.nine)
pivots_of f Solve3x3 a = pivots3_of f (first_of 6 a.nine)
pivots_of f Unknown a = []

-- ---- 7: the numbers of the answer, and for the 3x3 kernels of eigen and svd the worked matrix, among whose numbers the values are, or their magnitudes

abbrev pub factor_made2 : Format → Asked → List Float
factor_made2 f a = (steps2_of f (zeros f 3) (first_of 3 a.nine)).factor

abbrev pub factor_made3 : Format → Asked → List Float
factor_made3 f a = (steps3_of f (zeros f 6) (first_of 6 a.nine)).factor

abbrev pub numbers_of : Format → Kernel → Asked → List Float
numbers_of f Eigen2x2 a = eigen2.numbers2_of (eigen2.solved2 f (first_of 3 a.nine))
numbers_of f Eigen3x3 a = eigen3.numbers_of (eigen3.last_of f (first_of 6 a.nine))
numbers_of f Svd2x2 a = svd2.numbers2_of (svd2.factors2_of (svd2.sides2_of f (first_of 4 a.nine)))
numbers_of f Svd3x3 a = svd3.numbers_of (svd3.last_of f (first_of 9 a.nine))
numbers_of f Factor2x2 a = factor_made2 f a
numbers_of f Factor3x3 a = factor_made3 f a
numbers_of f Solve2x2 a = factor_made2 f a ++ solution2_of f (factor_made2 f a) (first_of 2 a.three)
numbers_of f Solve3x3 a = factor_made3 f a ++ solution3_of f (factor_made3 f a) (first_of 3 a.three)
numbers_of f Unknown a = []

-- ---- 7, in the scaled way: the values, multiplied back by 2 ^ k. A 2x2 leaves +0 in the third place

abbrev pub values_of : Format → Kernel → Asked → List Float
values_of f Eigen2x2 a = padded f 3 2 (eigen2.solved2 f (first_of 3 a.nine)).values
values_of f Eigen3x3 a = padded f 3 3 (eigen3.ranked_of (eigen3.last_of f (first_of 6 a.nine))).values
values_of f Svd2x2 a = padded f 3 2 (svd2.factors2_of (svd2.sides2_of f (first_of 4 a.nine))).values
values_of f Svd3x3 a = padded f 3 3 (svd3.factors_of (svd3.last_of f (first_of 9 a.nine))).values
values_of f Factor2x2 a = []
values_of f Factor3x3 a = []
values_of f Solve2x2 a = []
values_of f Solve3x3 a = []
values_of f Unknown a = []

abbrev pub value_in : Format → List ℕ → ℕ → Float
value_in f s i = at (values_of f (kernel_numbered (kind_in s)) (divided_in f s)) i

abbrev pub back_in : Format → List ℕ → List Float
back_in f s = tabulate 3 (λ (i : ℕ). times_power f (power_in f s) (value_in f s i))

-- ---- the rows

abbrev pub pivots_in : Format → List ℕ → List Float
pivots_in f s = pivots_of f (kernel_numbered (kind_in s)) (given f s)

abbrev pub made_in : Format → List ℕ → List Float
made_in f s =
    pick (scaled_in s) (numbers_of f (kernel_numbered (kind_in s)) (divided_in f s) ++ back_in f s) (numbers_of f (kernel_numbered (kind_in s)) (given f s))

abbrev pub rows : Format → List ℕ → List ℕ → List Row
rows f request answer =
    -- the output slice has a wrong length
    on 2 (WrongLength answer (answer_length f))
    -- the input slice has a wrong length
    ∷ on 1 (WrongLength request (request_length f))
    -- the kind byte is the number of no kind
    ∷ on 3 (NoKind (kind_in request))
    -- the way is none of the kind's, or a reserved byte or an unused number is not all zero bits
    ∷ on 4 (NotAsItIsToBe f request)
    -- a used input number is NaN or infinite
    ∷ on 5 (NotFinite (used_in f request))
    -- a pivot is at most zero
    ∷ on 6 (AtMostZero f (pivots_in f request))
    -- a pivot is NaN
    ∷ on 9 (OneNan (pivots_in f request))
    -- a number of the answer, the worked matrix included, is NaN or infinite, or a value is when it is multiplied back
    ∷ on 7 (NotFinite (made_in f request))
    ∷ []
