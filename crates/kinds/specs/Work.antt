-- What each kind answers to its numbers as they are: the one place that hands numbers to a kernel and takes its values back. Definitions only.
use Rattle.std.specs.Prelude.{Bool, ◌&&◌, List, ℕ, eqb, ltb, Float}
use Rattle.std.specs.Float.{Format}
use Rattle.float.specs.Choice.{pick}
use Rattle.float.specs.Constants.{zero_f}
use Rattle.float.specs.Sign.{all_finite}
use Rattle.matrix.specs.Places.{zeros, at, tabulate}
use Rattle.jacobi.specs.Blind.{mark_of}
use Rattle.cholesky.specs.Factor.{FactorAnswer, factor2_of, factor3_of}
use Rattle.cholesky.specs.Solve.{SolvedAnswer, factor_and_solve2_of, factor_and_solve3_of}
use Rattle.eigen.specs.Eigen2x2.{Eigen2Answer, eigen2_of}
use Rattle.eigen.specs.Eigen3x3.{EigenAnswer, eigen_of}
use Rattle.svd.specs.Svd2x2.{Svd2Answer, svd2_of}
use Rattle.svd.specs.Svd3x3.{SvdAnswer, svd_of}
use Rattle.kinds.specs.Table.{Kernel, Eigen2x2, Eigen3x3, Svd2x2, Svd3x3, Factor2x2, Factor3x3, Solve2x2, Solve3x3, Unknown, kind_numbered}

-- what a request asks: its kind, its way, and its numbers
pub record Asked : Type 0 where
  pub kind : ℕ
  pub way : ℕ
  pub nine : List Float
  pub three : List Float

-- a kernel's answer as a record has it: three values, nine numbers left and nine right, with code, count and mark
pub record WorkedAnswer : Type 0 where
  pub code : ℕ
  pub count : ℕ
  pub settled : ℕ
  pub values : List Float
  pub left : List Float
  pub right : List Float

-- ---- numbers in and out

-- the first k of the numbers
abbrev pub first_of : ℕ → List Float → List Float
first_of k xs = tabulate k (at xs)

-- the first k of the numbers in n places, and +0 in the others
abbrev pub padded : Format → ℕ → ℕ → List Float → List Float
padded f n k xs = tabulate n (λ (i : ℕ). pick (ltb i k) (at xs i) (zero_f f))

-- the mark of a kind that makes no rotation: 1 with code 0
abbrev pub done_mark : ℕ → ℕ
done_mark code = mark_of (eqb code 0)

-- refused: only the code and a pivot's number
abbrev pub refused_kind : Format → ℕ → ℕ → WorkedAnswer
refused_kind f code pivot = record { code = code; count = pivot; settled = 0; values = zeros f 3; left = zeros f 9; right = zeros f 9 }

-- ---- from the kernels' answers

abbrev pub from_eigen2 : Format → Eigen2Answer → WorkedAnswer
from_eigen2 f r = record {
  code = r.code;
  count = 0;
  settled = mark_of r.settled;
  values = padded f 3 2 r.values;
  left = padded f 9 4 r.vectors.«data»;
  right = zeros f 9;
}

abbrev pub from_eigen3 : Format → EigenAnswer → WorkedAnswer
from_eigen3 f r = record {
  code = r.code;
  count = r.made.count;
  settled = mark_of r.settled;
  values = padded f 3 3 r.values;
  left = padded f 9 9 r.vectors.«data»;
  right = zeros f 9;
}

abbrev pub from_svd2 : Format → Svd2Answer → WorkedAnswer
from_svd2 f r = record {
  code = r.code;
  count = 0;
  settled = mark_of r.settled;
  values = padded f 3 2 r.values;
  left = padded f 9 4 r.u.«data»;
  right = padded f 9 4 r.v.«data»;
}

abbrev pub from_svd3 : Format → SvdAnswer → WorkedAnswer
from_svd3 f r = record {
  code = r.code;
  count = r.made.count;
  settled = mark_of r.settled;
  values = padded f 3 3 r.values;
  left = padded f 9 9 r.u.«data»;
  right = padded f 9 9 r.v.«data»;
}

-- a factor of s numbers; on refusal its early writes are no answer
abbrev pub whole_factor : Format → List Float → WorkedAnswer
whole_factor f left = record { code = 0; count = 0; settled = 1; values = zeros f 3; left = left; right = zeros f 9 }

unfoldable pub from_factor : Format → ℕ → FactorAnswer → WorkedAnswer
from_factor f s r = pick (eqb r.code 0) (whole_factor f (padded f 9 s r.factor)) (refused_kind f r.code r.pivot)

-- a factor of s numbers and a solution of n
abbrev pub from_solved : Format → ℕ → ℕ → SolvedAnswer → WorkedAnswer
from_solved f s n r = record {
  code = r.code;
  count = r.pivot;
  settled = done_mark r.code;
  values = padded f 3 n r.solution;
  left = padded f 9 s r.factor;
  right = zeros f 9;
}

-- ---- whether the numbers that its kind uses are finite

abbrev pub used_finite : Asked → Bool
used_finite a = all_finite (first_of (kind_numbered a.kind).nine a.nine) && all_finite (first_of (kind_numbered a.kind).three a.three)

-- ---- each kernel, and the kinds

-- 3 where there is no kernel
unfoldable pub answered_by : Format → Kernel → Asked → WorkedAnswer
answered_by f Eigen2x2 a = from_eigen2 f (eigen2_of f (first_of 3 a.nine))
answered_by f Eigen3x3 a = from_eigen3 f (eigen_of f (first_of 6 a.nine))
answered_by f Svd2x2 a = from_svd2 f (svd2_of f (first_of 4 a.nine))
answered_by f Svd3x3 a = from_svd3 f (svd_of f (first_of 9 a.nine))
answered_by f Factor2x2 a = from_factor f 3 (factor2_of f (zeros f 3) (first_of 3 a.nine))
answered_by f Factor3x3 a = from_factor f 6 (factor3_of f (zeros f 6) (first_of 6 a.nine))
answered_by f Solve2x2 a = from_solved f 3 2 (factor_and_solve2_of f (first_of 3 a.nine) (first_of 2 a.three))
answered_by f Solve3x3 a = from_solved f 6 3 (factor_and_solve3_of f (first_of 6 a.nine) (first_of 3 a.three))
answered_by f Unknown a = refused_kind f 3 0

abbrev pub plain_of : Format → Asked → WorkedAnswer
plain_of f a = answered_by f (kind_numbered a.kind).kernel a
