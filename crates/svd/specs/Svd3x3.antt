-- The 3x3 call: states, the run of at most 25 two-sided rotations, and the answer. Definitions only.
use Rattle.std.specs.Prelude.{Bool, false, List, ◌++◌, ℕ, Float}
use Rattle.std.specs.Float.{Format}
use Rattle.std.specs.Float.Ieee.{lt}
use Rattle.float.specs.Constants.{limit_f}
use Rattle.float.specs.Judged.{judged_call}
use Rattle.matrix.specs.Places.{zeros}
use Rattle.matrix.specs.Square.{mat3, identity_of, Mat3}
use Rattle.jacobi.specs.Pairs.{turned_of}
use Rattle.jacobi.specs.Run.{run, nothing_made, one_more}
use Rattle.jacobi.specs.Blind.{marked, Watched, watched_step, watched_run, sighted}
use Rattle.jacobi.specs.declared.made.Made.{Made}
use Rattle.svd.specs.Pairs.{entry, off_diag_of, pair_of, chosen_of, blind_at, applied_of}
use Rattle.svd.specs.Order.{Factors, order_of}
use Rattle.svd.specs.declared.svd3x3.Working.{Working}
use Rattle.svd.specs.declared.svd3x3.Svd3.{Svd3}

-- ---- a working state: the matrix, U and V by columns, what the run made

pub record State : Type 0 where
  pub matrix : List Float
  pub u : List Float
  pub v : List Float
  pub made : Made

-- and whether a rotation made so far was blind
abbrev pub working : Watched State → Working
working w = let s = w.state in record { a = mat3 s.matrix; u = mat3 s.u; v = mat3 s.v; made = s.made; blind = w.blind }

abbrev pub of_working : Working → Watched State
of_working w = record { state = record { matrix = w.a.«data»; u = w.u.«data»; v = w.v.«data»; made = w.made }; blind = w.blind }

-- ---- the test: the largest sum of two magnitudes is strictly under the limit

unfoldable pub settled_of : Format → List Float → Bool
settled_of f a = lt (off_diag_of f a).size (limit_f f)

-- ---- one rotation, of the largest pair

unfoldable pub step_of : Format → State → State
step_of f s = record {
  matrix = applied_of f (pair_of f s.matrix) (chosen_of f s.matrix) s.matrix;
  u = turned_of f (pair_of f s.matrix) (chosen_of f s.matrix).cl (chosen_of f s.matrix).sl s.u;
  v = turned_of f (pair_of f s.matrix) (chosen_of f s.matrix).cr (chosen_of f s.matrix).sr s.v;
  made = one_more s.made;
}

-- ---- at most k rotations, and the last state of a call's 25

unfoldable pub run_of : Format → ℕ → State → State
run_of f k s = run (step_of f) (λ (s : State). settled_of f s.matrix) k s

abbrev pub start_of : Format → List Float → State
start_of f a = record { matrix = a; u = identity_of f 3; v = identity_of f 3; made = nothing_made }

abbrev pub last_of : Format → List Float → State
last_of f a = run_of f 25 (start_of f a)

-- the same step and the same run, watched
abbrev pub watched_step_of : Format → Watched State → Watched State
watched_step_of f = watched_step (step_of f) (λ (s : State). settled_of f s.matrix) (λ (s : State). blind_at f s.matrix)

unfoldable pub watched_of : Format → ℕ → Watched State → Watched State
watched_of f k w = watched_run (step_of f) (λ (s : State). settled_of f s.matrix) (λ (s : State). blind_at f s.matrix) k w

abbrev pub watched_last_of : Format → List Float → Watched State
watched_last_of f a = watched_of f 25 (sighted (start_of f a))

-- ---- the answer

-- of a call, with its code
pub record SvdAnswer : Type 0 where
  pub code : ℕ
  pub made : Made
  pub settled : Bool
  pub values : List Float
  pub u : Mat3
  pub v : Mat3
  pub worked : Mat3

-- what a call that is not refused hands out
abbrev pub whole_svd : Svd3 → SvdAnswer
whole_svd x = record { code = 0; made = x.made; settled = x.settled; values = x.values; u = x.u; v = x.v; worked = x.worked }

-- refused: all numbers +0, no rotation, not settled
abbrev pub refused_svd : Format → ℕ → SvdAnswer
refused_svd f k = record {
  code = k;
  made = nothing_made;
  settled = false;
  values = zeros f 3;
  u = mat3 (zeros f 9);
  v = mat3 (zeros f 9);
  worked = mat3 (zeros f 9);
}

unfoldable pub factors_of : State → Factors
factors_of s = order_of (entry s.matrix 0 0) (entry s.matrix 1 1) (entry s.matrix 2 2) s.u s.v

-- the numbers worked out: the matrix, U and V. The values are magnitudes of numbers of the matrix.
abbrev pub numbers_of : State → List Float
numbers_of s = s.matrix ++ ((factors_of s).carried.u ++ (factors_of s).carried.v)

abbrev pub answer_of : Format → Watched State → SvdAnswer
answer_of f w = record {
  code = 0;
  made = w.state.made;
  settled = marked w.blind (settled_of f w.state.matrix);
  values = (factors_of w.state).values;
  u = mat3 (factors_of w.state).carried.u;
  v = mat3 (factors_of w.state).carried.v;
  worked = mat3 w.state.matrix;
}

-- the answer to a, whose run ended in w
unfoldable pub end_of : Format → List Float → Watched State → SvdAnswer
end_of f a w = judged_call (refused_svd f) a (numbers_of w.state) (answer_of f w)

unfoldable pub svd_of : Format → List Float → SvdAnswer
svd_of f a = end_of f a (watched_last_of f a)
