-- The 3x3 call: states, the run of at most 25 rotations, and the answer. Definitions only.
use Rattle.std.specs.Prelude.{Bool, false, ◌||◌, List, [], ◌∷◌, ◌++◌, ℕ, Float}
use Rattle.std.specs.Float.{Format}
use Rattle.std.specs.Float.Ieee.{lt}
use Rattle.float.specs.Width.{F}
use Rattle.float.specs.Constants.{limit_f}
use Rattle.float.specs.Judged.{judged_call}
use Rattle.matrix.specs.Places.{zeros}
use Rattle.matrix.specs.Square.{Mat3, mat3, identity_of, exchange_of}
use Rattle.matrix.specs.Symmetric.{Sym3, sym3}
use Rattle.jacobi.specs.Pairs.{turned_of}
use Rattle.jacobi.specs.Run.{run, nothing_made, one_more}
use Rattle.jacobi.specs.Blind.{marked, Watched, watched_run, sighted}
use Rattle.jacobi.specs.Order.{Ranked, ordered3, ascending}
use Rattle.jacobi.specs.declared.made.Made.{Made}
use Rattle.jacobi.specs.declared.pairs.Pair.{Pair}
use Rattle.jacobi.specs.declared.rotation.Rotation.{Rotation}
use Rattle.eigen.specs.Pairs.{entry, off_diag_of, pair_of, chosen_of, blind_at, applied_of}
use Rattle.eigen.specs.declared.order.Sorted.{Sorted}
use Rattle.eigen.specs.declared.eigen3x3.Working.{Working}
use Rattle.eigen.specs.declared.eigen3x3.Eigen3.{Eigen3}

-- ---- a working state: the packed matrix, the vectors by columns, what the run made

pub record State : Type 0 where
  pub matrix : List Float
  pub vectors : List Float
  pub made : Made

-- and whether a rotation made so far was blind
abbrev pub of_working : Working Mat3 → Watched State
of_working w = record { state = record { matrix = w.a.«data»; vectors = w.v.«data»; made = w.made }; blind = w.blind }

-- ---- the test: the largest magnitude beside the diagonal is strictly under the limit

unfoldable pub settled_of : Format → List Float → Bool
settled_of f a = lt (off_diag_of a).size (limit_f f)

-- ---- one rotation, of the largest pair

unfoldable pub next_matrix : Format → List Float → List Float
next_matrix f a = applied_of f (pair_of a) (chosen_of f a) a

unfoldable pub next_vectors : Format → List Float → List Float → List Float
next_vectors f a v = turned_of f (pair_of a) (chosen_of f a).c (chosen_of f a).s v

unfoldable pub step_of : Format → State → State
step_of f s = record { matrix = next_matrix f s.matrix; vectors = next_vectors f s.matrix s.vectors; made = one_more s.made }

-- ---- at most k rotations, and the last state of a call's 25

unfoldable pub run_of : Format → ℕ → State → State
run_of f k s = run (step_of f) (λ (s : State). settled_of f s.matrix) k s

abbrev pub start_of : Format → List Float → State
start_of f a = record { matrix = a; vectors = identity_of f 3; made = nothing_made }

abbrev pub last_of : Format → List Float → State
last_of f a = run_of f 25 (start_of f a)

-- the same run, watched
unfoldable pub watched_of : Format → ℕ → Watched State → Watched State
watched_of f k w = watched_run (step_of f) (λ (s : State). settled_of f s.matrix) (λ (s : State). blind_at f s.matrix) k w

abbrev pub watched_last_of : Format → List Float → Watched State
watched_last_of f a = watched_of f 25 (sighted (start_of f a))

-- ---- the run as the source has it, with anything carried along: `turn` says what a rotation of a pair makes of that

abbrev pub carried_step : {V : Type 0} → (Pair → Rotation → V → V) → Working V → Working V
carried_step turn w =
    let a = w.a.«data» in record {
      a = sym3 (next_matrix F a);
      v = turn (pair_of a) (chosen_of F a) w.v;
      made = one_more w.made;
      blind = w.blind || blind_at F a;
    }

abbrev pub carried_done : {V : Type 0} → Working V → Bool
carried_done w = settled_of F w.a.«data»

unfoldable pub run_carried : {V : Type 0} → (Pair → Rotation → V → V) → Sym3 → V → Working V
run_carried turn a v = run (carried_step turn) carried_done 25 (record { a = a; v = v; made = nothing_made; blind = false })

-- ---- the diagonal in order, with its columns

abbrev pub diagonal : List Float → List Float
diagonal a = entry a 0 0 ∷ entry a 1 1 ∷ entry a 2 2 ∷ []

abbrev pub sorted : Ranked (List Float) → Sorted
sorted w = record { values = w.values; columns = mat3 w.carried }

abbrev pub ranked : Sorted → Ranked (List Float)
ranked w = record { values = w.values; carried = w.columns.«data» }

abbrev pub rank_of : Ranked (List Float) → Ranked (List Float)
rank_of = ordered3 3 ascending (exchange_of 3)

unfoldable pub ranked_of : State → Ranked (List Float)
ranked_of s = rank_of (record { values = diagonal s.matrix; carried = s.vectors })

-- ---- the answer

pub record EigenAnswer : Type 0 where
  pub code : ℕ
  pub made : Made
  pub settled : Bool
  pub values : List Float
  pub vectors : Mat3
  pub worked : Sym3

-- what a call hands out, with the code of one that is not refused
abbrev pub whole_eigen : Eigen3 → EigenAnswer
whole_eigen x = record { code = 0; made = x.made; settled = x.settled; values = x.values; vectors = x.vectors; worked = x.worked }

-- refused: all numbers +0, no rotation, not settled
abbrev pub refused_eigen : Format → ℕ → EigenAnswer
refused_eigen f k = record { code = k; made = nothing_made; settled = false; values = zeros f 3; vectors = mat3 (zeros f 9); worked = sym3 (zeros f 6) }

-- the numbers worked out: the matrix and the vectors in order. The values are numbers of the matrix.
abbrev pub numbers_of : State → List Float
numbers_of s = s.matrix ++ (ranked_of s).carried

abbrev pub answer_of : Format → Watched State → EigenAnswer
answer_of f w = record {
  code = 0;
  made = w.state.made;
  settled = marked w.blind (settled_of f w.state.matrix);
  values = (ranked_of w.state).values;
  vectors = mat3 (ranked_of w.state).carried;
  worked = sym3 w.state.matrix;
}

-- the answer to a, whose run ended in w
unfoldable pub end_of : Format → List Float → Watched State → EigenAnswer
end_of f a w = judged_call (refused_eigen f) a (numbers_of w.state) (answer_of f w)

unfoldable pub eigen_of : Format → List Float → EigenAnswer
eigen_of f a = end_of f a (watched_last_of f a)
