-- The calls without vectors: the same rotations and the same order, with nothing to carry along. Definitions only.
use Rattle.std.specs.Prelude.{Bool, false, not, List, ℕ, Float}
use Rattle.std.specs.Float.{Format}
use Rattle.float.specs.Judged.{judged_call}
use Rattle.matrix.specs.Places.{zeros}
use Rattle.matrix.specs.Symmetric.{Sym3, sym3}
use Rattle.jacobi.specs.Run.{run, nothing_made, one_more}
use Rattle.jacobi.specs.Blind.{marked, Watched, watched_run, sighted}
use Rattle.jacobi.specs.Order.{Ranked, ordered, ordered3, ascending}
use Rattle.jacobi.specs.declared.made.Made.{Made}
use Rattle.eigen.specs.Pairs.{blind_at}
use Rattle.eigen.specs.Eigen3x3.{settled_of, next_matrix, diagonal}
use Rattle.eigen.specs.Eigen2x2.{blind2_of, solved2}
use Rattle.eigen.specs.declared.eigen3x3.Working.{Working}
use Rattle.eigen.specs.declared.eigen3x3.EigVals3.{EigVals3}
use Rattle.eigen.specs.declared.eigen2x2.EigVals2.{EigVals2}

-- ---- 3x3: a working state, the packed matrix and what the run made

pub record BareState : Type 0 where
  pub matrix : List Float
  pub made : Made

-- and whether a rotation made so far was blind
abbrev pub of_bare : Working (Unit {0}) → Watched BareState
of_bare w = record { state = record { matrix = w.a.«data»; made = w.made }; blind = w.blind }

-- ---- one rotation, at most k, and the last state of a call's 25

unfoldable pub bare_step_of : Format → BareState → BareState
bare_step_of f s = record { matrix = next_matrix f s.matrix; made = one_more s.made }

unfoldable pub bare_run_of : Format → ℕ → BareState → BareState
bare_run_of f k s = run (bare_step_of f) (λ (s : BareState). settled_of f s.matrix) k s

abbrev pub bare_start_of : List Float → BareState
bare_start_of a = record { matrix = a; made = nothing_made }

abbrev pub bare_last_of : Format → List Float → BareState
bare_last_of f a = bare_run_of f 25 (bare_start_of a)

-- the same run, watched
unfoldable pub bare_watched_of : Format → ℕ → Watched BareState → Watched BareState
bare_watched_of f k w = watched_run (bare_step_of f) (λ (s : BareState). settled_of f s.matrix) (λ (s : BareState). blind_at f s.matrix) k w

abbrev pub bare_watched_last_of : Format → List Float → Watched BareState
bare_watched_last_of f a = bare_watched_of f 25 (sighted (bare_start_of a))

-- ---- values in order

-- values alone, with nothing to carry along
abbrev pub alone : List Float → Ranked (Unit {0})
alone v = record { values = v; carried = tt }

abbrev pub nothing_swapped : ℕ → ℕ → Unit {0} → Unit {0}
nothing_swapped i j u = u

abbrev pub ordered_values : ℕ → ℕ → List Float → List Float
ordered_values i j v = (ordered 3 ascending nothing_swapped i j (alone v)).values

abbrev pub sort3_of : List Float → List Float
sort3_of v = (ordered3 3 ascending nothing_swapped (alone v)).values

-- ---- the answer

pub record EigValsAnswer : Type 0 where
  pub code : ℕ
  pub made : Made
  pub settled : Bool
  pub values : List Float
  pub worked : Sym3

-- what a call hands out, with the code of one that is not refused
abbrev pub whole_eig_vals : EigVals3 → EigValsAnswer
whole_eig_vals x = record { code = 0; made = x.made; settled = x.settled; values = x.values; worked = x.worked }

abbrev pub refused_values : Format → ℕ → EigValsAnswer
refused_values f k = record { code = k; made = nothing_made; settled = false; values = zeros f 3; worked = sym3 (zeros f 6) }

abbrev pub values_of : Format → Watched BareState → EigValsAnswer
values_of f w = record {
  code = 0;
  made = w.state.made;
  settled = marked w.blind (settled_of f w.state.matrix);
  values = sort3_of (diagonal w.state.matrix);
  worked = sym3 w.state.matrix;
}

unfoldable pub bare_end_of : Format → List Float → Watched BareState → EigValsAnswer
bare_end_of f a w = judged_call (refused_values f) a w.state.matrix (values_of f w)

unfoldable pub eigvals_of : Format → List Float → EigValsAnswer
eigvals_of f a = bare_end_of f a (bare_watched_last_of f a)

-- ---- 2x2: the values and the mark of the call with vectors

pub record EigVals2Answer : Type 0 where
  pub code : ℕ
  pub settled : Bool
  pub values : List Float

abbrev pub whole_eig_vals2 : EigVals2 → EigVals2Answer
whole_eig_vals2 x = record { code = 0; settled = x.settled; values = x.values }

abbrev pub refused_values2 : Format → ℕ → EigVals2Answer
refused_values2 f k = record { code = k; settled = false; values = zeros f 2 }

abbrev pub values2_of : Bool → List Float → EigVals2Answer
values2_of blind values = record { code = 0; settled = not blind; values = values }

unfoldable pub values_end2_of : Format → List Float → Bool → List Float → EigVals2Answer
values_end2_of f a blind values = judged_call (refused_values2 f) a values (values2_of blind values)

unfoldable pub eigvals2_of : Format → List Float → EigVals2Answer
eigvals2_of f a = values_end2_of f a (blind2_of f a) (solved2 f a).values
