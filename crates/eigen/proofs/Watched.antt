-- The watched runs end where the runs do: watching changes no state. So an answer is that of the last state, with a mark that knows what was blind.
use Rattle.float.proofs.Words.{◌≡◌, ap, List, Float, Format}
use Rattle.jacobi.specs.Blind.{Watched, sighted}
use Rattle.jacobi.proofs.Watched.{watched_apart}
use Rattle.eigen.specs.Pairs.{blind_at}
use Rattle.eigen.specs.Eigen3x3.{State, settled_of, step_of, run_of, start_of, last_of, watched_of, watched_last_of, end_of, eigen_of}
use Rattle.eigen.specs.EigVals.{BareState, bare_step_of, bare_run_of, bare_start_of, bare_last_of, bare_watched_of, bare_watched_last_of, bare_end_of}
use Rattle.eigen.specs.EigVals.{eigvals_of}

module _ (f : Format) (a : List Float) where
  -- the last state, and whether a rotation was blind
  abbrev pub ended_of : Watched State
  ended_of = record { state = last_of f a; blind = (watched_last_of f a).blind }

  abbrev pub bare_ended_of : Watched BareState
  bare_ended_of = record { state = bare_last_of f a; blind = (bare_watched_last_of f a).blind }

  pub watched_ends : watched_last_of f a ≡ ended_of
  unfolding watched_of run_of
  watched_ends = watched_apart (step_of f) (λ (s : State). settled_of f s.matrix) (λ (s : State). blind_at f s.matrix) 25 (sighted (start_of f a))

  bare_watched_ends : bare_watched_last_of f a ≡ bare_ended_of
  unfolding bare_watched_of bare_run_of
  bare_watched_ends =
      watched_apart (bare_step_of f) (λ (s : BareState). settled_of f s.matrix) (λ (s : BareState). blind_at f s.matrix) 25 (sighted (bare_start_of a))

  pub by_last : eigen_of f a ≡ end_of f a ended_of
  unfolding eigen_of
  by_last = ap (end_of f a) watched_ends

  pub by_bare_last : eigvals_of f a ≡ bare_end_of f a bare_ended_of
  unfolding eigvals_of
  by_bare_last = ap (bare_end_of f a) bare_watched_ends
