-- The watched run ends where the run does: watching changes no state. So an answer is that of the last state, with a mark that knows what was blind.
use Rattle.float.proofs.Words.{◌≡◌, ap, List, Float, Format}
use Rattle.jacobi.specs.Blind.{Watched, sighted}
use Rattle.jacobi.proofs.Watched.{watched_apart}
use Rattle.svd.specs.Pairs.{blind_at}
use Rattle.svd.specs.Svd3x3.{State, settled_of, step_of, run_of, start_of, last_of, watched_of, watched_last_of, end_of, svd_of}

module _ (f : Format) (a : List Float) where
  -- the last state, and whether a rotation was blind
  abbrev pub ended_of : Watched State
  ended_of = record { state = last_of f a; blind = (watched_last_of f a).blind }

  pub watched_ends : watched_last_of f a ≡ ended_of
  unfolding watched_of run_of
  watched_ends = watched_apart (step_of f) (λ (s : State). settled_of f s.matrix) (λ (s : State). blind_at f s.matrix) 25 (sighted (start_of f a))

  pub by_last : svd_of f a ≡ end_of f a ended_of
  unfolding svd_of
  by_last = ap (end_of f a) watched_ends
