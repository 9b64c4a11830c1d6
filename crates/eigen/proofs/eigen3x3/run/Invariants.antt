-- The invariant: what is left of the run, from the state at hand, leaves what the whole run leaves.
use Rattle.float.proofs.Words.{◌≡◌, ◌-◌}
use Rattle.jacobi.specs.Run.{run}
use Rattle.eigen.specs.Eigen3x3.{carried_step, carried_done, run_carried}
use Rattle.eigen.proofs.eigen3x3.run.Given as goal

abbrev pub invariant-loop-count : goal.invariant-loop-count
invariant-loop-count g l = record {
  made : l.w.made.count ≡ l.count;
  leaves : run (carried_step g.V.Carried.turn) carried_done (25 - l.count) l.w ≡ run_carried g.V.Carried.turn l.fn.a l.fn.v;
}
