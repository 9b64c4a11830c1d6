-- A round makes the definition's test and step, so what the run from the next state leaves is what the whole run leaves.
use Rattle.float.proofs.Words.{refl, sym, ap, ◌∙◌, ◌+◌, ◌-◌, arith}
use Rattle.float.specs.Width.{F}
use Rattle.jacobi.specs.Run.{run}
use Rattle.jacobi.proofs.Run.{leaves, goes_once, used_up}
use Rattle.eigen.specs.Eigen3x3.{carried_step, carried_done, run_carried}
use Rattle.eigen.proofs.Rounds.{tested, next_carried}
use Rattle.eigen.proofs.eigen3x3.run.Goals as goal

pub loop-count-init : goal.loop-count-init
unfolding run_carried
loop-count-init g c = record { made = refl; leaves = refl }

pub returns-then-under_limit : goal.returns-then-under_limit
returns-then-under_limit g c =
    leaves (carried_step g.V.Carried.turn) carried_done 25 _ _
    (sym (tested F _ c.find_largest_off_diag-largest.ensures c.under_limit.ensures) ∙ c.if-under_limit.true)
    c.loop-count.invariant.leaves

pub loop-count-preserved : goal.loop-count-preserved
loop-count-preserved g c =
    let turn = g.V.Carried.turn in
    let l = c.loop-count in
    let o = c.find_largest_off_diag-largest.ensures in
    let h = sym (tested F l.w.a.«data» o c.under_limit.ensures) ∙ c.if-under_limit.false in record {
      made = refl;
      leaves =
          ap (run (carried_step turn) carried_done (25 - (l.count + 1)))
          (rw (← l.invariant.made) (next_carried turn l.w o c.rotate_pair-t.ensures c.turned.ensures))
          ∙ goes_once (carried_step turn) carried_done 25 l.count l.w (omega arith) h l.invariant.leaves;
    }

pub returns : goal.returns
returns g c = let l = c.loop-count in used_up (carried_step g.V.Carried.turn) carried_done 25 l.count _ (omega arith) l.invariant.leaves
