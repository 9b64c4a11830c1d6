-- What is left of the run stays what the whole run leaves: a round makes one step of it, and a settled matrix or 25 rotations end it.
use Rattle.float.proofs.Words.{◌≡◌, refl, ap, ◌∙◌, Bool, arith, lt}
use Rattle.float.specs.Width.{F}
use Rattle.float.specs.Constants.{limit_f}
use Rattle.jacobi.specs.Blind.{Watched}
use Rattle.jacobi.specs.declared.pairs.OffDiag.{OffDiag}
use Rattle.jacobi.proofs.Run.{leaves, goes_once, used_up}
use Rattle.svd.specs.Pairs.{off_diag_of}
use Rattle.svd.specs.Svd3x3.{State, working, of_working, settled_of, step_of, watched_step_of, watched_of}
use Rattle.svd.specs.declared.svd3x3.Working.{Working}
use Rattle.svd.proofs.svd3x3.work.Goals as goal

abbrev done : Watched State → Bool
done w = settled_of F w.state.matrix

-- t is what was answered of the limit
tested : (w : Working) {largest : OffDiag} {t : Bool} → largest ≡ off_diag_of F w.a.«data» → t ≡ lt largest.size (limit_f F) → done (of_working w) ≡ t
unfolding settled_of
tested w is e = simp (e, is)

pub loop-round-preserved : goal.loop-round-preserved
unfolding watched_of step_of
loop-round-preserved c =
    let l = c.loop-round in
    let h = tested l.w c.find_largest_off_diag_nonsym-largest.ensures c.under_limit.ensures ∙ c.if-under_limit.false in
    rw c.rotated-w.ensures
    (record {
      counted = rw l.invariant.counted refl;
      left = goes_once (watched_step_of F) done 25 l._round (of_working l.w) (omega arith) h l.invariant.left;
    })

pub returns-after-loop-round : goal.returns-after-loop-round
unfolding watched_of
returns-after-loop-round c =
    let l = c.loop-round in ap working (used_up (watched_step_of F) done 25 l._round (of_working l.w) (omega arith) l.invariant.left)

pub returns-then-under_limit : goal.returns-then-under_limit
unfolding watched_of
returns-then-under_limit c =
    let l = c.loop-round in
    let h = tested l.w c.find_largest_off_diag_nonsym-largest.ensures c.under_limit.ensures ∙ c.if-under_limit.true in
    ap working (leaves (watched_step_of F) done 25 l._round (of_working l.w) h l.invariant.left)
