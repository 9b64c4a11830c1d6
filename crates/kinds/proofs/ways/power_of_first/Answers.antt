-- The largest pattern is that of the largest magnitude, since the numbers of an array are values of the format; and the power under it is in reach, so that
-- the machine holds it.
use Rattle.float.proofs.Words.{lt_of_le_of_lt, lit<}
use mir.ValLaws.{to_z-of_z}
use Rattle.float.specs.Width.{F, W}
use Rattle.float.proofs.Owned.{array_fits}
use Rattle.float.proofs.PatternOrder.{largest_pattern_lem}
use Rattle.float.proofs.Reach.{reach_size}
use Rattle.matrix.specs.Places.{at}
use Rattle.matrix.proofs.Tables.{length-tabulate, at-tabulate}
use Rattle.kinds.specs.Work.{first_of}
use Rattle.kinds.proofs.ways.power_of_first.Goals as goal

pub returns : goal.returns
returns c =
    let x = c.args.x in
    let n = c.args.n in
    let k = c.power_under.result in
    let p = c.power_under.ensures in
    rw (
      to_z-of_z W k (record { sfits = lt_of_le_of_lt (reach_size F k p.reach) (lit< tt) }),
      ← largest_pattern_lem
          F
          (first_of n x)
          (λ i h. rw (at-tabulate n (at x) i (rw (length-tabulate n (at x)) at h)) (array_fits F 9 x _ c.well_formed.0 i)),
      ← c.largest_first.ensures,
    )
    p
