-- A power in reach is held by the machine.
use Rattle.float.proofs.Words.{lt_of_le_of_lt, lit<, rules}
use mir.ValLaws.{to_z-of_z}
use Rattle.float.specs.Width.{F, W}
use Rattle.float.proofs.Reach.{reach_size}
use Rattle.kinds.proofs.ways.power_for.Goals as goal

pub returns-then-eq-clause-value : goal.returns-then-eq-clause-value
returns-then-eq-clause-value c =
    let k = c.power_of_first.result in
    let p = c.power_of_first.ensures in
    rw (to_z-of_z W k (record { sfits = lt_of_le_of_lt (reach_size F k p.reach) (lit< tt) }), p.is) (search rules)
