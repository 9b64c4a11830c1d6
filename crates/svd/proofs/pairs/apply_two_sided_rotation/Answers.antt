-- Each return is one pair, and the call there answers for it.
use Rattle.float.proofs.Words.{refl}
use Rattle.jacobi.specs.declared.pairs.Pair.TheVariants.{P12, P13, P23}
use Rattle.svd.proofs.pairs.apply_two_sided_rotation.Goals as goal

pub returns-in-P12 : goal.returns-in-P12
returns-in-P12 c = rw c.in-P12.is (c.applied.ensures P12 refl refl refl)

pub returns-in-P13 : goal.returns-in-P13
returns-in-P13 c = rw c.in-P13.is (c.applied-in-P13.ensures P13 refl refl refl)

pub returns-in-P23 : goal.returns-in-P23
returns-in-P23 c = rw c.in-P23.is (c.applied-in-P23.ensures P23 refl refl refl)
