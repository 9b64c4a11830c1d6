-- Each return is one pair, and the call there answers for it.
use Rattle.eigen.proofs.order.exchanged.Goals as goal

pub returns-in-P12 : goal.returns-in-P12
returns-in-P12 c = rw c.in-P12.is c.swap12.ensures

pub returns-in-P13 : goal.returns-in-P13
returns-in-P13 c = rw c.in-P13.is c.swap13.ensures

pub returns-in-P23 : goal.returns-in-P23
returns-in-P23 c = rw c.in-P23.is c.swap23.ensures
