-- Where the values stand in order, nothing moves.
use Rattle.jacobi.specs.Order.{ordered}
use Rattle.eigen.proofs.order.ranked.Goals as goal

pub returns-else-w-p : goal.returns-else-w-p
unfolding ordered
returns-else-w-p c = let i = c.indices-p.ensures.is in rw (rw i at c.if-w-p.false)
