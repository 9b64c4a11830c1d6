-- What is written is the matrix of the definition, for the pair with these indices.
use Rattle.float.proofs.Words.{ap, rules}
use Rattle.float.specs.Width.{F}
use Rattle.matrix.specs.Square.{mat3}
use Rattle.svd.proofs.Applied.{all_written}
use Rattle.svd.proofs.pairs.applied.Goals as goal

pub returns : goal.returns
returns g c x p q k = let a = c.args in rw (← p, ← q, ← k) (ap mat3 (all_written F a.r x a.a.«data» (search rules)))
