-- The numbers stand in front of the zeros that are left.
use Rattle.float.proofs.Words.{rules}
use Rattle.float.specs.Width.{F}
use Rattle.kinds.proofs.Padding.{laid}
use Rattle.kinds.proofs.work.padded.Goals as goal

pub returns : goal.returns
returns g c = rw c.copy_from_slice.ensures.after (laid F g.row.N g.row.K c.args.x (search rules) c.requires)
