-- A number of the matrix's own bytes is the one that stands there in all of them.
use Rattle.float.proofs.Words.{ap, ◌∙◌, arith}
use Rattle.matrix.specs.Square.{mat3}
use Rattle.float.specs.Width.{F}
use Rattle.wire.proofs.Numbers.{numbers_in}
use Rattle.row.proofs.bytes.mat3_at.Goals as goal

pub returns : goal.returns
returns c = c.mat3_in.ensures ∙ ap mat3 (numbers_in F 9 c.args.at _ c.args.s.now (omega arith))
