-- A pattern from the sign's weight on has it set, and a NaN's written pattern has not.
use Rattle.float.proofs.Words.{sym, ap, ◌∙◌, leb, top}
use denote.Floats.{passes}
use Rattle.float.specs.Width.{F}
use Rattle.float.proofs.Patterns.{sign_written}
use Rattle.float.proofs.sign.sign_bit.Goals as goal

pub returns : goal.returns
returns c = ap (leb (top F)) c.to_bits.ensures ∙ sym (sign_written F c.args.x (passes _ c.well_formed.0.1))
