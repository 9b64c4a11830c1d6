-- The test sends exactly the NaN patterns away, and the language's own reading is defined on the rest.
use Rattle.float.proofs.Words.{sym, ◌∙◌}
use Rattle.float.specs.Width.{F}
use Rattle.float.proofs.Patterns.{above_infinity, no_nan_bits}
use Rattle.float.proofs.bits.of_bits.Goals as goal

pub returns-then-b-gt-INFINITY : goal.returns-then-b-gt-INFINITY
returns-then-b-gt-INFINITY c = c.not_a_number.ensures ∙ sym (above_infinity F c.args.b c.if-b-gt-INFINITY.true)

pub float_from_bits-result : goal.float_from_bits-result
float_from_bits-result c = no_nan_bits F c.args.b c.if-b-gt-INFINITY.false
