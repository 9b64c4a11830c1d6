-- A finite number's pattern is no NaN's.
use Rattle.float.proofs.Words.{arith}
use Rattle.float.specs.Width.{F}
use Rattle.float.proofs.Patterns.{no_nan_bits}
use Rattle.float.proofs.bits.of_number.Goals as goal

pub float_from_bits-result : goal.float_from_bits-result
float_from_bits-result c = no_nan_bits F c.args.b (omega arith)
