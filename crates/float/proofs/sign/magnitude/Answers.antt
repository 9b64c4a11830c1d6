-- What is at most 0 is taken off 0, which negates it exactly; any other float has no sign, or is a NaN.
use denote.Floats.{passes}
use Rattle.float.specs.Width.{F}
use Rattle.float.proofs.Magnitude.{magnitude_low, magnitude_high}
use Rattle.float.proofs.sign.magnitude.Goals as goal

pub returns-then-x : goal.returns-then-x
returns-then-x c = magnitude_low F c.args.x (passes _ c.well_formed.0.1) c.if-x.true

pub returns-else-x : goal.returns-else-x
returns-else-x c = magnitude_high F c.args.x c.if-x.false
