-- The form on patterns, between a writing and a reading of the bits.
use denote.Floats.{passes}
use Rattle.float.specs.Width.{F}
use Rattle.float.specs.Sign.{signum_of}
use Rattle.float.proofs.Patterns.{through_bits, signum_fits}
use Rattle.float.proofs.sign.signum.Goals as goal

pub returns : goal.returns
returns c = rw (c.of_bits.ensures, c.signum_bits.ensures, c.to_bits.ensures)
    (through_bits F signum_of c.args.x (passes _ c.well_formed.0.1) (signum_fits F c.args.x))
