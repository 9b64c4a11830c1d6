-- A number less itself is 0, which is equal to itself. An infinity or a NaN less itself is a NaN, which is not.
use Rattle.float.specs.Width.{F}
use Rattle.float.proofs.Magnitude.{itself_off}
use Rattle.float.proofs.sign.is_finite.Goals as goal

pub returns : goal.returns
returns c = itself_off F c.args.x
