-- An answer whose numbers are all finite. Definitions only.
use Rattle.std.specs.Prelude.{◌≡◌, true}
use Rattle.float.specs.Sign.{all_finite}
use Rattle.kinds.specs.Work.{WorkedAnswer}

abbrev pub Vouched : WorkedAnswer → Type 0
Vouched w = (all_finite w.values ≡ true) × (all_finite w.left ≡ true) × (all_finite w.right ≡ true)
