-- The width of the numbers: their format, and the machine's word that holds a pattern or an exponent. Definitions only.
use Rattle.std.specs.Float.{Format, binary64}
use Rattle.std.specs.Int.{Width, w64}

abbrev pub F : Format
F = binary64

abbrev pub W : Width
W = w64
