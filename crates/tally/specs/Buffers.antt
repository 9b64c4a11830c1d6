-- The program's buffer. Definitions only.
use Rattle.std.specs.Prelude.{ℕ, ◌*◌, ◌/◌}
use Rattle.std.specs.Float.{Format}
use Rattle.record.specs.Layout.{answer_size}

-- the bytes of as many answers as a large buffer of the kit's holds
abbrev pub room : Format → ℕ
room f = 65536 / answer_size f * answer_size f
