-- The program's buffers. Definitions only.
use Rattle.std.specs.Prelude.{ℕ, ◌*◌, ◌/◌}
use Rattle.std.specs.Float.{Format}
use Rattle.record.specs.Layout.{request_size, answer_size}

-- as many answers as a large buffer of the kit's holds, and the bytes of their requests
abbrev pub batch : Format → ℕ
batch f = 65536 / answer_size f

abbrev pub room : Format → ℕ
room f = batch f * request_size f
