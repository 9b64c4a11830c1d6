-- The machine's bytes of the pattern take the place of as many.
use Rattle.float.proofs.Words.{◌≡◌, ◌∙◌, ◌-◌, ◌+◌, arith}
use Rattle.float.specs.Width.{F, W}
use Rattle.wire.specs.Bytes.{number_bytes}
use Rattle.wire.proofs.Words.{bytes_machine, bytes_length}
use Rattle.wire.proofs.Parts.{exchanged}
use Rattle.wire.proofs.bytes.put.Goals as goal

pub returns : goal.returns
returns c =
    let at = c.args.at in
    let size : (at + number_bytes F) - at ≡ number_bytes F = omega arith in
    let bytes = c.copy_from_slice.ensures.after ∙ c.to_le_bytes.ensures ∙ bytes_machine W c.to_bits.result in
    rw (size, bytes, c.to_bits.ensures) (exchanged at (number_bytes F) c.args.out.now _ (bytes_length (number_bytes F) _) c.requires)
