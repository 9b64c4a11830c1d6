-- The bytes of the word that the machine makes of eight are the eight.
use Rattle.float.proofs.Words.{sym, ap, ◌∙◌, rules}
use Rattle.std.proofs.lemmas.Nat.{le_bytes_8}
use Rattle.float.specs.Width.{F, W}
use Rattle.wire.specs.Bytes.{number_bytes, word_of}
use Rattle.wire.proofs.Words.{bytes_machine, word_of_bytes}
use Rattle.wire.proofs.bytes.word.Goals as goal

pub returns : goal.returns
returns c =
    let n = c.from_le_bytes.result in
    let back = le_bytes_8 c.args.bytes n (search rules) (search rules) c.from_le_bytes.ensures in
    sym (word_of_bytes (number_bytes F) n (search rules)) ∙ ap word_of (sym (bytes_machine W n) ∙ back)
