-- What is behind the last byte is zero in the word, too.
use Rattle.float.proofs.Words.{◌≡◌, ap, ◌∙◌, ℕ, ◌-◌, ◌≤◌, arith, length, length-take, length-drop, of_bits}
use Rattle.std.proofs.lemmas.List.{drop-replicate}
use Rattle.float.specs.Width.{F}
use Rattle.wire.specs.Bytes.{number_bytes, part}
use Rattle.wire.proofs.Parts.{part_short}
use Rattle.wire.proofs.Words.{word_padded}
use Rattle.wire.proofs.bytes.number_at.Goals as goal

pub returns : goal.returns
returns c =
    let at = c.args.at in
    let s = c.args.s.now in
    let few : length s - at ≤ number_bytes F = omega (arith, c.in_default.ensures.cases, length-take {A = ℕ}, length-drop {A = ℕ}) in
    let short : c.copy_from_slice.new.self ≡ part at (number_bytes F) s =
    c.copy_from_slice.ensures.after ∙ (rw c.min.ensures (part_short at (number_bytes F) s few)) in
    rw (c.of_bits-2.ensures, c.word-2.ensures, short, drop-replicate {X = ℕ})
    (ap (λ (n : ℕ). of_bits F n) (word_padded (part at (number_bytes F) s) _))
