-- Bytes taken together bit by bit have no bit exactly where all are zero.
use Rattle.float.proofs.Words.{ap, ◌∙◌, ℕ, ◌-◌, eqb, rules}
use lib.Bits.{bit_or}
use Rattle.std.proofs.lemmas.Iterator.{YieldsList-from_slice}
use Rattle.std.proofs.lemmas.Iterator.Consumers.{fold_from_yields_List}
use Rattle.wire.specs.Bytes.{part}
use Rattle.wire.proofs.Zeros.{no_bit, zero_within}
use Rattle.wire.proofs.bytes.zeros_in.Goals as goal

pub returns : goal.returns
returns c =
    let a = c.args in
    let end = c.min-end.result in
    let bytes = part c.min.result (end - c.min.result) a.s.now in
    let all = fold_from_yields_List _ bit_or 0 c.fold.result c.fold.ensures.ran (YieldsList-from_slice bytes c.iter.ensures.rest) (λ a x b q k. search rules) in
    ap (λ (n : ℕ). eqb n 0) all ∙ no_bit bytes 0 ∙ (rw (c.min.ensures, c.min-end.ensures) (zero_within a.s.now a.a a.e))
