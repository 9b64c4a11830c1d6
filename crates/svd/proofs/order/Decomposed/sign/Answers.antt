-- A column below the size is there to be flipped.
use Rattle.float.proofs.Words.{◌≡◌, refl, sym, ◌∙◌, true, false, set, lt-ltb}
use Rattle.float.specs.Sign.{magnitude_of, sign_bit_of}
use Rattle.matrix.specs.Indexed.{flip_column_of}
use Rattle.matrix.specs.Places.{at}
use Rattle.matrix.specs.Square.{negate_of}
use Rattle.svd.specs.Order.{signed_column}
use Rattle.svd.proofs.Placed.{moved_to, same_v}
use Rattle.svd.proofs.order.Decomposed.sign.Goals as goal

pub returns-then-sign_bit : goal.returns-then-sign_bit
unfolding signed_column flip_column_of
returns-then-sign_bit g c =
    let w = c.args.self.now in
    let flipped = c.flip_column.ensures ∙ (rw (lt-ltb c.args.i g.row.N c.requires) refl) in
    let u = c.unwrap_or-self.ensures ∙ moved_to (negate_of g.row.N c.args.i w.u.«data») c.flip_column.result w.u w.u.square flipped in
    let negative : sign_bit_of (at w.values c.args.i) ≡ true = sym c.sign_bit.ensures ∙ c.if-sign_bit.true in
    rw (u, c.magnitude.ensures, negative)
    (same_v _ w.u.square)

pub returns-else-sign_bit : goal.returns-else-sign_bit
unfolding signed_column
returns-else-sign_bit g c =
    let w = c.args.self.now in
    let other : sign_bit_of (at w.values c.args.i) ≡ false = sym c.sign_bit.ensures ∙ c.if-sign_bit.false in
    rw (c.magnitude.ensures, other)
    (same_v (record { values = set w.values c.args.i (magnitude_of (at w.values c.args.i)); u = w.u; v = w.v }) w.u.square)
