-- Where all numbers are finite the scaled ones are judged, and else refused.
use Rattle.float.proofs.Words.{◌≡◌, ap, arith, length, ℕ, mul, rules}
use Rattle.float.specs.Width.{F}
use Rattle.float.proofs.Judged.{stands, refuses}
use Rattle.matrix.specs.Answer.{refused, done, judged_all}
use Rattle.matrix.specs.Codes.{number_of}
use Rattle.matrix.specs.Places.{at, zeros}
use Rattle.matrix.specs.Arithmetic.{scaled_from_of}
use Rattle.matrix.proofs.Stored.{packed_numbers}
use Rattle.matrix.proofs.Underway.{begun, stored_next, table_made}
use Rattle.matrix.proofs.shape.DenseMatrixSymN.scaled_from.Goals as goal

pub loop-x-init : goal.loop-x-init
loop-x-init g c = let l : length c.args.b.«data» ≡ g.row.S = search rules in begun _ _ _ l

pub loop-x-preserved : goal.loop-x-preserved
loop-x-preserved g c =
    let u = c.loop-x.invariant in
    stored_next _ _ u (omega arith) (ap (mul F c.args.c) (u.rest _ (omega arith)))

pub returns-then-not-both_finite : goal.returns-then-not-both_finite
unfolding scaled_from_of
returns-then-not-both_finite g c =
    rw (packed_numbers g.row.N g.row.S c.args.b.packed, refuses _ c.both_finite.ensures c.if-not-both_finite.true)

pub returns-in_err-data : goal.returns-in_err-data
unfolding scaled_from_of
returns-in_err-data g c =
    let m = table_made (λ (i : ℕ). mul F c.args.c (at c.args.b.«data» i)) g.row.S c.loop-x.invariant (omega arith) in
    let e : refused (number_of c.in_err-data.field-0.0) (zeros F g.row.S) ≡ judged_all F g.row.S c.loop-x.x-items = c.in_err-data.ensures in
    rw (stands _ c.both_finite.ensures c.if-not-both_finite.false, ← packed_numbers g.row.N g.row.S c.args.b.packed, ← m, ← e) (search rules)

pub returns : goal.returns
unfolding scaled_from_of
returns g c =
    let m = table_made (λ (i : ℕ). mul F c.args.c (at c.args.b.«data» i)) g.row.S c.loop-x.invariant (omega arith) in
    let e : done c.in_ok-data.«data» ≡ judged_all F g.row.S c.loop-x.x-items = c.in_ok-data.ensures in
    rw (stands _ c.both_finite.ensures c.if-not-both_finite.false, ← packed_numbers g.row.N g.row.S c.args.b.packed, ← m) e
