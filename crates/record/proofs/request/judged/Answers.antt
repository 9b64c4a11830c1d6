-- A form that is refused is the answer; after it the finite test decides, over the first of all the numbers.
use Rattle.float.proofs.Words.{◌≡◌, ap, ◌∙◌, rules}
use Rattle.std.specs.Prelude.{Err}
use Rattle.float.specs.Width.{F}
use Rattle.matrix.proofs.Refusals.{number_above}
use Rattle.kinds.specs.Ways.{work_of}
use Rattle.record.proofs.Judged.{judged_form, judged_five, judged_worked, used_read, asked_read}
use Rattle.record.proofs.request.judged.Goals as goal

pub returns-in_err-kind : goal.returns-in_err-kind
returns-in_err-kind c =
    let r = c.in_err-kind.field-0.0 in
    let e : c.from_residual.result ≡ Err (record { why = r; pivot = 0 }) = search rules in
    rw e (judged_form F c.args.s.now _ c.in_err-kind.ensures.code (number_above r))

pub returns-then-not-used_finite : goal.returns-then-not-used_finite
returns-then-not-used_finite c =
    let s = c.args.s.now in
    let k = c.in_ok-kind in
    let used = used_read F s k.kind _ _ c.used_finite.result k.ensures.read.0 c.numbers-nine.ensures c.numbers-three.ensures c.used_finite.ensures in
    rw c.into.ensures (judged_five F s k.ensures.code (used ∙ (search rules)))

pub returns : goal.returns
returns c =
    let s = c.args.s.now in
    let k = c.in_ok-kind in
    let used = used_read F s k.kind _ _ c.used_finite.result k.ensures.read.0 c.numbers-nine.ensures c.numbers-three.ensures c.used_finite.ensures in
    let same = asked_read F s (record { kind = k.kind; way = k.way; nine = c.numbers-nine.result; three = c.numbers-three.result })
    k.ensures.read.0 k.ensures.read.1 c.numbers-nine.ensures c.numbers-three.ensures in
    c.work.ensures ∙ ap (work_of F) same ∙ judged_worked F s k.ensures.code (used ∙ (search rules))
