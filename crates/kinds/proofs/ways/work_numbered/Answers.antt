-- A number of no kind is refused with 3. A kind and its way ask what the two bytes ask.
use Rattle.float.proofs.Words.{◌≡◌, ◌∙◌, ap, rules, true, false, eq-eqb, ne_eqb}
use Rattle.float.specs.Width.{F}
use Rattle.std.specs.Prelude.{Err}
use Rattle.matrix.specs.declared.codes.Refusal.TheVariants.{UnknownKind}
use Rattle.kinds.specs.Ways.{work_of}
use Rattle.kinds.specs.Read.{asked, asked_by, number_of_kind}
use Rattle.kinds.specs.declared.table.Way.TheVariants.{Scaled, AsGiven}
use Rattle.kinds.proofs.Named.{number_read}
use Rattle.kinds.proofs.Numbered.{by_number, no_kind}
use Rattle.kinds.proofs.ways.work_numbered.Goals as goal
use Rattle.kinds.proofs.ways.work_numbered.Goals.{then-way-eq0, else-way-eq0}

pub returns-in_err-kind : goal.returns-in_err-kind
returns-in_err-kind c =
    let e : c.from_residual.result ≡ Err (record { why = UnknownKind; pivot = 0 }) = search rules in
    rw e (no_kind F c.args.kind c.args.way c.args.nine c.args.three c.in_err-kind.ensures.1)

pub returns : goal.returns
returns c =
    c.work.ensures ∙ same
    ∙ ap (λ n. work_of F (asked_by n c.args.way c.args.nine c.args.three)) (number_read c.in_ok-kind.kind c.args.kind c.in_ok-kind.ensures)
  where
    same : work_of F (asked (record { kind = c.in_ok-kind.kind; way = c.if-way-eq0.way'; nine = c.args.nine; three = c.args.three }))
        ≡ work_of F (asked_by (number_of_kind c.in_ok-kind.kind) c.args.way c.args.nine c.args.three)
    same = elim c.if-way-eq0.branch [
      | then-way-eq0 w ↦ rw w.way'-is (by_number F c.in_ok-kind.kind c.args.way true c.args.nine c.args.three (eq-eqb _ _ w.if-way-eq0.true))
      | else-way-eq0 w ↦ rw w.way'-is (by_number F c.in_ok-kind.kind c.args.way false c.args.nine c.args.three (ne_eqb _ _ w.if-way-eq0.false))
    ]
