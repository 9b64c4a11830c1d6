-- A kind and a way that are read are those of the bytes.
use Rattle.float.proofs.Words.{◌≡◌, sym, ◌∙◌, rules}
use Rattle.std.specs.Prelude.{Err}
use Rattle.float.specs.Width.{F}
use Rattle.record.specs.Request.{kind_of, way_of}
use Rattle.record.proofs.Judged.{form_way}
use Rattle.kinds.proofs.Named.{kind_known, number_read, way_read, way_refused}
use Rattle.record.proofs.request.form_of.Goals as goal

pub returns-in_err-way-clause-code : goal.returns-in_err-way-clause-code
returns-in_err-way-clause-code c =
    let s = c.args.s.now in
    let k = c.in_ok-kind.kind in
    let r = c.in_err-way.field-0.0 in
    let e : c.from_residual-in_err-way.result ≡ Err r = search rules in
    let n = number_read k (kind_of s) c.in_ok-kind.ensures in
    let w = way_refused k (kind_of s) (way_of s) n r (sym c.way.ensures ∙ c.in_err-way.was) in
    rw (e, w.1) (sym (form_way F s (kind_known k (kind_of s) c.in_ok-kind.ensures) w.0))

pub returns-clause-read : goal.returns-clause-read
returns-clause-read c =
    let s = c.args.s.now in
    let k = c.in_ok-kind.kind in
    let n = number_read k (kind_of s) c.in_ok-kind.ensures in
    let w = way_read k (kind_of s) (way_of s) n c.in_ok-way.way (sym c.way.ensures ∙ c.in_ok-way.was) in
    (n, w.1)
