-- The bytes up to the last whole record are counted, and those behind it are moved to the front; a count that does not fit ends the reading.
use Rattle.float.proofs.Words.{sym, ap, ◌∙◌, ℕ, arith}
use Rattle.std.proofs.lemmas.Result.{err_from_is_err_and}
use Rattle.matrix.specs.Codes.{code_of}
use Rattle.tally.specs.States.{standing, stopped, going}
use Rattle.tally.proofs.Rounds.{counted, with_0, with_more}
use Rattle.tally.proofs.Desk.serve.Goals as goal

pub returns-in_err-counted : goal.returns-in_err-counted
returns-in_err-counted c =
    let desk = c.args.self.now in
    let t = c.zanikory_tally_file-counted in
    let back = err_from_is_err_and c.from_residual.result c.from_residual.ensures.1 in
    λ (rounds : ℕ). counted desk.answers c.keep_rest.new.buf desk.counts t.new.counts c.args.total (code_of t.result) (standing rounds desk.kept)
    (going rounds desk.kept c.from_residual.result) (omega arith) (omega arith) t.ensures c.keep_rest.ensures
    (ap (going rounds desk.kept) back.1 ∙ ap (stopped desk.kept) back.2 ∙ sym (with_more t.result _ _ c.in_err-counted.was))

pub returns : goal.returns
returns c =
    let desk = c.args.self.now in
    let t = c.zanikory_tally_file-counted in
    λ (rounds : ℕ). counted desk.answers c.keep_rest.new.buf desk.counts t.new.counts c.args.total (code_of t.result) (standing rounds desk.kept) _
    (omega arith) (omega arith) t.ensures c.keep_rest.ensures (sym (with_0 t.result _ _ c.in_ok-counted.was))
