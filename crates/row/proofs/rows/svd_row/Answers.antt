-- Each turn stores in a place what the single call gives for the matrix there: one place more is filled, and no other is touched.
use Rattle.std.proofs.lemmas.List.{length-map, map-set}
use Rattle.float.proofs.Words.{◌≡◌, refl, sym, ap, ◌∙◌, ◌<◌, arith, add-one, length, set, length-set, ne_eqb, rules}
use Rattle.float.specs.Width.{F}
use Rattle.matrix.specs.Codes.{code_of}
use Rattle.matrix.specs.Square.{Mat3}
use Rattle.matrix.proofs.Refusals.{code_of_number}
use Rattle.row.specs.Row.{row_code_of, single_of, svd_row_of, answer_in, answers_in}
use Rattle.row.proofs.Filling.{filled_to, code_zero, filled_next, filled_all}
use Rattle.row.proofs.rows.svd_row.Goals as goal

pub returns-in_err-row_gate : goal.returns-in_err-row_gate
unfolding svd_row_of
returns-in_err-row_gate c =
    let a = c.args in
    let code : code_of c.from_residual.result ≡ row_code_of (length a.mats.now) (length a.answers.now) = search rules in
    rw (length-map a.answers.now answer_in) (code, rw (ne_eqb _ 0 (λ z. code_of_number (Unit {0}) _ (c.in_err-row_gate.ensures ∙ z))) refl)

pub loop-i-init : goal.loop-i-init
loop-i-init c = ((code_zero _ _ (sym c.in_ok-row_gate.ensures)).0, refl)

pub loop-i-preserved : goal.loop-i-preserved
loop-i-preserved c =
    let l = c.loop-i in
    let a = c.args in
    let found = answers_in a.answers.now in
    let room : l.i < length found = rw (length-map a.answers.now answer_in) (omega arith) in (
      simp length-set (omega arith),
      rw (map-set answer_in l.answers l.i c.from.result, c.from.ensures, c.svd.ensures, l.invariant.1, add-one)
          (ap (λ (m : Mat3). set (filled_to (single_of F) l.i a.mats.now found) l.i (single_of F m)) c.index-mats-i.is
          ∙ filled_next (single_of F) l.i a.mats.now found _ (omega arith) room),
    )

pub returns : goal.returns
unfolding svd_row_of
returns c = let l = c.loop-i in
    let a = c.args in
    let e : l.i ≡ length a.mats.now = omega arith in
    let same = (code_zero _ _ (sym c.in_ok-row_gate.ensures)).0 ∙ sym (length-map a.answers.now answer_in) in
    rw (length-map a.answers.now answer_in, ← c.in_ok-row_gate.ensures)
    (refl, l.invariant.1 ∙ (rw e (filled_all (single_of F) a.mats.now (answers_in a.answers.now) same)))
