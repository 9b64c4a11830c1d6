-- With code 0 the matrices are as many as the places of the answers, so that all of these are written.
use Rattle.float.proofs.Words.{◌≡◌, refl, sym, ◌∙◌, ℕ, ◌*◌, ◌/◌, arith, length, take_all, eq-eqb, ne_eqb, rules}
use Rattle.float.specs.Width.{F}
use Rattle.matrix.specs.Codes.{code_of}
use Rattle.matrix.proofs.Refusals.{code_of_number}
use Rattle.wire.proofs.Parts.{front_more}
use Rattle.row.specs.Bytes.{mat_size, svd_size, mats_of, row_bytes_of, filled_bytes_of, bytes_code_of, svd_row_bytes_of}
use Rattle.row.proofs.BytesRow.{answers_more, whole_places}
use Rattle.row.proofs.bytes.zanikory_svd_3x3_row.Goals as goal

pub returns-in_err-bytes_gate : goal.returns-in_err-bytes_gate
unfolding svd_row_bytes_of
returns-in_err-bytes_gate c =
    let code : code_of c.from_residual.result ≡ bytes_code_of F (length c.args.mats.now) (length c.args.answers.now) = search rules in
    (code, rw (ne_eqb _ 0 (λ z. code_of_number (Unit {0}) _ (c.in_err-bytes_gate.ensures ∙ z))) refl)

pub loop-i-init : goal.loop-i-init
unfolding mats_of row_bytes_of
loop-i-init c = (whole_places F _ _ (sym c.in_ok-bytes_gate.ensures), refl)

pub loop-i-preserved : goal.loop-i-preserved
loop-i-preserved c =
    let l = c.loop-i in
    let a = c.args in (
      (l.invariant.0.0, omega arith),
      front_more (λ (k : ℕ). filled_bytes_of F k a.mats.now) c.answer_place.new.answers l.answers _ (svd_size F) l.i
          c.answer_place.ensures l.invariant.1 (answers_more F l.i a.mats.now),
    )

pub returns : goal.returns
unfolding svd_row_bytes_of
returns c =
    let l = c.loop-i in
    let done = sym c.in_ok-bytes_gate.ensures in
    let e : l.i ≡ length c.args.mats.now / mat_size F = omega arith in
    (sym done, sym (take_all (svd_size F * l.i) l.answers (rw e (omega arith))) ∙ l.invariant.1 ∙ (rw (eq-eqb _ 0 done, e)))
