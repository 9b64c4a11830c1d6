-- Both lengths passed, the product answers.
use Rattle.float.proofs.Words.{refl, sym, ◌∙◌, ◌*◌, eq-eqb, ne_eqb}
use Rattle.matrix.proofs.Stored.{square_numbers}
use Rattle.exports.specs.Kernels.{square_mul_of}
use Rattle.exports.proofs.Refused.{handed_on}
use Rattle.exports.proofs.kernels.square_mul.Goals as goal

pub returns-then-y : goal.returns-then-y
unfolding square_mul_of
returns-then-y g c = rw (ne_eqb _ _ c.if-y.true) (refl, refl)

pub returns-in_err-data : goal.returns-in_err-data
unfolding square_mul_of
returns-in_err-data g c =
    let read = c.in_err-data.ensures in
    let s = square_numbers _ _ c.requires.square in
    rw (eq-eqb _ _ c.if-y.false, ne_eqb _ (g.row.N * g.row.N) (λ e. read.0 (e ∙ sym s)), handed_on _ _ c.from_residual.ensures.1, read.1) (refl, refl)

pub returns : goal.returns
unfolding square_mul_of
returns g c =
    let read = c.in_ok-data.ensures in
    let s = square_numbers _ _ c.requires.square in
    rw (eq-eqb _ _ c.if-y.false, eq-eqb _ (g.row.N * g.row.N) (read.0 ∙ s)) (rw read.1 at c.mul.ensures)
