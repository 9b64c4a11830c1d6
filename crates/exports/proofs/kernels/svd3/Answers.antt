-- Both lengths passed, out takes the numbers of the answer, if there is one.
use Rattle.float.proofs.Words.{◌≡◌, refl, ap, ◌∙◌, length, arith, eq-eqb, ne_eqb}
use Rattle.exports.specs.Kernels.{svd3_into}
use Rattle.exports.proofs.Refused.{handed_on, not_done}
use Rattle.exports.proofs.Written.{four_parts}
use Rattle.exports.proofs.kernels.svd3.Goals as goal

pub returns-then-out-ne30 : goal.returns-then-out-ne30
unfolding svd3_into
returns-then-out-ne30 c = rw (ne_eqb _ 30 c.if-out-ne30.true) (refl, refl)

pub returns-in_err-data : goal.returns-in_err-data
unfolding svd3_into
returns-in_err-data c =
    let read = c.in_err-data.ensures in
    rw (eq-eqb _ 30 c.if-out-ne30.false, ne_eqb _ 9 read.0, handed_on _ _ c.from_residual.ensures.1, read.1) (refl, refl)

pub returns-in_err-r : goal.returns-in_err-r
unfolding svd3_into
returns-in_err-r c =
    let read = c.in_ok-data.ensures in
    let e = rw read.1 at c.in_err-r.ensures in
    rw (eq-eqb _ 30 c.if-out-ne30.false, eq-eqb _ 9 read.0, ← e) (rw (not_done c.in_err-r.field-0.0) (handed_on _ _ c.from_residual-in_err-r.ensures.1, refl))

pub returns : goal.returns
unfolding svd3_into
returns c =
    let read = c.in_ok-data.ensures in
    let e = rw read.1 at c.in_ok-r.ensures in
    let v : length c.copy_from_slice.new.self ≡ 3 = ap length c.copy_from_slice.ensures.after ∙ omega arith in
    let u : length c.copy_from_slice-2.new.self ≡ 9 = ap length c.copy_from_slice-2.ensures.after ∙ omega arith in
    let w : length c.copy_from_slice-3.new.self ≡ 9 = ap length c.copy_from_slice-3.ensures.after ∙ omega arith in
    rw (eq-eqb _ 30 c.if-out-ne30.false, eq-eqb _ 9 read.0, ← e) (
      refl,
      four_parts c.args.out.now _ _ v u _ _ w
          ∙ rw (c.copy_from_slice.ensures.after, c.copy_from_slice-2.ensures.after, c.copy_from_slice-3.ensures.after, c.copy_from_slice-4.ensures.after),
    )
