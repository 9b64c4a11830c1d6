-- A way for each answer of the tests and of the steps.
use Rattle.float.proofs.Words.{refl}
use Rattle.float.proofs.Judged.{stands, refuses}
use Rattle.cholesky.proofs.Steps.{returned}
use Rattle.cholesky.proofs.Tested.{stopped}
use Rattle.cholesky.proofs.unrolled.factor.Goals as goal

pub returns-then-not-all_finite : goal.returns-then-not-all_finite
returns-then-not-all_finite g c = let used = rw c.numbers.ensures at c.if-not-all_finite.ensures in rw (refuses _ used refl)

pub returns-in_err-steps : goal.returns-in_err-steps
returns-in_err-steps g c =
    let used = rw c.numbers.ensures at c.if-not-all_finite.ensures in
    rw (returned _ _ c.from_residual.ensures.1) (stopped _ c.in_err-steps.ensures _ _ used)

pub returns-then-not-all_finite-2 : goal.returns-then-not-all_finite-2
returns-then-not-all_finite-2 g c =
    let used = rw c.numbers.ensures at c.if-not-all_finite.ensures in
    let made = rw c.numbers-2.ensures at c.if-not-all_finite-2.ensures in
    rw (stands _ used refl, ← c.in_ok-steps.ensures) (rw (refuses _ made refl))

pub returns : goal.returns
returns g c =
    let used = rw c.numbers.ensures at c.if-not-all_finite.ensures in
    let made = rw c.numbers-2.ensures at c.if-not-all_finite-2.ensures in
    rw (stands _ used refl, ← c.in_ok-steps.ensures) (rw (stands _ made refl))
