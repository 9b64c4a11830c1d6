-- A way for each answer of the tests and of the steps.
use Rattle.float.specs.Width.{F}
use Rattle.float.proofs.Words.{refl}
use Rattle.float.proofs.Judged.{stands, refuses}
use Rattle.cholesky.proofs.Steps.{returned}
use Rattle.cholesky.proofs.Tested.{unsolved}
use Rattle.cholesky.proofs.unrolled.factor_and_solve.Goals as goal

pub returns-then-not-both_finite : goal.returns-then-not-both_finite
returns-then-not-both_finite g c = let used = rw c.numbers.ensures at c.if-not-both_finite.ensures in rw (refuses _ used refl)

pub returns-in_err-steps : goal.returns-in_err-steps
returns-in_err-steps g c =
    let used = rw c.numbers.ensures at c.if-not-both_finite.ensures in
    let s = rw c.zero-factor.ensures at c.in_err-steps.ensures in
    rw (returned _ _ c.from_residual.ensures.1) (unsolved _ s F g.row.N (g.L.Unrolled.listed c.args.a) c.args.b _ used)

pub returns-then-not-both_finite-2 : goal.returns-then-not-both_finite-2
returns-then-not-both_finite-2 g c =
    let used = rw c.numbers.ensures at c.if-not-both_finite.ensures in
    let made = rw (c.numbers-2.ensures, c.substitute-solution.ensures) at c.if-not-both_finite-2.ensures in
    let s = rw c.zero-factor.ensures at c.in_ok-steps.ensures in
    rw (stands _ used refl, ← s) (rw (refuses _ made refl))

pub returns : goal.returns
returns g c =
    let used = rw c.numbers.ensures at c.if-not-both_finite.ensures in
    let made = rw (c.numbers-2.ensures, c.substitute-solution.ensures) at c.if-not-both_finite-2.ensures in
    let s = rw c.zero-factor.ensures at c.in_ok-steps.ensures in
    rw (stands _ used refl, ← s, c.substitute-solution.ensures) (rw (stands _ made refl))
