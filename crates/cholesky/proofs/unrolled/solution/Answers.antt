-- Where all numbers are finite the solution is judged, and else refused.
use Rattle.float.proofs.Words.{refl}
use Rattle.float.proofs.Judged.{stands, refuses}
use Rattle.cholesky.proofs.unrolled.solution.Goals as goal

pub returns-then-not-both_finite : goal.returns-then-not-both_finite
returns-then-not-both_finite g c = let used = rw c.numbers.ensures at c.if-not-both_finite.ensures in rw (refuses _ used refl)

pub returns : goal.returns
returns g c =
    let used = rw c.numbers.ensures at c.if-not-both_finite.ensures in
    rw (stands _ used refl) (rw c.substitute.ensures at c.judge_all.ensures)
