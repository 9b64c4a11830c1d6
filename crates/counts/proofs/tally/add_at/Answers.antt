-- All counts fit as they are, so the sum fits where the one count that grows does.
use Rattle.float.proofs.Words.{◌≡◌, ap, ◌∙◌}
use Rattle.std.specs.Prelude.{Some, None}
use Rattle.std.specs.Result.{result_ok}
use Rattle.counts.proofs.Sums.{count_fits, count_passes, handed_on}
use Rattle.counts.proofs.tally.add_at.Goals as goal

pub returns-in_err-sum : goal.returns-in_err-sum
returns-in_err-sum c =
    let a = c.args in
    let xs = a.counts.now in
    let none : c.checked_add.result ≡ None = c.ok_or.ensures.ok_part ∙ ap result_ok c.in_err-sum.was in
    rw (handed_on c.from_residual.result c.from_residual.ensures.0)
    (count_passes xs a.at a.n c.told-counts c.requires c.fits-counts (rw none at c.checked_add.ensures))

pub returns : goal.returns
returns c =
    let a = c.args in
    let xs = a.counts.now in
    let some : c.checked_add.result ≡ Some c.in_ok-sum.sum = c.ok_or.ensures.ok_part ∙ ap result_ok c.in_ok-sum.was in
    let sum = rw some at c.checked_add.ensures in
    rw sum.1 (count_fits xs a.at a.n c.told-counts c.requires c.fits-counts sum.0)
