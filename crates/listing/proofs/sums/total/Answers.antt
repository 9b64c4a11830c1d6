-- In each round the sum is that of the rows so far.
use Rattle.float.proofs.Words.{◌≡◌, refl, sym, ap, ◌∙◌, ℕ, ◌+◌, ◌*◌, lit<, arith, get_or}
use Rattle.counts.specs.Cells.{columns}
use Rattle.counts.specs.Tally.{total}
use Rattle.listing.specs.Page.{total_of}
use Rattle.listing.proofs.Totals.{sum_past, sum_up_to, sum_grows, sum_fits_is}
use Rattle.listing.proofs.sums.total.Goals as goal

pub loop-row-init : goal.loop-row-init
unfolding total
loop-row-init c = (lit< tt, refl)

pub returns-in_err-sum : goal.returns-in_err-sum
returns-in_err-sum c =
    let cell : ℕ → ℕ = λ k. get_or c.args.counts.now (columns * k + c.args.column) 0 in
    let more = sum_up_to cell c.loop-row.row in
    let all = sum_grows cell (c.loop-row.row + 1) 9 (omega arith) in
    c.from_residual.ensures ∙ sym (sum_past (total_of c.args.counts.now c.args.column) (omega (arith, more, all, c.in_err-sum.ensures, c.loop-row.invariant.1)))

pub loop-row-preserved : goal.loop-row-preserved
loop-row-preserved c =
    let cell : ℕ → ℕ = λ k. get_or c.args.counts.now (columns * k + c.args.column) 0 in (
      omega (arith, c.in_ok-sum.ensures),
      c.in_ok-sum.ensures.1 ∙ ap (λ (n : ℕ). n + cell c.loop-row.row) c.loop-row.invariant.1 ∙ sym (sum_up_to cell c.loop-row.row),
    )

pub returns : goal.returns
returns c =
    let last : c.loop-row.row ≡ 9 = omega arith in
    sum_fits_is (total_of c.args.counts.now c.args.column) c.loop-row.sum (rw last at c.loop-row.invariant.1) c.loop-row.invariant.0
