-- In each round the totals so far are stored, and each of them fits.
use Rattle.float.proofs.Words.{◌≡◌, refl, sym, ◌∙◌, arith}
use Rattle.counts.specs.Cells.{columns}
use Rattle.counts.specs.Tally.{all_fit}
use Rattle.listing.specs.Page.{total_of}
use Rattle.listing.proofs.Totals.{Held, has_sum, no_sum, held_more, all_held, some_past}
use Rattle.listing.proofs.sums.totals.Goals as goal

pub loop-column-init : goal.loop-column-init
unfolding all_fit
loop-column-init c = record { long = refl; fit = refl; front = refl }

pub returns-in_err-sum : goal.returns-in_err-sum
returns-in_err-sum c =
    let t = c.args.counts.now in
    let past = no_sum (total_of t c.loop-column.column) (sym c.total.ensures ∙ c.in_err-sum.was) in
    c.from_residual.ensures ∙ sym (some_past t c.loop-column.column (omega arith) past)

pub loop-column-preserved : goal.loop-column-preserved
loop-column-preserved c =
    let t = c.args.counts.now in
    let l = c.loop-column in
    let one = has_sum (total_of t l.column) c.in_ok-sum.field-0 (sym c.total.ensures ∙ c.in_ok-sum.was) in
    held_more (total_of t) l.column c.in_ok-sum.field-0 l.sum-items (omega arith) one l.invariant

pub returns : goal.returns
returns c =
    let t = c.args.counts.now in
    let l = c.loop-column in
    let e : l.column ≡ columns = omega arith in
    let h : Held (total_of t) columns l.sum-items = rw e at l.invariant in
    all_held t l.sum-items h
