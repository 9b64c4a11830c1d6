-- The places of the mark and of the rotations are inside the tally, since the head is known.
use Rattle.float.proofs.Words.{sym, ap, ◌∙◌, ℕ}
use Rattle.std.specs.Prelude.{is_ok}
use Rattle.counts.specs.Cells.{marked, turned}
use Rattle.counts.proofs.Sums.{handed_on}
use Rattle.counts.proofs.Steps.{at_cell, mark_stops, mark_goes}
use Rattle.counts.proofs.tally.count_mark.Goals as goal

pub returns-in_err-add_at : goal.returns-in_err-add_at
returns-in_err-add_at c =
    let xs = c.args.counts.now in
    let h = c.args.h in
    let ys = c.add_at.new.counts in
    let added = at_cell xs ys (λ (r : ℕ). marked r h.mark) _ _ h (is_ok c.add_at.result) c.marked_at.ensures c.row_of-k.ensures.0 c.add_at.ensures in
    rw (handed_on c.from_residual.result c.from_residual.ensures.0)
    (mark_stops xs ys h (is_ok c.add_at.result) c.told-counts (ap is_ok c.in_err-add_at.was) added)

pub returns-then-k : goal.returns-then-k
returns-then-k c =
    let xs = c.args.counts.now in
    let h = c.args.h in
    let ys = c.add_at.new.counts in
    let zs = c.add_at-then-k.new.counts in
    let added = at_cell xs ys (λ (r : ℕ). marked r h.mark) _ _ h (is_ok c.add_at.result) c.marked_at.ensures c.row_of-k.ensures.0 c.add_at.ensures in
    mark_goes xs ys zs h (is_ok c.add_at.result) (is_ok c.add_at-then-k.result) (sym c.row_of-k.ensures.1 ∙ c.if-k.true) (ap is_ok c.in_ok-add_at.was) added
    (at_cell ys zs (λ (r : ℕ). turned r h.turns) _ _ h (is_ok c.add_at-then-k.result) c.turned_at.ensures c.row_of-k.ensures.0 c.add_at-then-k.ensures)
