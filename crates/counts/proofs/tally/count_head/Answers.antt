-- A head that is known has its places inside the tally; what it is counted in follows from its code.
use Rattle.float.proofs.Words.{sym, ap, ◌∙◌, ℕ, eq-eqb}
use Rattle.std.specs.Prelude.{is_ok}
use Rattle.counts.specs.Cells.{coded}
use Rattle.counts.proofs.Sums.{handed_on}
use Rattle.counts.proofs.Steps.{at_cell, head_foreign, head_stops, head_ends, head_goes}
use Rattle.counts.proofs.Placed.{code_known, answer_known}
use Rattle.counts.proofs.tally.count_head.Goals as goal

pub returns-then-is_foreign : goal.returns-then-is_foreign
returns-then-is_foreign c =
    head_foreign c.args.counts.now c.add_at.new.counts c.args.h (is_ok c.add_at.result) (sym c.is_foreign.ensures ∙ c.if-is_foreign.true) c.add_at.ensures

pub coded_at-requires : goal.coded_at-requires
coded_at-requires c = code_known c.args.h (sym c.is_foreign.ensures ∙ c.if-is_foreign.false)

pub returns-in_err-add_at : goal.returns-in_err-add_at
returns-in_err-add_at c =
    let xs = c.args.counts.now in
    let h = c.args.h in
    let ys = c.add_at-2.new.counts in
    let added = at_cell xs ys (λ (r : ℕ). coded r h.code) _ _ h (is_ok c.add_at-2.result) c.coded_at.ensures c.row_of-k.ensures.0 c.add_at-2.ensures in
    rw (handed_on c.from_residual.result c.from_residual.ensures.0)
    (head_stops xs ys h (is_ok c.add_at-2.result) c.told-counts (sym c.is_foreign.ensures ∙ c.if-is_foreign.false) (ap is_ok c.in_err-add_at.was) added)

pub count_mark-requires : goal.count_mark-requires
count_mark-requires c = answer_known c.args.h (sym c.is_foreign.ensures ∙ c.if-is_foreign.false) (eq-eqb c.args.h.code 0 c.if-h-eq-DONE.true)

pub returns-then-h-eq-DONE : goal.returns-then-h-eq-DONE
returns-then-h-eq-DONE c =
    let xs = c.args.counts.now in
    let h = c.args.h in
    let ys = c.add_at-2.new.counts in
    let added = at_cell xs ys (λ (r : ℕ). coded r h.code) _ _ h (is_ok c.add_at-2.result) c.coded_at.ensures c.row_of-k.ensures.0 c.add_at-2.ensures in
    head_goes xs ys c.count_mark.new.counts h (is_ok c.add_at-2.result) (is_ok c.count_mark.result) (sym c.is_foreign.ensures ∙ c.if-is_foreign.false)
    c.if-h-eq-DONE.true (ap is_ok c.in_ok-add_at.was) added c.count_mark.ensures

pub returns : goal.returns
returns c =
    let xs = c.args.counts.now in
    let h = c.args.h in
    let ys = c.add_at-2.new.counts in
    let added = at_cell xs ys (λ (r : ℕ). coded r h.code) _ _ h (is_ok c.add_at-2.result) c.coded_at.ensures c.row_of-k.ensures.0 c.add_at-2.ensures in
    head_ends xs ys h (is_ok c.add_at-2.result) (sym c.is_foreign.ensures ∙ c.if-is_foreign.false) c.if-h-eq-DONE.false (ap is_ok c.in_ok-add_at.was) added
