-- One record is a file of one record.
use Rattle.float.proofs.Words.{◌≡◌, sym, ap, ◌∙◌, subst, List, ℕ, eq-eqb}
use Rattle.std.specs.Prelude.{is_ok}
use Rattle.float.specs.Width.{F}
use Rattle.record.specs.Layout.{answer_size}
use Rattle.counts.specs.Known.{head_of}
use Rattle.counts.specs.Cells.{tally_size}
use Rattle.counts.specs.Tally.{tally_of, with_record}
use Rattle.counts.specs.Adding.{Summed, head_tally}
use Rattle.counts.proofs.Placed.{head_tally_lem}
use Rattle.counts.proofs.Ends.{summed_left}
use Rattle.counts.proofs.tally.zanikory_tally_record.Goals as goal

pub returns : goal.returns
unfolding with_record
returns c =
    let xs = c.args.counts.now in
    let r = c.args.answer.now in
    let whole = c.in-Some.ensures.cases in
    let answer = rw c.in_ok-answer.ensures.ok_part at c.as_array.ensures.cases in
    let s = c.count_head-sum in
    let tally : head_tally c.from.result ≡ tally_of F r =
    ap head_tally (c.from.ensures ∙ ap head_of answer.same) ∙ sym (head_tally_lem F r answer.long) in
    rw (eq-eqb _ tally_size whole.long, eq-eqb _ (answer_size F) answer.long)
    (summed_left xs (tally_of F r) s.new.counts _ (is_ok s.result) _ whole.long
    (subst (λ (l : List ℕ). Summed l (tally_of F r) (is_ok s.result) s.new.counts) whole.same
    (subst (λ (u : List ℕ). Summed c.in-Some.counts.now u (is_ok s.result) s.new.counts) tally s.ensures)) c.ended.ensures)
