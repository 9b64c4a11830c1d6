-- The adding, and its end.
use Rattle.float.proofs.Words.{subst, List, ℕ, eq-eqb}
use Rattle.std.specs.Prelude.{is_ok}
use Rattle.counts.specs.Cells.{tally_size}
use Rattle.counts.specs.Tally.{with_tally}
use Rattle.counts.specs.Adding.{Summed}
use Rattle.counts.proofs.Ends.{summed_left}
use Rattle.counts.proofs.tally.zanikory_tally_add.Goals as goal

pub returns : goal.returns
unfolding with_tally
returns c =
    let xs = c.args.counts.now in
    let ms = c.args.more.now in
    let whole = c.in-Some.ensures.cases in
    let more = rw c.in_ok-more.ensures.ok_part at c.as_array.ensures.cases in
    let s = c.count_tally-sum in
    rw (eq-eqb _ tally_size whole.long, eq-eqb _ tally_size more.long)
    (summed_left xs ms s.new.counts _ (is_ok s.result) _ whole.long
    (subst (λ (l : List ℕ). Summed l ms (is_ok s.result) s.new.counts) whole.same
    (subst (λ (l : List ℕ). Summed c.in-Some.counts.now l (is_ok s.result) s.new.counts) more.same s.ensures)) c.ended.ensures)
