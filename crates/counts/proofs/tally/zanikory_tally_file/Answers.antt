-- The adding, and its end.
use Rattle.float.proofs.Words.{subst, List, ℕ, eq-eqb}
use Rattle.std.specs.Prelude.{is_ok}
use Rattle.float.specs.Width.{F}
use Rattle.counts.specs.Cells.{tally_size}
use Rattle.counts.specs.Tally.{tally_of, with_file}
use Rattle.counts.specs.Adding.{Summed}
use Rattle.counts.proofs.Ends.{summed_left}
use Rattle.counts.proofs.tally.zanikory_tally_file.Goals as goal

pub returns : goal.returns
unfolding with_file
returns c =
    let xs = c.args.counts.now in
    let whole = c.in-Some.ensures.cases in
    let s = c.count_file-sum in
    let t = tally_of F c.args.answers.now in
    rw (eq-eqb _ tally_size whole.long)
    (summed_left xs t s.new.counts _ (is_ok s.result) _ whole.long
    (subst (λ (l : List ℕ). Summed l t (is_ok s.result) s.new.counts) whole.same s.ensures) c.ended.ensures)
