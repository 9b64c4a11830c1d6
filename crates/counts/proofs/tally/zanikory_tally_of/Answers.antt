-- The adding to zeros, and its end.
use Rattle.float.proofs.Words.{◌≡◌, refl, ap, ◌∙◌, subst, ℕ, List, eq-eqb, replicate, length}
use Rattle.std.specs.Prelude.{is_ok}
use Rattle.float.specs.Width.{F}
use Rattle.counts.specs.Cells.{tally_size}
use Rattle.counts.specs.Tally.{tally_of, tallied_of, empty_tally}
use Rattle.counts.specs.Adding.{Summed}
use Rattle.counts.proofs.Ends.{summed_left}
use Rattle.counts.proofs.tally.zanikory_tally_of.Goals as goal

pub returns : goal.returns
unfolding tallied_of
returns c =
    let whole = c.in-Some.ensures.cases in
    let s = c.count_file-sum in
    let t = tally_of F c.args.answers.now in
    let zeros : c.fill.new.self ≡ empty_tally =
    c.fill.ensures.after (λ y k. k) ∙ ap (λ (k : ℕ). replicate k 0) (ap length whole.same ∙ whole.long) in
    rw (eq-eqb _ tally_size whole.long)
    (summed_left empty_tally t s.new.counts _ (is_ok s.result) _ refl
    (subst (λ (l : List ℕ). Summed l t (is_ok s.result) s.new.counts) zeros s.ensures) c.ended.ensures)
