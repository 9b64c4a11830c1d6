-- Each number that is read stands in its place.
use Rattle.std.proofs.lemmas.Grind.{common_steps}
use Rattle.std.proofs.lemmas.List.Edits.{fill_by_more}
use Rattle.float.proofs.Words.{sym, ◌∙◌, ℕ, arith, Float, nan}
use Rattle.float.specs.Width.{F}
use Rattle.matrix.specs.Places.{at}
use Rattle.matrix.proofs.Tables.{tabulate_all, tabulate-same}
use Rattle.wire.specs.Bytes.{place_of, number_at}
use Rattle.record.proofs.request.numbers.Goals as goal

pub loop-i-preserved : goal.loop-i-preserved
loop-i-preserved g c =
    let l = c.loop-i in
    let here : ℕ → Float = λ (k : ℕ). number_at F (place_of F c.args.at k) c.args.s.now in
    (grind (arith, common_steps), λ k h. rw c.number_at.ensures (fill_by_more here l.xs l.i nan (omega arith) l.invariant.1 k h))

pub returns : goal.returns
returns g c =
    let l = c.loop-i in
    let here : ℕ → Float = λ (k : ℕ). number_at F (place_of F c.args.at k) c.args.s.now in
    sym (tabulate_all g.row.N l.xs l.invariant.0) ∙ tabulate-same g.row.N (at l.xs) here (λ i h. l.invariant.1 i (omega arith))
