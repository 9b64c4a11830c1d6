-- After i rounds the first i counts of the other tally are added.
use Rattle.float.proofs.Words.{◌≡◌, sym, ap, ◌∙◌, subst, Bool, true, ℕ, List, suc, add-one, arith, length}
use Rattle.std.specs.Prelude.{is_ok}
use Rattle.counts.specs.Adding.{Summed}
use Rattle.counts.proofs.Sums.{none_summed, handed_on}
use Rattle.counts.proofs.Fronts.{front, front_all, count_more, count_past}
use Rattle.counts.proofs.tally.count_tally.Goals as goal

pub loop-at-init : goal.loop-at-init
loop-at-init c = none_summed c.args.counts.now _ (c.told-counts ∙ sym c.told-more) c.fits-counts

pub returns-in_err-add_at : goal.returns-in_err-add_at
returns-in_err-add_at c =
    let xs = c.args.counts.now in
    let ms = c.args.more.now in
    let l = c.loop-at in
    let same = c.told-more ∙ sym c.told-counts in
    let ys = c.add_at.new.counts in
    let next = count_more xs ms same l.at l.counts ys (is_ok c.add_at.result) (omega arith) l.invariant (rw c.told-more c.add_at.ensures) in
    rw (handed_on c.from_residual.result c.from_residual.ensures.0)
    (count_past xs ms same (suc l.at) ys (is_ok c.add_at.result) (ap is_ok c.in_err-add_at.was) next)

pub loop-at-preserved : goal.loop-at-preserved
loop-at-preserved c =
    let xs = c.args.counts.now in
    let ms = c.args.more.now in
    let l = c.loop-at in
    let ys = c.add_at.new.counts in
    let same = c.told-more ∙ sym c.told-counts in
    let next = count_more xs ms same l.at l.counts ys (is_ok c.add_at.result) (omega arith) l.invariant (rw c.told-more c.add_at.ensures) in
    subst (λ (k : ℕ). Summed xs (front k ms) true ys) (sym (add-one l.at))
    (subst (λ (b : Bool). Summed xs (front (suc l.at) ms) b ys) (ap is_ok c.in_ok-add_at.was) next)

pub returns : goal.returns
returns c =
    let l = c.loop-at in
    let ms = c.args.more.now in
    let last : l.at ≡ length ms = omega arith in
    let all : front l.at ms ≡ ms = ap (λ (k : ℕ). front k ms) last ∙ front_all ms in
    subst (λ (u : List ℕ). Summed c.args.counts.now u true l.counts) all l.invariant
