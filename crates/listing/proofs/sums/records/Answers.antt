-- In each round the sum is that of the totals so far.
use Rattle.float.proofs.Words.{◌≡◌, refl, sym, ap, ◌∙◌, ℕ, ◌+◌, arith, length, take, take_all}
use Rattle.counts.specs.Known.{codes}
use Rattle.counts.specs.Tally.{total}
use Rattle.listing.specs.Sums.{sum_in}
use Rattle.listing.proofs.Totals.{checked, sum_past, sum_front, front_most}
use Rattle.listing.proofs.sums.records.Goals as goal

pub loop-n-init : goal.loop-n-init
unfolding total
loop-n-init c = refl

pub returns-in_err-sum : goal.returns-in_err-sum
returns-in_err-sum c =
    let ns = take (length codes) c.args.totals.now in
    let more = sum_front ns c.loop-n.n-index c.loop-n-test.true in
    let all = front_most ns (c.loop-n.n-index + 1) in
    c.from_residual.ensures ∙ sym (sum_past (total ns + c.args.foreign) (omega (arith, more, all, c.in_err-sum.ensures, c.loop-n.invariant)))

pub loop-n-preserved : goal.loop-n-preserved
loop-n-preserved c =
    let ns = take (length codes) c.args.totals.now in
    let more = sum_front ns c.loop-n.n-index c.loop-n-test.true in
    omega (arith, more, c.in_ok-sum.ensures.1, c.loop-n.invariant)

pub returns : goal.returns
returns c =
    let ns = take (length codes) c.args.totals.now in
    let last : take c.loop-n.n-index ns ≡ ns = take_all c.loop-n.n-index ns c.loop-n-test.false in
    let all : c.loop-n.sum ≡ total ns = c.loop-n.invariant ∙ ap total last in
    checked c.checked_add-2.result _ c.checked_add-2.ensures ∙ ap (λ (n : ℕ). sum_in (n + c.args.foreign)) all
