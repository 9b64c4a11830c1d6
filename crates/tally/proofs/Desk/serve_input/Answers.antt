-- Nothing is seen before the first round, and each one sees what its read brought.
use Rattle.float.proofs.Words.{refl, ap, ◌∙◌, subst, subst⁻¹, ℕ, ◌-◌, arith}
use Rattle.std.specs.Prelude.{Result, Ok}
use Rattle.std.proofs.lemmas.Result.{err_from_is_err_and}
use Rattle.float.specs.Width.{F}
use Rattle.stdio.specs.Calls.{most_calls}
use Rattle.tally.specs.declared.decide.Failure.{Failure}
use Rattle.tally.specs.States.{standing, stopped, stopping}
use Rattle.tally.specs.Rounds.{Finished}
use Rattle.tally.proofs.Rounds.{clears, empty, Led, led, led_on, finished, stops}
use Rattle.tally.proofs.Desk.serve_input.Goals as goal

pub unwrap-requires : goal.unwrap-requires
unwrap-requires c = clears c.args.self.now.counts (omega arith) c.zanikory_tally_clear.result c.zanikory_tally_clear.ensures.0

pub loop-round-init : goal.loop-round-init
loop-round-init c =
    let desk = c.args.self.now in
    let t = c.zanikory_tally_clear in
    led desk.answers t.new.counts (empty desk.counts (omega arith) t.new.counts t.ensures.1)

pub loop-round-preserved : goal.loop-round-preserved
loop-round-preserved c =
    let left = c.follow.new.self in
    let rounds = most_calls - c.loop-round._round in
    subst (λ (k : ℕ). Led left.answers left.counts (standing k left.kept)) (omega arith)
    (led_on rounds c.loop-round.self left c.read-o.result c.read-o.new.buf _ _ c.loop-round.invariant (omega arith) c.read-o.ensures (c.follow.ensures rounds)
    (c.in_ok-follow.was ∙ ap Ok c.in-Continue.is))

pub returns-in-Break : goal.returns-in-Break
returns-in-Break c =
    let left = c.follow.new.self in
    let rounds = most_calls - c.loop-round._round in
    let on =
    led_on rounds c.loop-round.self left c.read-o.result c.read-o.new.buf _ _ c.loop-round.invariant (omega arith) c.read-o.ensures
    (c.follow.ensures rounds) (c.in_ok-follow.was ∙ ap Ok c.in-Break.is) in
    finished left.answers left.counts _ refl on

pub returns-in_err-follow : goal.returns-in_err-follow
returns-in_err-follow c =
    let left = c.follow.new.self in
    let rounds = most_calls - c.loop-round._round in
    let on =
    led_on rounds c.loop-round.self left c.read-o.result c.read-o.new.buf _ _ c.loop-round.invariant (omega arith) c.read-o.ensures
    (c.follow.ensures rounds) c.in_err-follow.was in
    let back = err_from_is_err_and c.from_residual.result c.from_residual.ensures.1 in
    subst⁻¹ (λ (r : Result Unit Failure). Finished F left.counts (stopping left.kept r)) back.1
    (stops left.answers left.counts left.kept back.0 (subst⁻¹ (λ (e : Failure). Led left.answers left.counts (stopped left.kept e)) back.2 on))

pub returns : goal.returns
returns c =
    let l = c.loop-round in
    let on : Led l.self.answers l.self.counts (standing 0 l.self.kept) =
    subst (λ (k : ℕ). Led l.self.answers l.self.counts (standing k l.self.kept)) (omega arith) l.invariant in
    finished l.self.answers l.self.counts _ refl on
