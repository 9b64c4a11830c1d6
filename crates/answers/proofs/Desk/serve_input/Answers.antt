-- The first round is ready, and what each round leaves is what the next one starts from.
use Rattle.float.proofs.Words.{refl, ap, ◌∙◌, subst, subst⁻¹, ℕ, ◌-◌, arith}
use Rattle.std.specs.Prelude.{Result, Ok}
use Rattle.std.proofs.lemmas.Result.{err_from_is_err_and}
use Rattle.float.specs.Width.{F}
use Rattle.stdio.specs.Calls.{most_calls}
use Rattle.answers.specs.declared.decide.Failure.{Failure}
use Rattle.answers.specs.declared.decide.Progress.{Progress}
use Rattle.answers.specs.States.{standing, stopped, stopping}
use Rattle.answers.specs.Rounds.{first, Finished}
use Rattle.answers.proofs.Rounds.{Led, led_on, stops}
use Rattle.answers.proofs.Desk.serve_input.Goals as goal

pub loop-round-init : goal.loop-round-init
loop-round-init c =
    let desk = c.args.self.now in
    subst⁻¹ (λ (p : Progress). Led desk.requests (standing most_calls p)) c.requires
    (record { ready = (omega arith, omega arith); reached = first desk.requests })

pub loop-round-preserved : goal.loop-round-preserved
loop-round-preserved c =
    let left = c.follow.new.self in
    let rounds = most_calls - c.loop-round._round in
    subst (λ (k : ℕ). Led left.requests (standing k left.progress)) (omega arith)
    (led_on rounds c.loop-round.self left c.read-o.result c.read-o.new.buf _ _ c.loop-round.invariant (omega arith) c.read-o.ensures (c.follow.ensures rounds)
    (c.in_ok-follow.was ∙ ap Ok c.in-Continue.is))

pub returns-in-Break : goal.returns-in-Break
returns-in-Break c =
    let left = c.follow.new.self in
    let rounds = most_calls - c.loop-round._round in
    let led =
    led_on rounds c.loop-round.self left c.read-o.result c.read-o.new.buf _ _ c.loop-round.invariant (omega arith) c.read-o.ensures
    (c.follow.ensures rounds) (c.in_ok-follow.was ∙ ap Ok c.in-Break.is) in
    (refl, led.reached)

pub returns-in_err-follow : goal.returns-in_err-follow
returns-in_err-follow c =
    let left = c.follow.new.self in
    let rounds = most_calls - c.loop-round._round in
    let led =
    led_on rounds c.loop-round.self left c.read-o.result c.read-o.new.buf _ _ c.loop-round.invariant (omega arith) c.read-o.ensures
    (c.follow.ensures rounds) c.in_err-follow.was in
    let back = err_from_is_err_and c.from_residual.result c.from_residual.ensures.1 in
    subst⁻¹ (λ (r : Result Unit Failure). Finished F left.requests (stopping left.progress r)) back.1
    (stops left.requests left.progress back.0 (subst⁻¹ (λ (e : Failure). Led left.requests (stopped left.progress e)) back.2 led))
