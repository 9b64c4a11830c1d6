-- Each round answers one request more, and what lies behind the answers stays.
use Rattle.float.proofs.Words.{◌≡◌, refl, sym, ◌∙◌, ℕ, ◌*◌, arith, take-append-drop}
use Rattle.float.specs.Width.{F}
use Rattle.wire.proofs.Parts.{front_more, rest_more}
use Rattle.record.specs.Layout.{answer_size}
use Rattle.record.specs.Stream.{answers_of, stream_of}
use Rattle.record.proofs.stream.answer_all.Goals as goal

pub loop-i-init : goal.loop-i-init
unfolding answers_of
loop-i-init c = (refl, refl, refl)

pub loop-i-preserved : goal.loop-i-preserved
unfolding answers_of
loop-i-preserved c =
    let l = c.loop-i in
    let y = c.answer_one.new.answers in
    let e = c.answer_one.ensures in
    let a = c.args in (
      omega arith,
      front_more (λ (k : ℕ). answers_of F k a.requests.now) y l.answers _ (answer_size F) l.i e.answers_after l.invariant.1 refl,
      rest_more y l.answers a.answers.now (answer_size F) l.i e.answers_unchanged l.invariant.2,
    )

pub returns : goal.returns
unfolding stream_of
returns c =
    let l = c.loop-i in
    let n = c.min-n in
    let e : l.i ≡ n.result = omega arith in
    (n.ensures, sym (take-append-drop (answer_size F * l.i) l.answers) ∙ (rw (l.invariant.1, l.invariant.2, e, n.ensures)))
