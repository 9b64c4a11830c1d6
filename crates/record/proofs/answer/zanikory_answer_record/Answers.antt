-- The two sizes are asked one after the other, and each outcome is one record, or none where the answer has no room.
use Rattle.float.proofs.Words.{◌≡◌, refl, ◌∙◌, List, ℕ, take}
use Rattle.float.specs.Width.{F}
use Rattle.kinds.specs.Work.{WorkedAnswer}
use Rattle.kinds.specs.Read.{worked}
use Rattle.record.specs.Layout.{event_bytes}
use Rattle.record.specs.Request.{kind_of, judged_of}
use Rattle.record.specs.Answer.{record_of, answered_of}
use Rattle.record.proofs.Answers.{with_room, wrong_size, no_room}
use Rattle.record.proofs.answer.zanikory_answer_record.Goals as goal

-- s is the request, as an array
answered : (request s out : List ℕ) (w : WorkedAnswer) → s ≡ request → w ≡ judged_of F s → out ≡ record_of F (take event_bytes s) (kind_of s) w
    → (w.code ≡ (judged_of F request).code) × (out ≡ answered_of F request)
answered request s out w e h p = (rw (h, e), p ∙ (rw (h, e)))

pub returns-then-answer-ne-ANSWER_SIZE : goal.returns-then-answer-ne-ANSWER_SIZE
returns-then-answer-ne-ANSWER_SIZE c = rw (no_room F c.args.request.now c.args.answer.now c.if-answer-ne-ANSWER_SIZE.true) (refl, refl)

pub returns-in_default : goal.returns-in_default
returns-in_default c =
    rw (wrong_size F c.args.request.now c.args.answer.now c.if-answer-ne-ANSWER_SIZE.false c.in_default.ensures.1)
    (refl, c.put_record.ensures ∙ (rw c.into.ensures))

pub returns-in-Ok-w : goal.returns-in-Ok-w
returns-in-Ok-w c =
    rw (with_room F c.args.request.now c.args.answer.now c.if-answer-ne-ANSWER_SIZE.false c.in-Ok.ensures.1.long)
    (rw c.in-Ok-w.is at
    (answered c.args.request.now c.in-Ok.s.now _ (worked F c.judged-w.result) c.in-Ok.ensures.1.same c.judged-w.ensures c.put_record-2.ensures))

pub returns-in-Err : goal.returns-in-Err
returns-in-Err c =
    rw (with_room F c.args.request.now c.args.answer.now c.if-answer-ne-ANSWER_SIZE.false c.in-Ok.ensures.1.long)
    (rw c.in-Err.is at
    (answered c.args.request.now c.in-Ok.s.now _ (worked F c.judged-w.result) c.in-Ok.ensures.1.same c.judged-w.ensures c.put_record-2.ensures))
