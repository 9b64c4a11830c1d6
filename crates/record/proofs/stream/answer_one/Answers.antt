-- The step is made on the request and on the place of its answer; what lies before and behind stays.
use Rattle.float.proofs.Words.{◌≡◌, ap, ◌∙◌, ℕ, ◌+◌, ◌-◌, ◌*◌, arith, length, take, drop, length-take, length-drop, drop-drop}
use Rattle.float.specs.Width.{F}
use Rattle.record.specs.Layout.{request_size, answer_size}
use Rattle.record.specs.Answer.{answered_of}
use Rattle.record.proofs.Streams.{stepped, before_part, behind-part}
use Rattle.record.proofs.stream.answer_one.Goals as goal

pub returns : goal.returns
returns c =
    let step = c.zanikory_answer_record in
    let a = c.args in
    let b = answer_size F * a.i in
    let n : (b + answer_size F) - b ≡ answer_size F = omega arith in
    let m : (request_size F * a.i + request_size F) - request_size F * a.i ≡ request_size F = omega arith in
    let room : length (take ((b + answer_size F) - b) (drop b a.answers.now)) ≡ answer_size F = simp (length-take, length-drop) (omega arith) in
    let size : length (take ((request_size F * a.i + request_size F) - request_size F * a.i) (drop (request_size F * a.i) a.requests.now)) ≡ request_size F =
    simp (length-take, length-drop) (omega arith) in
    let done = step.ensures.1 ∙ stepped F _ _ size room ∙ ap (λ (k : ℕ). answered_of F (take k (drop (request_size F * a.i) a.requests.now))) m in
    let rest : b + ((b + answer_size F) - b) ≡ b + answer_size F = omega arith in
    let long : length step.new.answer ≡ answer_size F = step.auto.answer ∙ room in
    record {
      answers_after = before_part a.answers.now step.new.answer _ _ b (answer_size F) c.requires.1 long done;
      answers_unchanged =
          behind-part a.answers.now step.new.answer _ b (answer_size F) c.requires.1 long
          ∙ drop-drop ((b + answer_size F) - b) b a.answers.now
          ∙ ap (λ (k : ℕ). drop k a.answers.now) rest;
    }
