-- Fewer bytes than a request has are no request.
use Rattle.float.proofs.Words.{arith, length-take}
use Rattle.answers.proofs.Rounds.{part_answered}
use Rattle.answers.proofs.answer_part.Goals as goal

pub slice_bounds-zanikory_answer_record-end-3 : goal.slice_bounds-zanikory_answer_record-end-3
slice_bounds-zanikory_answer_record-end-3 c = simp length-take (omega arith)

pub returns : goal.returns
returns c =
    let a = c.args in
    let step = c.zanikory_answer_record in
    part_answered a.have a.requests.now a.answers.now step.new.answer _ (omega arith) (omega arith) (omega arith) step.ensures.1
