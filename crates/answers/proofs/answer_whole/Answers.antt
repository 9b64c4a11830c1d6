-- A large buffer has room for a batch of answers, and there are no more requests than that: all of them are answered.
use Rattle.float.proofs.Words.{arith}
use Rattle.answers.proofs.Rounds.{all_answered}
use Rattle.answers.proofs.answer_whole.Goals as goal

pub returns : goal.returns
returns c =
    let a = c.args in
    all_answered a.total a.requests.now a.answers.now c.answer_all.new.answers c.answer_all.result (omega arith) (omega arith) (omega arith)
    c.answer_all.ensures
