-- With n the whole requests among `total` bytes their answers fit, and what the write left of them and of the bytes is as the law says.
use Rattle.float.proofs.Words.{arith, length-take, ℕ}
use Rattle.answers.specs.States.{standing, going}
use Rattle.answers.proofs.Rounds.{served}
use Rattle.answers.proofs.Desk.serve.Goals as goal

pub returns : goal.returns
returns c =
    let desk = c.args.self.now in
    let n = c.answer_whole-n in
    let g = simp length-take at c.put-w.ensures.1 in
    λ (rounds : ℕ). served desk.requests c.keep_rest.new.buf n.new.answers c.args.total n.result c.put-w.result.written (standing rounds desk.progress)
    (going rounds c.after_answers.new.self c.after_answers.result) (omega arith) (omega arith) n.ensures (omega arith) c.keep_rest.ensures
    (c.after_answers.ensures rounds)
