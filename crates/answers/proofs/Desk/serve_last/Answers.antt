-- Where something is kept a part is left.
use Rattle.float.proofs.Words.{◌∙◌, lt-ltb, arith}
use Rattle.answers.proofs.Desk.serve_last.Goals as goal

pub returns : goal.returns
returns c =
    record {
      answered = λ h. c.answer_part.ensures;
      gone = c.put-w.result.written;
      state = c.after_part.ensures ∙ (rw (lt-ltb 0 c.args.self.now.progress.kept (omega arith)));
    }
