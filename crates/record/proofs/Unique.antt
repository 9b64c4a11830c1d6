-- Any two answers within the promise of a public function are equal. Each promise is read from the source, as a caller reads it.
use Rattle.float.proofs.Words.{sym, ◌∙◌}
use Rattle.std.specs.Prelude.{Result}
use contract.Lifetimes.{Lfts}
use Rattle.float.specs.OneAnswer.{OneAnswer, OneOutcome}
use Rattle.float.proofs.OneAnswer.{both_named}
use Rattle.matrix.specs.declared.codes.Refusal.{Refusal}
use Rattle.matrix.proofs.Refusals.{code_of_one, code_named}
use Rattle.record.proofs.request.form.Reads as form
use Rattle.record.proofs.answer.zanikory_answer_record.Reads as answer-record
use Rattle.record.proofs.stream.answer_all.Reads as answer-all

pub one_form : (κs : Lfts 1) (a : _) (s : _) → OneAnswer (λ (r : Result (Unit {0}) Refusal). form.Post κs a r s)
one_form κs a s r q p u = code_of_one (p ∙ sym u)

pub one_answer_record : (κs : Lfts 2) (a : _) → OneOutcome (answer-record.Post κs a) (λ s. s.1.0.now)
one_answer_record κs a = code_named _ _ (λ s. s.1.0.now)

pub one_answer_all : (κs : Lfts 2) (a : _) → OneOutcome (answer-all.Post κs a) (λ s. s.1.0.now)
one_answer_all κs a = both_named _ _ (λ s. s.1.0.now)
