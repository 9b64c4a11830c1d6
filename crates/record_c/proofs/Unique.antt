-- Any two answers within the promise of the C entry are equal, and so is what they leave in the lent slice. The promise is read from the source, as a
-- caller reads it.
use contract.Lifetimes.{Lfts}
use Rattle.float.specs.OneAnswer.{OneOutcome}
use Rattle.float.proofs.OneAnswer.{both_named}
use Rattle.record_c.proofs.zanikory_answer_record.Reads as answer-record

pub one_answer_record : (κs : Lfts 2) (a : _) → OneOutcome (answer-record.Post κs a) (λ s. s.1.0.now)
one_answer_record κs a = both_named _ _ (λ s. s.1.0.now)
