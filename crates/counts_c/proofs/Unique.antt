-- Any two answers within the promise of a C entry are equal, and so is what they leave in the lent slice. Each promise is read from the source, as a
-- caller reads it.
use contract.Lifetimes.{Lfts}
use Rattle.float.specs.OneAnswer.{OneOutcome}
use Rattle.float.proofs.OneAnswer.{both_named}
use Rattle.counts_c.proofs.zanikory_tally_clear.Reads as clear
use Rattle.counts_c.proofs.zanikory_tally_record.Reads as record_more
use Rattle.counts_c.proofs.zanikory_tally_file.Reads as file
use Rattle.counts_c.proofs.zanikory_tally_of.Reads as tally-of
use Rattle.counts_c.proofs.zanikory_tally_add.Reads as add

pub one_clear : (κs : Lfts 1) (a : _) → OneOutcome (clear.Post κs a) (λ s. s.0.now)
one_clear κs a = both_named _ _ (λ s. s.0.now)

pub one_record : (κs : Lfts 2) (a : _) → OneOutcome (record_more.Post κs a) (λ s. s.0.now)
one_record κs a = both_named _ _ (λ s. s.0.now)

pub one_file : (κs : Lfts 2) (a : _) → OneOutcome (file.Post κs a) (λ s. s.0.now)
one_file κs a = both_named _ _ (λ s. s.0.now)

pub one_of : (κs : Lfts 2) (a : _) → OneOutcome (tally-of.Post κs a) (λ s. s.0.now)
one_of κs a = both_named _ _ (λ s. s.0.now)

pub one_add : (κs : Lfts 2) (a : _) → OneOutcome (add.Post κs a) (λ s. s.0.now)
one_add κs a = both_named _ _ (λ s. s.0.now)
