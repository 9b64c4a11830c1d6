-- Any two answers within the promise of a public function are equal. Each promise is read from the source, as a caller reads it.
use Rattle.float.proofs.Words.{Bool}
use contract.Lifetimes.{Lfts}
use Rattle.counts.proofs.Told.{one_coded}
use Rattle.float.specs.OneAnswer.{OneAnswer, OneOutcome}
use Rattle.float.proofs.OneAnswer.{named}
use Rattle.counts.specs.declared.known.Head.{Head}
use Rattle.counts.proofs.known.HeadFromRefArrayU8ANSWERSIZE.from.Reads as head-from
use Rattle.counts.proofs.known.is_foreign.Reads as is-foreign
use Rattle.counts.proofs.tally.zanikory_tally_clear.Reads as clear
use Rattle.counts.proofs.tally.zanikory_tally_record.Reads as record_more
use Rattle.counts.proofs.tally.zanikory_tally_file.Reads as file
use Rattle.counts.proofs.tally.zanikory_tally_of.Reads as tally-of
use Rattle.counts.proofs.tally.zanikory_tally_add.Reads as add

pub one_head_from : (κs : Lfts 1) (a : _) (s : _) → OneAnswer (λ (h : Head). head-from.Post κs a h s)
one_head_from κs a s = named _

pub one_is_foreign : (κs : Lfts 0) (a : _) (s : _) → OneAnswer (λ (r : Bool). is-foreign.Post κs a r s)
one_is_foreign κs a s = named _

pub one_clear : (κs : Lfts 1) (a : _) → OneOutcome (clear.Post κs a) (λ s. s.0.now)
one_clear κs a = one_coded _ _ (λ s. s.0.now)

pub one_record : (κs : Lfts 2) (a : _) → OneOutcome (record_more.Post κs a) (λ s. s.0.now)
one_record κs a = one_coded _ _ (λ s. s.0.now)

pub one_file : (κs : Lfts 2) (a : _) → OneOutcome (file.Post κs a) (λ s. s.0.now)
one_file κs a = one_coded _ _ (λ s. s.0.now)

pub one_of : (κs : Lfts 2) (a : _) → OneOutcome (tally-of.Post κs a) (λ s. s.0.now)
one_of κs a = one_coded _ _ (λ s. s.0.now)

pub one_add : (κs : Lfts 2) (a : _) → OneOutcome (add.Post κs a) (λ s. s.0.now)
one_add κs a = one_coded _ _ (λ s. s.0.now)
