-- Any two answers within the promise of a public function are equal, and so is what they leave in a lent slice.
use Rattle.float.proofs.Words.{refl, sym, ◌∙◌, Bool, Float}
use contract.Lifetimes.{Lfts}
use Rattle.float.specs.OneAnswer.{OneAnswer, OneOutcome}
use Rattle.float.proofs.OneAnswer.{named}
use Rattle.wire.proofs.bytes.number_at.Reads as number_at
use Rattle.wire.proofs.bytes.put_numbers.Reads as put-numbers
use Rattle.wire.proofs.bytes.zeros_in.Reads as zeros-in

pub one_number_at : (κs : Lfts 1) (a : _) (s : _) → OneAnswer (λ (r : Float). number_at.Post κs a r s)
one_number_at κs a s = named _

pub one_put_numbers : (κs : Lfts 2) (a : _) → OneOutcome (put-numbers.Post κs a) (λ s. s.0.now)
one_put_numbers κs a r q s t p u = (refl, p ∙ sym u)

pub one_zeros_in : (κs : Lfts 1) (a : _) (s : _) → OneAnswer (λ (r : Bool). zeros-in.Post κs a r s)
one_zeros_in κs a s = named _
