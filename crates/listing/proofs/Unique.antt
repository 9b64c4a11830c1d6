-- Any two answers within the promise of a public function are equal, and so is what they leave in a lent slice.
use contract.Lifetimes.{Lfts}
use Rattle.float.specs.OneAnswer.{OneOutcome}
use Rattle.listing.proofs.Told.{one_listed}
use Rattle.listing.proofs.page.listing.Reads as listing

pub one_listing : (κs : Lfts 2) (a : _) → OneOutcome (listing.Post κs a) (λ s. s.1.0.now)
one_listing κs a = one_listed _ (λ s. s.1.0.now)
