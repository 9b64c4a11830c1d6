-- Any two answers within the promise of the C entry are equal, and so is what they leave in the lent slice. The promise is read from the source, as a
-- caller reads it.
use contract.Lifetimes.{Lfts}
use Rattle.float.specs.OneAnswer.{OneOutcome}
use Rattle.float.proofs.OneAnswer.{both_named}
use Rattle.row_c.proofs.zanikory_svd_3x3_row.Reads as svd-3x3-row

pub one_svd_3x3_row : (κs : Lfts 2) (a : _) → OneOutcome (svd-3x3-row.Post κs a) (λ s. s.1.0.now)
one_svd_3x3_row κs a = both_named _ _ (λ s. s.1.0.now)
