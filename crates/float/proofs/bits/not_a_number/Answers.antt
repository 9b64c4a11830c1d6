-- The pattern that the constant has is that of no number.
use Rattle.float.proofs.Words.{refl, of_bits}
use Rattle.float.proofs.bits.not_a_number.Goals as goal

pub returns : goal.returns
unfolding of_bits
returns c = refl
