-- Any two answers within the promise of a public function are equal. Each promise is read from the source, as a caller reads it.
use Rattle.std.proofs.Common.{Result}
use Rattle.float.proofs.Words.{sym, ◌∙◌}
use contract.Lifetimes.{Lfts}
use Rattle.float.specs.OneAnswer.{OneAnswer, OneOutcome}
use Rattle.matrix.specs.Symmetric.{Sym3}
use Rattle.matrix.specs.declared.answers.Unchanged.{Unchanged}
use Rattle.matrix.proofs.Readings.{named_written}
use Rattle.matrix.proofs.Refusals.{code_of_one}
use Rattle.jacobi.specs.declared.pairs.Pair.{Pair}
use Rattle.jacobi.specs.declared.rotation.Rotation.{Rotation}
use Rattle.lent.proofs.rotate_in_place.Reads as rotate-in-place
use Rattle.lent.proofs.rotate.Reads as rotate

pub one_rotate_in_place : (κs : Lfts 1) (a : _) → OneOutcome (rotate-in-place.Post κs a) (λ s. s.0.now)
one_rotate_in_place κs a r q s t p u = (code_of_one (p.0 ∙ sym u.0), p.1 ∙ sym u.1)

pub one_rotate : (a : Sym3) (p : Pair) (t : Rotation)
    → OneAnswer (λ (r : Result Sym3 (Unchanged Sym3)). rotate.Post tt (a, (p, (t, tt))) r (a, (p, (t, tt))))
one_rotate a p t = named_written _
