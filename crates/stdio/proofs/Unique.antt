-- Any two answers within the promise of a public function are equal. Each promise is read from the source, as a caller reads it.
use Rattle.float.proofs.Words.{ℕ}
use Rattle.std.specs.Prelude.{Result}
use Rattle.std.specs.declared.io.Error.{Error}
use contract.Lifetimes.{Lfts}
use Rattle.float.specs.OneAnswer.{OneAnswer, OneOutcome}
use Rattle.float.proofs.OneAnswer.{named, left_named}
use Rattle.stdio.specs.declared.Outcome.{Outcome}
use Rattle.stdio.specs.declared.Writing.{Writing}
use Rattle.stdio.proofs.ended.Reads as ended
use Rattle.stdio.proofs.to_write.Reads as to_write
use Rattle.stdio.proofs.wrote.Reads as wrote
use Rattle.stdio.proofs.keep_rest.Reads as keep-rest

pub one_ended : (got : Result ℕ Error) (most : ℕ)
    → OneAnswer (λ (r : Outcome). ended.Post tt (got, (most, tt)) r (got, (most, tt)))
one_ended got most = named _

pub one_to_write : (end : ℕ) → OneAnswer (λ (w : Writing). to_write.Post tt (end, tt) w (end, tt))
one_to_write end = named _

pub one_wrote : (w : Writing) (end : ℕ) (o : Outcome) → OneAnswer (λ (r : Writing). wrote.Post tt (w, (end, (o, tt))) r (w, (end, (o, tt))))
one_wrote w end o = named _

pub one_keep_rest : (κs : Lfts 1) (a : _) → OneOutcome (keep-rest.Post κs a) (λ s. s.0.now)
one_keep_rest κs a = left_named _ (λ s. s.0.now)
