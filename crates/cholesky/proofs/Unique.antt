-- Any two answers within the promise of a public function are equal. Each promise is read from the source, as a caller reads it.
use Rattle.std.proofs.Common.{Result}
use Rattle.float.proofs.Words.{refl, sym, ◌∙◌, ap, List, ℕ, Float}
use contract.Lifetimes.{Lfts}
use Rattle.float.specs.Width.{F}
use Rattle.float.specs.OneAnswer.{OneAnswer, OneOutcome}
use Rattle.float.proofs.OneAnswer.{named}
use Rattle.matrix.specs.Symmetric.{Sym2, Sym3, sym2, sym3}
use Rattle.matrix.specs.declared.codes.Refusal.{Refusal}
use Rattle.matrix.proofs.Refusals.{code_of_one}
use Rattle.cholesky.specs.Factor.{FactorAnswer}
use Rattle.cholesky.specs.declared.answers.FactorError.{FactorError}
use Rattle.cholesky.specs.declared.answers.Solved.{Solved}
use Rattle.cholesky.proofs.Told.{same_pivot, same_factor, same_solved}
use Rattle.cholesky.proofs.answers.FactorError.refusal.Reads as error-refusal
use Rattle.cholesky.proofs.answers.FactorError.pivot.Reads as error-pivot
use Rattle.cholesky.proofs.pivot.pivot_step.Reads as pivot-step
use Rattle.cholesky.proofs.cholesky2x2.cholesky_2x2_explicit_factor.Reads as factor2
use Rattle.cholesky.proofs.cholesky2x2.cholesky_2x2_explicit_solve.Reads as solve2
use Rattle.cholesky.proofs.cholesky2x2.factor_and_solve.Reads as factor-and-solve2
use Rattle.cholesky.proofs.cholesky3x3.cholesky_3x3_explicit_factor.Reads as factor3
use Rattle.cholesky.proofs.cholesky3x3.cholesky_3x3_explicit_solve.Reads as solve3
use Rattle.cholesky.proofs.cholesky3x3.factor_and_solve.Reads as factor-and-solve3

pub one_error_refusal : (e : FactorError) → OneAnswer (λ (r : Refusal). error-refusal.Post tt (e, tt) r (e, tt))
one_error_refusal e = named _

pub one_error_pivot : (e : FactorError) → OneAnswer (λ (k : ℕ). error-pivot.Post tt (e, tt) k (e, tt))
one_error_pivot e = named _

pub one_pivot_step : (t : Float) (k : ℕ) → OneAnswer (λ (p : Result Float FactorError). pivot-step.Post tt (t, (k, tt)) p (t, (k, tt)))
one_pivot_step t k p q a b = same_pivot F p q (a ∙ sym b)

pub one_factor2 : (κs : Lfts 1) (a : _) → OneOutcome (factor2.Post κs a) (λ s. s.0.now)
one_factor2 κs a r q s t p u = let e = p ∙ sym u in (same_factor r q _ _ e, ap (λ (w : FactorAnswer). sym2 w.factor) e)

pub one_solve2 : (κs : Lfts 2) (a : _) → OneOutcome (solve2.Post κs a) (λ s. s.1.0.now)
one_solve2 κs a r q s t p u = (code_of_one (p.0 ∙ sym u.0), p.1 ∙ sym u.1)

pub one_factor_and_solve2 : (a : Sym2) (b : List Float)
    → OneAnswer (λ (r : Result (Solved Sym2 2) FactorError). factor-and-solve2.Post tt (a, (b, tt)) r (a, (b, tt)))
one_factor_and_solve2 a b r q p u = same_solved (λ (l : Sym2). l.«data») sym2 (λ l. refl) F 2 r q (p ∙ sym u)

pub one_factor3 : (κs : Lfts 1) (a : _) → OneOutcome (factor3.Post κs a) (λ s. s.0.now)
one_factor3 κs a r q s t p u = let e = p ∙ sym u in (same_factor r q _ _ e, ap (λ (w : FactorAnswer). sym3 w.factor) e)

pub one_solve3 : (κs : Lfts 2) (a : _) → OneOutcome (solve3.Post κs a) (λ s. s.1.0.now)
one_solve3 κs a r q s t p u = (code_of_one (p.0 ∙ sym u.0), p.1 ∙ sym u.1)

pub one_factor_and_solve3 : (a : Sym3) (b : List Float)
    → OneAnswer (λ (r : Result (Solved Sym3 3) FactorError). factor-and-solve3.Post tt (a, (b, tt)) r (a, (b, tt)))
one_factor_and_solve3 a b r q p u = same_solved (λ (l : Sym3). l.«data») sym3 (λ l. refl) F 3 r q (p ∙ sym u)
