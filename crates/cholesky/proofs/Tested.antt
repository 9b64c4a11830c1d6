-- What is told of steps that stopped stands, since there is nothing to judge: of a factor alone, and with its solution.
use Rattle.std.proofs.Common.{Err}
use Rattle.float.proofs.Words.{◌≡◌, refl, true, List, ◌++◌, ℕ, Float, Format}
use Rattle.float.specs.Sign.{all_finite}
use Rattle.float.proofs.Judged.{stands, unjudged}
use Rattle.cholesky.specs.Factor.{FactorAnswer, factored, factor_of}
use Rattle.cholesky.specs.Solve.{refused_solved, factor_and_solve_of}
use Rattle.cholesky.specs.Error.{error_code, pivot_number}
use Rattle.cholesky.specs.declared.answers.FactorError.{FactorError}
use Rattle.cholesky.proofs.Told.{coded}

module _ {left : List Float} {r : FactorAnswer} (e : FactorError) (s : factored (Err e) left ≡ r) where
  pub stopped : (l a : List Float) → true ≡ all_finite a → factored (Err e) left ≡ factor_of l a r
  stopped l a h = rw (stands a h refl, ← s) (rw (coded e) (rw unjudged))

  pub unsolved : (f : Format) (n : ℕ) (a b x : List Float) → true ≡ all_finite (a ++ b)
      → refused_solved f n (pivot_number e) (error_code e) ≡ factor_and_solve_of f n a b r x
  unsolved f n a b x h = rw (stands (a ++ b) h refl, ← s) (rw (coded e) (rw unjudged))
