-- Any two answers within the promise of a C entry are equal, and so is what they leave in a lent slice.
use Rattle.float.proofs.Words.{List, ℕ, Float}
use contract.Lifetimes.{Lfts}
use Rattle.float.specs.OneAnswer.{OneOutcome}
use Rattle.float.proofs.OneAnswer.{both_named}
use Rattle.exports.proofs.Left.{all_named}
use Rattle.exports.proofs.kernels.zanikory_mat2_mul.Reads as mat2-mul
use Rattle.exports.proofs.kernels.zanikory_mat3_mul.Reads as mat3-mul
use Rattle.exports.proofs.kernels.zanikory_sym3_mul.Reads as sym3-mul
use Rattle.exports.proofs.kernels.zanikory_cholesky_2x2_factor.Reads as cholesky-2x2-factor
use Rattle.exports.proofs.kernels.zanikory_cholesky_3x3_factor.Reads as cholesky-3x3-factor
use Rattle.exports.proofs.kernels.zanikory_cholesky_2x2_solve.Reads as cholesky-2x2-solve
use Rattle.exports.proofs.kernels.zanikory_cholesky_3x3_solve.Reads as cholesky-3x3-solve
use Rattle.exports.proofs.kernels.zanikory_eigen_3x3.Reads as eigen-3x3
use Rattle.exports.proofs.kernels.zanikory_svd_3x3.Reads as svd-3x3

pub one_mat2_mul : (κs : Lfts 3) (a : _) → OneOutcome (mat2-mul.Post κs a) (λ s. s.1.0.now)
one_mat2_mul κs a = both_named _ _ (λ s. s.1.0.now)

pub one_mat3_mul : (κs : Lfts 3) (a : _) → OneOutcome (mat3-mul.Post κs a) (λ s. s.1.0.now)
one_mat3_mul κs a = both_named _ _ (λ s. s.1.0.now)

pub one_sym3_mul : (κs : Lfts 3) (a : _) → OneOutcome (sym3-mul.Post κs a) (λ s. s.1.0.now)
one_sym3_mul κs a = both_named _ _ (λ s. s.1.0.now)

pub one_cholesky_2x2_factor : (κs : Lfts 3) (a : _) → OneOutcome {L = List Float × ℕ} (cholesky-2x2-factor.Post κs a) (λ s. (s.0.now, s.1.1.0.now))
one_cholesky_2x2_factor κs a = all_named _ _ _ (λ s. s.0.now) (λ s. s.1.1.0.now)

pub one_cholesky_3x3_factor : (κs : Lfts 3) (a : _) → OneOutcome {L = List Float × ℕ} (cholesky-3x3-factor.Post κs a) (λ s. (s.0.now, s.1.1.0.now))
one_cholesky_3x3_factor κs a = all_named _ _ _ (λ s. s.0.now) (λ s. s.1.1.0.now)

pub one_cholesky_2x2_solve : (κs : Lfts 3) (a : _) → OneOutcome (cholesky-2x2-solve.Post κs a) (λ s. s.1.0.now)
one_cholesky_2x2_solve κs a = both_named _ _ (λ s. s.1.0.now)

pub one_cholesky_3x3_solve : (κs : Lfts 3) (a : _) → OneOutcome (cholesky-3x3-solve.Post κs a) (λ s. s.1.0.now)
one_cholesky_3x3_solve κs a = both_named _ _ (λ s. s.1.0.now)

pub one_eigen_3x3 : (κs : Lfts 2) (a : _) → OneOutcome (eigen-3x3.Post κs a) (λ s. s.1.0.now)
one_eigen_3x3 κs a = both_named _ _ (λ s. s.1.0.now)

pub one_svd_3x3 : (κs : Lfts 2) (a : _) → OneOutcome (svd-3x3.Post κs a) (λ s. s.1.0.now)
one_svd_3x3 κs a = both_named _ _ (λ s. s.1.0.now)
