-- The codes of the calls for eigenvalues, by their rows: 5 before 7, over the numbers that each call returns and works on.
use Rattle.float.proofs.Words.{List, Float, Format}
use Rattle.matrix.specs.Rows.{Gives, kernel_rows}
use Rattle.matrix.proofs.Rows.{kernel_codes}
use Rattle.eigen.specs.Eigen2x2.{solved2, numbers2_of, eigen2_of}
use Rattle.eigen.specs.Eigen3x3.{last_of, numbers_of, eigen_of}
use Rattle.eigen.specs.EigVals.{bare_last_of, eigvals_of, eigvals2_of}
use Rattle.eigen.proofs.Owed.{eigen3_code, eigvals3_code, eigen2_code, eigvals2_code}

module _ (f : Format) (a : List Float) where
  pub eigen3_codes : Gives (kernel_rows a (numbers_of (last_of f a))) (eigen_of f a).code
  eigen3_codes = kernel_codes a (numbers_of (last_of f a)) (eigen3_code f a)

  pub eigvals3_codes : Gives (kernel_rows a (bare_last_of f a).matrix) (eigvals_of f a).code
  eigvals3_codes = kernel_codes a (bare_last_of f a).matrix (eigvals3_code f a)

  pub eigen2_codes : Gives (kernel_rows a (numbers2_of (solved2 f a))) (eigen2_of f a).code
  eigen2_codes = kernel_codes a (numbers2_of (solved2 f a)) (eigen2_code f a)

  pub eigvals2_codes : Gives (kernel_rows a (solved2 f a).values) (eigvals2_of f a).code
  eigvals2_codes = kernel_codes a (solved2 f a).values (eigvals2_code f a)
