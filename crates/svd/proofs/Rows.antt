-- The codes of the calls for singular values, by their rows: 5 before 7, over the numbers that each call returns and works on.
use Rattle.float.proofs.Words.{List, Float, Format}
use Rattle.matrix.specs.Rows.{Gives, kernel_rows}
use Rattle.matrix.proofs.Rows.{kernel_codes}
use Rattle.svd.specs.Svd2x2.{sides2_of, factors2_of, numbers2_of, svd2_of}
use Rattle.svd.specs.Svd3x3.{last_of, numbers_of, svd_of}
use Rattle.svd.proofs.Owed.{svd3_code, svd2_code}

module _ (f : Format) (a : List Float) where
  pub svd3_codes : Gives (kernel_rows a (numbers_of (last_of f a))) (svd_of f a).code
  svd3_codes = kernel_codes a (numbers_of (last_of f a)) (svd3_code f a)

  pub svd2_codes : Gives (kernel_rows a (numbers2_of (factors2_of (sides2_of f a)))) (svd2_of f a).code
  svd2_codes = kernel_codes a (numbers2_of (factors2_of (sides2_of f a))) (svd2_code f a)
