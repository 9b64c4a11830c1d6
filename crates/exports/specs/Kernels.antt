-- Products, Cholesky factors and solutions, eigenvalues and singular values, on slices. Definitions only.
use Rattle.std.specs.Prelude.{◌≡◌, List, ◌++◌, ℕ, ◌*◌, eqb, length, Float}
use Rattle.std.specs.Float.{Format}
use Rattle.float.specs.Choice.{pick}
use Rattle.matrix.specs.Answer.{Answer, when_done}
use Rattle.matrix.specs.Arithmetic.{mul_of, sym_mul_of}
use Rattle.cholesky.specs.Factor.{FactorAnswer, refused_factor, factor2_of, factor3_of}
use Rattle.cholesky.specs.Solve.{solve2_of, solve3_of}
use Rattle.eigen.specs.Eigen3x3.{EigenAnswer, eigen_of}
use Rattle.svd.specs.Svd3x3.{SvdAnswer, svd_of}
use Rattle.exports.specs.Slices.{into, into_first, given}

-- ---- y = A x, with the numbers of the matrix in a

unfoldable pub square_mul_of : Format → ℕ → List Float → List Float → List Float → Answer (List Float)
square_mul_of f n a x y = into n y (given (n * n) a y (mul_of f n a x y))

unfoldable pub packed_mul_of : Format → List Float → List Float → List Float → Answer (List Float)
packed_mul_of f h x y = into_first 3 y (given 6 h y (sym_mul_of f h x y))

-- ---- the factor over the old factor l, which is lent: with 1 and 2 it stays, and the pivot's number is 0

abbrev pub factor_into : ℕ → List Float → List Float → FactorAnswer → FactorAnswer
factor_into n l a r = pick (eqb (length l) n) (pick (eqb (length a) n) r (refused_factor l 1)) (refused_factor l 2)

unfoldable pub factor2_into : Format → List Float → List Float → FactorAnswer
factor2_into f l a = factor_into 3 l a (factor2_of f l a)

unfoldable pub factor3_into : Format → List Float → List Float → FactorAnswer
factor3_into f l a = factor_into 6 l a (factor3_of f l a)

-- what such a call promises: the code, and at exit the factor and the pivot's number
abbrev pub Factored : FactorAnswer → ℕ → List Float → ℕ → Type 0
Factored w code l pivot = (code ≡ w.code) × (l ≡ w.factor) × (pivot ≡ w.pivot)

-- ---- the solution by a factor

unfoldable pub solve2_into : Format → List Float → List Float → List Float → Answer (List Float)
solve2_into f l b x = into_first 2 x (given 3 l x (solve2_of f l b x))

unfoldable pub solve3_into : Format → List Float → List Float → List Float → Answer (List Float)
solve3_into f l b x = into_first 3 x (given 6 l x (solve3_of f l b x))

-- ---- values, vectors and the worked matrix, with code 0

abbrev pub eigen_numbers : EigenAnswer → List Float
eigen_numbers r = (r.values ++ r.vectors.«data») ++ r.worked.«data»

unfoldable pub eigen3_into : Format → List Float → List Float → Answer (List Float)
eigen3_into f a out = into 18 out (given 6 a out (when_done (record { code = (eigen_of f a).code; value = eigen_numbers (eigen_of f a) }) out))

-- ---- values, U, V and the worked matrix, with code 0

abbrev pub svd_numbers : SvdAnswer → List Float
svd_numbers r = ((r.values ++ r.u.«data») ++ r.v.«data») ++ r.worked.«data»

unfoldable pub svd3_into : Format → List Float → List Float → Answer (List Float)
svd3_into f a out = into 30 out (given 9 a out (when_done (record { code = (svd_of f a).code; value = svd_numbers (svd_of f a) }) out))
