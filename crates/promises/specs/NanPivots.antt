-- What the codes 9 and 7 tell of the kinds that have a factor. Definitions only.
use Rattle.std.specs.Prelude.{◌≡◌, true, false, List, ◌⊎◌, ℕ, get_or, Float}
use Rattle.std.specs.Float.{Format}
use Rattle.float.specs.Sign.{all_finite}
use Rattle.cholesky.specs.NanPivot.{NanThird}
use Rattle.cholesky.specs.Solve.{solution2_of, solution3_of}
use Rattle.kinds.specs.Work.{Asked, first_of}
use Rattle.promises.specs.Scope.{kind_in, numbers_in}
use Rattle.promises.specs.Conditions.{factor_made2, factor_made3}
use Rattle.kinds.specs.Table.{Kernel, Eigen2x2, Eigen3x3, Svd2x2, Svd3x3, Factor2x2, Factor3x3, Solve2x2, Solve3x3, Unknown}

-- the kinds of the 3x3 factor, and the six numbers of its matrix
abbrev pub HasFactor3x3 : ℕ → Type 0
HasFactor3x3 kind = (kind ≡ 6) ⊎ (kind ≡ 8)

abbrev pub six_in : Format → List ℕ → List Float
six_in f s = numbers_in f 8 6 s

-- 9, of what is left in the answer slice: the third pivot is NaN, and byte 6 has its number
pub record Nine (f : Format) (request left : List ℕ) : Type 0 where
  pub kind : HasFactor3x3 (kind_in request)
  pub third : NanThird f (six_in f request)
  pub number : get_or left 6 0 ≡ 3

-- 7: a factor alone never has it, and with a solution the factor is finite and the solution is not; of the other kinds nothing is told
abbrev pub Seven : Format → Kernel → Asked → Type 0
Seven f Eigen2x2 a = Unit {0}
Seven f Eigen3x3 a = Unit {0}
Seven f Svd2x2 a = Unit {0}
Seven f Svd3x3 a = Unit {0}
Seven f Factor2x2 a = ⊥
Seven f Factor3x3 a = ⊥
Seven f Solve2x2 a = (all_finite (factor_made2 f a) ≡ true) × (all_finite (solution2_of f (factor_made2 f a) (first_of 2 a.three)) ≡ false)
Seven f Solve3x3 a = (all_finite (factor_made3 f a) ≡ true) × (all_finite (solution3_of f (factor_made3 f a) (first_of 3 a.three)) ≡ false)
Seven f Unknown a = Unit {0}
