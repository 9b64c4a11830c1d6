-- When the mark of an answer, byte 7, is owed. Definitions only.
use Rattle.std.specs.Prelude.{◌≡◌, false, List, ℕ}
use Rattle.std.specs.Float.{Format}
use Rattle.eigen.specs.Eigen2x2.{blind2_of}
use Rattle.eigen.specs.Counted as eigen
use Rattle.svd.specs.Polar.{blind_sides}
use Rattle.svd.specs.Svd2x2.{sides2_of}
use Rattle.svd.specs.Counted as svd
use Rattle.kinds.specs.Work.{Asked, first_of}
use Rattle.promises.specs.Scope.{kernel_numbered, kind_in, worked_in}
use Rattle.kinds.specs.Table.{Kernel, Eigen2x2, Eigen3x3, Svd2x2, Svd3x3, Factor2x2, Factor3x3, Solve2x2, Solve3x3, Unknown}

-- Of a 2x2 that is turned: its rotation is not blind. Of a 3x3: its last matrix is settled, and none of the rotations made is blind. The others make none.
abbrev pub MarkOwed : Format → Kernel → Asked → Type 0
MarkOwed f Eigen2x2 a = blind2_of f (first_of 3 a.nine) ≡ false
MarkOwed f Eigen3x3 a = eigen.Earned f (first_of 6 a.nine)
MarkOwed f Svd2x2 a = blind_sides f (sides2_of f (first_of 4 a.nine)) ≡ false
MarkOwed f Svd3x3 a = svd.Earned f (first_of 9 a.nine)
MarkOwed f Factor2x2 a = Unit {0}
MarkOwed f Factor3x3 a = Unit {0}
MarkOwed f Solve2x2 a = Unit {0}
MarkOwed f Solve3x3 a = Unit {0}
MarkOwed f Unknown a = Unit {0}

-- of a request: by the matrix that is worked
abbrev pub MarkIn : Format → List ℕ → Type 0
MarkIn f s = MarkOwed f (kernel_numbered (kind_in s)) (worked_in f s)
