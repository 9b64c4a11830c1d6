-- The kinds of requests, one row each: the number in a request, how many numbers it uses of the nine and of the three, whether its answer counts
-- rotations, whether its matrix is scaled unless the request's way says no, and the kernel that answers. Definitions only.
use Rattle.std.specs.Prelude.{Bool, true, false, not, ◌||◌, List, [], ◌∷◌, ℕ, eqb, leb}
use Rattle.float.specs.Choice.{pick}

-- what answers a kind: eigenvalues, singular values, a Cholesky factor, and a factor with a solution, of size 2 or 3
pub data Kernel : Type 0 where
  Eigen2x2 : Kernel
  Eigen3x3 : Kernel
  Svd2x2 : Kernel
  Svd3x3 : Kernel
  Factor2x2 : Kernel
  Factor3x3 : Kernel
  Solve2x2 : Kernel
  Solve3x3 : Kernel
  Unknown : Kernel

pub record Kind : Type 0 where
  pub number : ℕ
  pub nine : ℕ
  pub three : ℕ
  pub counts : Bool
  pub scales : Bool
  pub kernel : Kernel

abbrev pub row : ℕ → ℕ → ℕ → Bool → Bool → Kernel → Kind
row number nine three counts scales kernel =
    record { number = number; nine = nine; three = three; counts = counts; scales = scales; kernel = kernel }

abbrev pub kinds : List Kind
kinds =
    row 1 3 0 false true Eigen2x2
    ∷ row 2 6 0 true true Eigen3x3
    ∷ row 3 4 0 false true Svd2x2
    ∷ row 4 9 0 true true Svd3x3
    ∷ row 5 3 0 false false Factor2x2
    ∷ row 6 6 0 false false Factor3x3
    ∷ row 7 3 2 false false Solve2x2
    ∷ row 8 6 3 false false Solve3x3
    ∷ []

-- a number that no row has
abbrev pub unknown : Kind
unknown = row 0 0 0 false false Unknown

abbrev pub numbered_in : ℕ → List Kind → Kind
numbered_in n [] = unknown
numbered_in n (k ∷ ks) = pick (eqb n k.number) k (numbered_in n ks)

abbrev pub kind_numbered : ℕ → Kind
kind_numbered n = numbered_in n kinds

abbrev pub known_kind : ℕ → Bool
known_kind n = not (eqb (kind_numbered n).number 0)

-- the ways of a kind: 0, and 1 too where its matrix is scaled
abbrev pub known_way : ℕ → ℕ → Bool
known_way n way = leb way (pick (kind_numbered n).scales 1 0)

-- the counts of the nine that rows have
abbrev pub count_of_row : ℕ → Bool
count_of_row n = eqb n 0 || eqb n 3 || eqb n 4 || eqb n 6 || eqb n 9
