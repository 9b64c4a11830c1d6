-- Where the numbers of a matrix of size n stand in its list. Definitions only.
use Rattle.std.specs.Prelude.{List, [], ◌∷◌, ℕ, zero, suc, ◌+◌, ◌*◌, ◌/◌, ◌<◌, T, ltb, leb, eqb, ◌&&◌, get_or, replicate, Float}
use Rattle.std.specs.Float.{nan, Format}
use Rattle.std.specs.Float.Ieee.{neg, fits}
use Rattle.float.specs.Choice.{pick}
use Rattle.float.specs.Constants.{zero_f}

abbrev pub at : List Float → ℕ → Float
at xs i = get_or xs i nan

-- g 0, g 1, .. of n numbers
abbrev pub tabulate : ℕ → (ℕ → Float) → List Float
tabulate zero g = []
tabulate (suc n) g = g 0 ∷ tabulate n (λ (i : ℕ). g (suc i))

-- each of n numbers negated
abbrev pub negated_of : ℕ → List Float → List Float
negated_of n xs = tabulate n (λ (i : ℕ). neg (at xs i))

abbrev pub zeros : Format → ℕ → List Float
zeros f n = replicate n (zero_f f)

-- the first n numbers are values of the format, as every number of the code is
abbrev pub Fit : Format → ℕ → List Float → Type 0
Fit f n xs = (i : ℕ) → i < n → T (fits f (at xs i))

-- ---- the place of (r, c)

-- a square matrix stands column by column
abbrev pub square_index : ℕ → ℕ → ℕ → ℕ
square_index n r c = r + c * n

abbrev pub triangular : ℕ → ℕ
triangular n = n * (n + 1) / 2

-- s numbers are those of a square matrix of size n, which has two columns at least
abbrev pub IsSquare : ℕ → ℕ → Type 0
IsSquare n s = T (leb 2 n && eqb s (n * n))

-- s numbers are the upper triangle of a symmetric matrix of size n, which is at most 3
abbrev pub IsPacked : ℕ → ℕ → Type 0
IsPacked n s = T (leb n 3 && eqb s (triangular n))

-- of a symmetric one the upper triangle, column by column: A11, A12, A22, A13, A23, A33
abbrev pub packed_index : ℕ → ℕ → ℕ
packed_index r c = pick (ltb r c) (r + triangular c) (c + triangular r)
