-- Square matrices of size n, column by column. Definitions only.
use Rattle.std.specs.Prelude.{List, ℕ, ◌*◌, ◌/◌, ◌%◌, eqb, Float}
use Rattle.std.specs.Float.{Format}
use Rattle.std.specs.Float.Ieee.{neg}
use Rattle.float.specs.Choice.{pick}
use Rattle.float.specs.Constants.{zero_f, one_f}
use Rattle.matrix.specs.Places.{IsSquare, at, tabulate, square_index}
use Rattle.matrix.specs.declared.shape.DenseMatrixN.{DenseMatrixN}

-- ---- the structs

abbrev pub Mat2 : Type 0
Mat2 = DenseMatrixN 2 4

abbrev pub Mat3 : Type 0
Mat3 = DenseMatrixN 3 9

abbrev pub square_with : {n s : ℕ} → IsSquare n s → List Float → DenseMatrixN n s
square_with p xs = record { «data» = xs; square = p }

abbrev pub mat2 : List Float → Mat2
mat2 xs = square_with {n = 2} {s = 4} tt xs

abbrev pub mat3 : List Float → Mat3
mat3 xs = square_with {n = 3} {s = 9} tt xs

-- ---- moves

-- the matrix of the numbers g r c
abbrev pub square_of : ℕ → (ℕ → ℕ → Float) → List Float
square_of n g = tabulate (n * n) (λ (i : ℕ). g (i % n) (i / n))

-- the number at (r, c)
abbrev pub entry_of : ℕ → List Float → ℕ → ℕ → Float
entry_of n xs r c = at xs (square_index n r c)

abbrev pub identity_of : Format → ℕ → List Float
identity_of f n = square_of n (λ (r c : ℕ). pick (eqb r c) (one_f f) (zero_f f))

abbrev pub transpose_of : ℕ → List Float → List Float
transpose_of n xs = square_of n (λ (r c : ℕ). entry_of n xs c r)

-- the column that stands at c after columns i and j have changed places
abbrev pub exchanged : ℕ → ℕ → ℕ → ℕ
exchanged i j c = pick (eqb c i) j (pick (eqb c j) i c)

abbrev pub exchange_of : ℕ → ℕ → ℕ → List Float → List Float
exchange_of n i j xs = square_of n (λ (r c : ℕ). entry_of n xs r (exchanged i j c))

abbrev pub negate_of : ℕ → ℕ → List Float → List Float
negate_of n i xs = square_of n (λ (r c : ℕ). pick (eqb c i) (neg (entry_of n xs r c)) (entry_of n xs r c))
