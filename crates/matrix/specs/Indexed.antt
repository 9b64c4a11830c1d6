-- Calls that name a row or a column: answered only below the size n, and refused with 8 otherwise. Definitions only.
use Rattle.std.specs.Prelude.{List, ℕ, ltb, set, Float, Result, Ok, Err}
use Rattle.std.specs.Float.{Format}
use Rattle.float.specs.Choice.{pick}
use Rattle.float.specs.Constants.{zero_f}
use Rattle.matrix.specs.Answer.{Answer, done, refused}
use Rattle.matrix.specs.Places.{at}
use Rattle.matrix.specs.declared.answers.Unchanged.{Unchanged}
use Rattle.matrix.specs.declared.codes.Refusal.{Refusal}
use Rattle.matrix.specs.declared.shape.DenseMatrixN.{DenseMatrixN}
use Rattle.matrix.specs.declared.shape.DenseMatrixSymN.{DenseMatrixSymN}
use Rattle.matrix.specs.Codes.{number_of, told}
use Rattle.matrix.specs.Square.{Mat2, Mat3, mat2, mat3, exchange_of, negate_of}
use Rattle.matrix.specs.Symmetric.{Sym2, Sym3, sym2, sym3}

-- x for a row and a column of the matrix, and z where one is outside
unfoldable pub inside : {A : Type 0} → ℕ → ℕ → ℕ → A → A → Answer A
inside n r c x z = pick (ltb r n) (pick (ltb c n) (done x) (refused 8 z)) (refused 8 z)

-- ---- i is the place of (r, c), in either storage

abbrev pub index_of : ℕ → ℕ → ℕ → ℕ → Answer ℕ
index_of n r c i = inside n r c i 0

abbrev pub read_of : Format → ℕ → ℕ → ℕ → ℕ → List Float → Answer Float
read_of f n r c i xs = inside n r c (at xs i) (zero_f f)

abbrev pub write_of : ℕ → ℕ → ℕ → ℕ → Float → List Float → Answer (List Float)
write_of n r c i x xs = inside n r c (set xs i x) xs

-- ---- the moves of Square

abbrev pub swap_columns_of : ℕ → ℕ → ℕ → List Float → Answer (List Float)
swap_columns_of n i j xs = inside n i j (exchange_of n i j xs) xs

unfoldable pub flip_column_of : ℕ → ℕ → List Float → Answer (List Float)
flip_column_of n i xs = pick (ltb i n) (done (negate_of n i xs)) (refused 8 xs)

-- ---- the numbers of the matrix that a call hands out, or hands back where it is refused

abbrev pub handed : {M : Type 0} → (M → List Float) → Result M (Unchanged M) → Answer (List Float)
handed numbers (Ok m) = done (numbers m)
handed numbers (Err e) = refused (number_of e.why) (numbers e.matrix)

abbrev pub moved : {n s : ℕ} → Result (DenseMatrixN n s) (Unchanged (DenseMatrixN n s)) → Answer (List Float)
moved r = handed (λ m. m.«data») r

abbrev pub written : {n s : ℕ} → Result (DenseMatrixSymN n s) (Unchanged (DenseMatrixSymN n s)) → Answer (List Float)
written r = handed (λ m. m.«data») r

-- those of the matrix that a call hands out, or xs where it is refused
abbrev pub packed_or : {n s : ℕ} → List Float → Result (DenseMatrixSymN n s) Refusal → Answer (List Float)
packed_or xs r = told (λ (k : ℕ). refused k xs) (λ m. done m.«data») r

-- ---- a code and a matrix

abbrev pub mat2_answer : Answer (List Float) → Answer Mat2
mat2_answer a = record { code = a.code; value = mat2 a.value }

abbrev pub mat3_answer : Answer (List Float) → Answer Mat3
mat3_answer a = record { code = a.code; value = mat3 a.value }

abbrev pub sym2_answer : Answer (List Float) → Answer Sym2
sym2_answer a = record { code = a.code; value = sym2 a.value }

abbrev pub sym3_answer : Answer (List Float) → Answer Sym3
sym3_answer a = record { code = a.code; value = sym3 a.value }
