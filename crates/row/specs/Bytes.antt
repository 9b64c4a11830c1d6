-- The row call on bytes: matrices and answers one after the other, as a program in C has them. Definitions only.
use Rattle.std.specs.Prelude.{◌&&◌, List, [], ◌∷◌, ◌++◌, ℕ, zero, suc, ◌*◌, ◌/◌, ◌%◌, eqb, length, replicate}
use Rattle.std.specs.Float.{Format}
use Rattle.float.specs.Choice.{pick}
use Rattle.matrix.specs.Square.{mat3, Mat3}
use Rattle.matrix.specs.Answer.{Answer, when_done}
use Rattle.jacobi.specs.Blind.{mark_of}
use Rattle.svd.specs.Svd3x3.{SvdAnswer}
use Rattle.wire.specs.Bytes.{place_of, numbers_from, number_bytes_of}
use Rattle.row.specs.Row.{row_code_of, singles_of}

-- ---- a matrix: nine numbers, column by column

abbrev pub mat_size : Format → ℕ
mat_size f = place_of f 0 9

-- the matrix in place i
abbrev pub mat_at : Format → ℕ → List ℕ → Mat3
mat_at f i s = mat3 (numbers_from f 9 (mat_size f * i) s)

-- the first n
unfoldable pub mats_of : Format → ℕ → List ℕ → List Mat3
mats_of f zero s = []
mats_of f (suc n) s = mats_of f n s ++ (mat_at f n s ∷ [])

-- ---- an answer: the head, then the values, U, V and the worked matrix

-- the head: code, count and mark, and zeros up to the values
abbrev pub values_at : ℕ
values_at = 8

abbrev pub u_at : Format → ℕ
u_at f = place_of f values_at 3

abbrev pub v_at : Format → ℕ
v_at f = place_of f values_at 12

abbrev pub worked_at : Format → ℕ
worked_at f = place_of f values_at 21

abbrev pub svd_size : Format → ℕ
svd_size f = place_of f values_at 30

abbrev pub svd_head_of : SvdAnswer → List ℕ
svd_head_of r = r.code ∷ r.made.count ∷ mark_of r.settled ∷ replicate 5 0

unfoldable pub svd_bytes_of : Format → SvdAnswer → List ℕ
svd_bytes_of f r =
    svd_head_of r
    ++ (number_bytes_of f r.values
    ++ (number_bytes_of f r.u.«data» ++ (number_bytes_of f r.v.«data» ++ number_bytes_of f r.worked.«data»)))

-- one after the other
unfoldable pub row_bytes_of : Format → List SvdAnswer → List ℕ
row_bytes_of f [] = []
row_bytes_of f (r ∷ rs) = svd_bytes_of f r ++ row_bytes_of f rs

-- ---- the call

-- the code of so many bytes of matrices and of answers: bytes that are no whole places are rows of unequal length
unfoldable pub bytes_code_of : Format → ℕ → ℕ → ℕ
bytes_code_of f mats answers =
    pick (eqb (mats % mat_size f) 0 && eqb (answers % svd_size f) 0) (row_code_of (mats / mat_size f) (answers / svd_size f)) 10

-- the bytes of what the single call gives for each of the first n matrices
abbrev pub filled_bytes_of : Format → ℕ → List ℕ → List ℕ
filled_bytes_of f n s = row_bytes_of f (singles_of f (mats_of f n s))

-- the code, and the answers at exit: with code 0 those of all matrices, and else what was found there
unfoldable pub svd_row_bytes_of : Format → List ℕ → List ℕ → Answer (List ℕ)
svd_row_bytes_of f mats found =
    when_done (record { code = bytes_code_of f (length mats) (length found); value = filled_bytes_of f (length mats / mat_size f) mats }) found
