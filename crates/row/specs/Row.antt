-- The row call: one singular value decomposition for each matrix of a row. Definitions only.
use Rattle.std.specs.Prelude.{List, map, ◌++◌, ℕ, ◌+◌, eqb, leb, length, take, drop}
use Rattle.std.specs.Float.{Format}
use Rattle.float.specs.Choice.{pick}
use Rattle.matrix.specs.Answer.{Answer, when_done}
use Rattle.matrix.specs.Square.{Mat3}
use Rattle.matrix.specs.Codes.{code_of}
use Rattle.svd.specs.Svd3x3.{SvdAnswer, svd_of}
use Rattle.row.specs.declared.rows.SvdPlace.{SvdPlace}
use Rattle.row.specs.declared.rows.Filled.{Filled}

-- the most places that a row may have
abbrev pub most_places : ℕ
most_places = 64

-- the code of n matrices and m answers: 10 where these are not equally many, then 11 where they are too many
unfoldable pub row_code_of : ℕ → ℕ → ℕ
row_code_of n m = pick (eqb n m) (pick (leb n most_places) 0 11) 10

-- what the single call gives for a matrix
abbrev pub single_of : Format → Mat3 → SvdAnswer
single_of f m = svd_of f m.«data»

-- and for each matrix of a row
abbrev pub singles_of : Format → List Mat3 → List SvdAnswer
singles_of f ms = map (single_of f) ms

-- the code, and the row of answers at exit: with code 0 those of the single call, and else what was found there
unfoldable pub svd_row_of : Format → List Mat3 → List SvdAnswer → Answer (List SvdAnswer)
svd_row_of f ms found = when_done (record { code = row_code_of (length ms) (length found); value = singles_of f ms }) found

-- ---- the structs

-- the answer that a place of a lent row holds, and those of a row
abbrev pub answer_in : SvdPlace → SvdAnswer
answer_in p =
    record { code = p.code; made = p.made; settled = p.settled; values = p.values; u = p.u; v = p.v; worked = p.worked }

abbrev pub answers_in : List SvdPlace → List SvdAnswer
answers_in ps = map answer_in ps

-- the places of the by-value call's arrays: one more than a row may have
abbrev pub room_places : ℕ
room_places = most_places + 1

-- the code, and the row's answers
pub record FilledAnswer : Type 0 where
  pub code : ℕ
  pub answers : List SvdAnswer

abbrev pub filled : ℕ → List SvdAnswer → FilledAnswer
filled c ys = record { code = c; answers = ys }

-- the call on the first n of some matrices and the first m of some answers; the others stay
unfoldable pub fill_of : Format → List Mat3 → ℕ → List SvdAnswer → ℕ → FilledAnswer
fill_of f ms n ys m = let r = svd_row_of f (take n ms) (take m ys) in filled r.code (r.value ++ drop m ys)

-- what the call hands out, as the definition has it
abbrev pub whole_filled : Filled → FilledAnswer
whole_filled r = filled (code_of r.ended) (answers_in r.answers)
