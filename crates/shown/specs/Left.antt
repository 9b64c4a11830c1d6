-- What a call left, as an answer: the code, and the number or the numbers that stand in the lent place. Definitions only.
use Rattle.std.specs.Prelude.{ℕ}
use Rattle.matrix.specs.Answer.{Answer}

abbrev pub left : {A : Type 0} → ℕ → A → Answer A
left code value = record { code = code; value = value }
