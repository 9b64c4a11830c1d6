-- The number of each refusal, and how a call's answer is read by the definitions, which have a number in its place. Definitions only.
use Rattle.std.specs.Prelude.{ℕ, Result, Ok, Err}
use Rattle.matrix.specs.declared.codes.Refusal.{Refusal}
use Rattle.matrix.specs.declared.codes.Refusal.TheVariants.{InputLength, OutputLength, UnknownKind, Reserved, InputNotFinite, Pivot, AnswerNotFinite}
use Rattle.matrix.specs.declared.codes.Refusal.TheVariants.{Outside, NanPivot, RowsUnequal, RowTooLong, CountTooLarge}

abbrev pub number_of : Refusal → ℕ
number_of InputLength = 1
number_of OutputLength = 2
number_of UnknownKind = 3
number_of Reserved = 4
number_of InputNotFinite = 5
number_of Pivot = 6
number_of AnswerNotFinite = 7
number_of Outside = 8
number_of NanPivot = 9
number_of RowsUnequal = 10
number_of RowTooLong = 11
number_of CountTooLarge = 14

-- what is told of a call: what it hands out, or its refusal by the number
abbrev pub told : {A B : Type 0} → (ℕ → B) → (A → B) → Result A Refusal → B
told refuse whole (Ok x) = whole x
told refuse whole (Err r) = refuse (number_of r)

abbrev pub code_of : {A : Type 0} → Result A Refusal → ℕ
code_of r = told (λ (k : ℕ). k) (λ x. 0) r
