-- Why there is no factor: the refusal, and the number of a refused pivot. Definitions only.
use Rattle.std.specs.Prelude.{ℕ, Result, Ok, Err}
use Rattle.matrix.specs.Codes.{number_of}
use Rattle.matrix.specs.declared.codes.Refusal.{Refusal}
use Rattle.matrix.specs.declared.codes.Refusal.TheVariants as refusal
use Rattle.cholesky.specs.declared.answers.FactorError.{FactorError}
use Rattle.cholesky.specs.declared.answers.FactorError.TheVariants.{AtMostZero, NotANumber, InputNotFinite, AnswerNotFinite}

abbrev pub why_of : FactorError → Refusal
why_of (AtMostZero k) = refusal.Pivot
why_of (NotANumber k) = refusal.NanPivot
why_of InputNotFinite = refusal.InputNotFinite
why_of AnswerNotFinite = refusal.AnswerNotFinite

-- 0 where no pivot was refused
abbrev pub pivot_number : FactorError → ℕ
pivot_number (AtMostZero k) = k
pivot_number (NotANumber k) = k
pivot_number InputNotFinite = 0
pivot_number AnswerNotFinite = 0

abbrev pub error_code : FactorError → ℕ
error_code e = number_of (why_of e)

-- ---- of a call, and 0 where nothing was refused

abbrev pub factor_code : {A : Type 0} → Result A FactorError → ℕ
factor_code (Ok x) = 0
factor_code (Err e) = error_code e

abbrev pub factor_pivot : {A : Type 0} → Result A FactorError → ℕ
factor_pivot (Ok x) = 0
factor_pivot (Err e) = pivot_number e
