-- What a pivot step answers. Definitions only.
use Rattle.std.specs.Prelude.{◌≡◌, Bool, true, ℕ, eqb, Float, Result, Ok, Err}
use Rattle.std.specs.Float.{Format}
use Rattle.std.specs.Float.Ieee.{lt, le, is_nan}
use Rattle.float.specs.Choice.{pick}
use Rattle.float.specs.Constants.{zero_f}
use Rattle.float.specs.Exactly.{Exactly}
use Rattle.float.specs.Root.{root_of}
use Rattle.cholesky.specs.Error.{error_code, pivot_number}
use Rattle.cholesky.specs.declared.answers.FactorError.{FactorError}

-- the code, the number of a refused pivot, and the root
pub record PivotAnswer : Type 0 where
  pub code : ℕ
  pub pivot : ℕ
  pub root : Float

abbrev pub with_root_of : Float → PivotAnswer
with_root_of x = record { code = 0; pivot = 0; root = x }

abbrev pub without_root : Format → ℕ → ℕ → PivotAnswer
without_root f code k = record { code = code; pivot = k; root = zero_f f }

-- the number and the values of each case
abbrev pub pivot_answer : Format → Result Float FactorError → PivotAnswer
pivot_answer f (Ok x) = with_root_of x
pivot_answer f (Err e) = without_root f (error_code e) (pivot_number e)

-- of the pivot t with the number k: 6 where it is at most zero, -0 too, 9 where it is NaN, and else its root
unfoldable pub pivot_of : Format → Float → ℕ → PivotAnswer
pivot_of f t k = pick (le t (zero_f f)) (without_root f 6 k) (pick (is_nan t) (without_root f 9 k) (with_root_of (root_of f t)))

-- any case but a root has a code of its own
abbrev pub has_root : PivotAnswer → Bool
has_root p = eqb p.code 0

-- the three cases of a pivot, by the code of its step: above zero, at most zero, NaN
abbrev pub Cases : Format → Float → ℕ → Type 0
Cases f t code = Exactly (code ≡ 0) (lt (zero_f f) t ≡ true) × Exactly (code ≡ 6) (le t (zero_f f) ≡ true) × Exactly (code ≡ 9) (is_nan t ≡ true)
