-- The numbers that answer, as rows of a list: the number of the first row whose condition holds is given, and 0 where none does. Definitions only.
use Rattle.std.specs.Prelude.{◌≡◌, true, false, List, [], ◌∷◌, ◌⊎◌, ℕ, ◌≤◌, ◌<◌, length, Float}
use Rattle.std.specs.Float.{Format}
use Rattle.std.specs.Float.Ieee.{le, is_nan}
use Rattle.float.specs.Constants.{zero_f}
use Rattle.float.specs.Sign.{finite}
use Rattle.matrix.specs.Places.{at}

-- ---- rows

pub record Row : Type 1 where
  pub number : ℕ
  pub Holds : Type 0

abbrev pub on : ℕ → Type 0 → Row
on k X = record { number = k; Holds = X }

abbrev pub Gives : List Row → ℕ → Type 0
Gives [] k = k ≡ 0
Gives (r ∷ rs) k = (r.Holds × (k ≡ r.number)) ⊎ ((r.Holds → ⊥) × Gives rs k)

-- ---- conditions, place by place

abbrev pub WrongLength : {A : Type 0} → List A → ℕ → Type 0
WrongLength xs n = length xs ≡ n → ⊥

abbrev pub TooShort : {A : Type 0} → List A → ℕ → Type 0
TooShort xs n = n ≤ length xs → ⊥

-- a row or a column is not below the size
abbrev pub Outside : ℕ → ℕ → ℕ → Type 0
Outside n r c = (r < n) × (c < n) → ⊥

-- a number is NaN or infinite
abbrev pub NotFinite : List Float → Type 0
NotFinite xs = ((i : ℕ) → i < length xs → finite (at xs i) ≡ true) → ⊥

-- a number is at most zero
abbrev pub AtMostZero : Format → List Float → Type 0
AtMostZero f xs = ((i : ℕ) → i < length xs → le (at xs i) (zero_f f) ≡ false) → ⊥

-- a number is NaN
abbrev pub OneNan : List Float → Type 0
OneNan xs = ((i : ℕ) → i < length xs → is_nan (at xs i) ≡ false) → ⊥

-- ---- the rows of a kernel, over the numbers that it uses and those that it makes

abbrev pub kernel_rows : List Float → List Float → List Row
kernel_rows used made = on 5 (NotFinite used) ∷ on 7 (NotFinite made) ∷ []

-- of one that stops at a pivot
abbrev pub pivot_rows : Format → List Float → List Float → List Float → List Row
pivot_rows f used pivots made = on 5 (NotFinite used) ∷ on 6 (AtMostZero f pivots) ∷ on 9 (OneNan pivots) ∷ on 7 (NotFinite made) ∷ []
