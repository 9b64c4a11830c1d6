-- What each number that answers leaves in the answer slice, byte by byte. Definitions only.
use Rattle.std.specs.Prelude.{◌≡◌, List, ◌⊎◌, ℕ, ◌-◌, ◌≤◌, length, get_or, take, drop, replicate}
use Rattle.std.specs.Float.{Format}
use Rattle.float.specs.Exactly.{Exactly}
use Rattle.cholesky.specs.Pivots.{refused_pivot, Stopped}
use Rattle.promises.specs.Scope.{answer_length, kind_in}
use Rattle.promises.specs.Conditions.{pivots_in}
use Rattle.promises.specs.Marks.{MarkIn}

abbrev pub Not : ℕ → ℕ → Type 0
Not k code = code ≡ k → ⊥

-- the kinds whose 3x3 matrix is turned
abbrev pub Turned : ℕ → Type 0
Turned kind = (kind ≡ 2) ⊎ (kind ≡ 4)

-- of the code that is handed back, and of what is left in the slice
pub record Leaves (f : Format) (request answer : List ℕ) (code : ℕ) (left : List ℕ) : Type 0 where
  -- 2 leaves the slice as it was; any other code leaves one answer, with the code in byte 5
  pub untouched : code ≡ 2 → left ≡ answer
  pub size : Not 2 code → length left ≡ answer_length f
  pub coded : Not 2 code → get_or left 5 0 ≡ code
  -- before it stand the request's event number and kind; zeros with 1
  pub event : Not 2 code → Not 1 code → take 5 left ≡ take 5 request
  pub unread : code ≡ 1 → take 5 left ≡ replicate 5 0
  -- byte 6 has with 6 and 9 the number of the first pivot that has no root, and with 0 the rotations of a kind that counts them; it is zero otherwise
  pub pivot : Stopped code → get_or left 6 0 ≡ refused_pivot f 1 (pivots_in f request)
  pub uncounted : Not 2 code → (Stopped code → ⊥) → ((code ≡ 0) × Turned (kind_in request) → ⊥) → get_or left 6 0 ≡ 0
  -- the mark, byte 7, is at most 1, and with 0 it is 1 exactly if it is owed; it and all numbers are zero with any code but 0
  pub mark : Not 2 code → get_or left 7 0 ≤ 1
  pub marked : code ≡ 0 → Exactly (get_or left 7 0 ≡ 1) (MarkIn f request)
  pub unmarked : Not 2 code → Not 0 code → get_or left 7 0 ≡ 0
  pub clear : Not 2 code → Not 0 code → drop 8 left ≡ replicate (answer_length f - 8) 0
