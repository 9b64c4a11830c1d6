-- The same matrix in other units: two requests whose numbers differ by a power of two, and what their answers have to do with each other in the scaled way.
-- Tiny units are worked as exactly as large ones. Definitions only.
use Rattle.std.specs.Prelude.{◌≡◌, true, false, List, ℕ, ◌+◌, ◌*◌, ◌<◌, ℤ, ◌+ℤ◌, length, get_or, take, drop}
use Rattle.std.specs.Float.{Format}
use Rattle.std.specs.Float.Ieee.{eq, lt}
use Rattle.float.specs.Constants.{zero_f, smallest_f}
use Rattle.float.specs.Sign.{magnitude_of}
use Rattle.float.specs.Scaled.{times_power, shifted, zero_or_normal, largest_magnitude}
use Rattle.matrix.specs.Places.{at, Fit}
use Rattle.kinds.specs.Work.{WorkedAnswer, plain_of}
use Rattle.kinds.specs.Ways.{multiplied_back}
use Rattle.record.specs.Request.{judged_of}
use Rattle.record.specs.Answer.{answered_of}
use Rattle.promises.specs.Scope.{number_length, request_length, used_nine, kernel_numbered, kind_in, numbers_in, scaled_in, power_in, divided_in}
use Rattle.promises.specs.Conditions.{values_of, value_in}

-- t asks in the scaled way what s asks, of numbers that are 2 ^ j times as large, exactly. A zero matrix, which is the same in all units, is left out.
pub record OtherUnits (f : Format) (j : ℤ) (s t : List ℕ) : Type 0 where
  pub scaled : scaled_in s ≡ true
  pub size : length s ≡ request_length f
  pub size' : length t ≡ request_length f
  pub head : take 8 t ≡ take 8 s
  pub numbers : (i : ℕ) → i < used_nine (kind_in s) → at (numbers_in f 8 9 t) i ≡ shifted j (at (numbers_in f 8 9 s) i)
  pub rest : drop (8 + number_length f * used_nine (kind_in s)) t ≡ drop (8 + number_length f * used_nine (kind_in s)) s
  pub some : eq (largest_magnitude f (numbers_in f 8 (used_nine (kind_in s)) s)) (zero_f f) ≡ false

-- ---- of any two such requests, with the answers x and y: both are one answer, whose values are multiplied back by 2 ^ k in x and by 2 ^ (k + j) in y. With
-- code 0 it is the kernel's answer to the divided matrix; where it is refused, both are what it is

pub record SameWork (f : Format) (j : ℤ) (s : List ℕ) (x y : WorkedAnswer) : Type 0 where
  pub work : WorkedAnswer
  pub this : x ≡ multiplied_back f (power_in f s) work
  pub that : y ≡ multiplied_back f (power_in f s +ℤ j) work
  pub refused : (work.code ≡ 0 → ⊥) → (x ≡ work) × (y ≡ work)
  pub kernel : work.code ≡ 0 → work ≡ plain_of f (divided_in f s)
  pub values : work.code ≡ 0 → work.values ≡ values_of f (kernel_numbered (kind_in s)) (divided_in f s)
  pub fit : Fit f 3 work.values

-- ---- where both are answered: rotations, mark and vectors are the same. A value above the smallest normal number is the nearest value of the format to 2 ^ j
-- times as much in y; in bytes of doubles 6 and 7 are the same, and all from 32 on

pub record SameAxes (f : Format) (j : ℤ) (s t : List ℕ) : Type 0 where
  pub counts : (judged_of f s).count ≡ (judged_of f t).count
  pub marks : (judged_of f s).settled ≡ (judged_of f t).settled
  pub left : (judged_of f s).left ≡ (judged_of f t).left
  pub right : (judged_of f s).right ≡ (judged_of f t).right
  pub values : (i : ℕ) → i < 3 → lt (smallest_f f) (magnitude_of (at (judged_of f s).values i)) ≡ true
      → at (judged_of f t).values i ≡ times_power f j (at (judged_of f s).values i)
  pub head : (i : ℕ) → 5 < i → i < 8 → get_or (answered_of f s) i 0 ≡ get_or (answered_of f t) i 0
  pub vectors : drop (8 + number_length f * 3) (answered_of f s) ≡ drop (8 + number_length f * 3) (answered_of f t)

-- ---- where the values of both stay zero or normal numbers: the code is the same too, and the values are 2 ^ j times as large, exactly

abbrev pub StayNormal : Format → ℤ → List ℕ → Type 0
StayNormal f j s =
    (i : ℕ) → i < 3 → (zero_or_normal f (shifted (power_in f s) (value_in f s i)) ≡ true)
    × (zero_or_normal f (shifted (power_in f s +ℤ j) (value_in f s i)) ≡ true)

pub record TimesExactly (f : Format) (j : ℤ) (s t : List ℕ) : Type 0 where
  pub codes : (judged_of f s).code ≡ (judged_of f t).code
  pub axes : (judged_of f s).code ≡ 0 → SameAxes f j s t
  pub values : (judged_of f s).code ≡ 0 → (i : ℕ) → i < 3 → at (judged_of f t).values i ≡ shifted j (at (judged_of f s).values i)
