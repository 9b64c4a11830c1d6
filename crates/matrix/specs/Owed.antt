-- What every kernel owes of its answer, whatever floats it is given. Definitions only.
use Rattle.std.specs.Prelude.{◌≡◌, true, false, List, [], ◌∷◌, ◌⊎◌, ℕ, length, Float}
use Rattle.float.specs.Exactly.{Exactly}
use Rattle.float.specs.Sign.{all_finite}

-- the numbers of one field of an answer, and how many it has
pub record Part : Type 0 where
  pub size : ℕ
  pub numbers : List Float

-- each part has its numbers, and all are finite
abbrev pub AllFull : List Part → Type 0
AllFull [] = Unit {0}
AllFull (p ∷ ps) = (length p.numbers ≡ p.size) × (all_finite p.numbers ≡ true) × AllFull ps

-- Of the answer r to the numbers `used`: its code is one of five, and 5 exactly where a used number is not finite; with a code other than 0 it is the
-- refusal of that code; with code 0 its numbers are finite.
pub record Owed {A : Type 0} (code : A → ℕ) (refuse : ℕ → A) (parts : A → List Part) (used : List Float) (r : A) : Type 0 where
  pub known : (code r ≡ 0) ⊎ ((code r ≡ 5) ⊎ ((code r ≡ 6) ⊎ ((code r ≡ 7) ⊎ (code r ≡ 9))))
  pub five : Exactly (code r ≡ 5) (all_finite used ≡ false)
  pub clear : (code r ≡ 0 → ⊥) → r ≡ refuse (code r)
  pub full : code r ≡ 0 → AllFull (parts r)
