-- What the count and the mark of an answer tell of the run. Definitions only.
use Rattle.std.specs.Prelude.{◌≡◌, Bool, true, false, List, ℕ, ◌<◌, Float}
use Rattle.std.specs.Float.{Format}
use Rattle.std.specs.Float.Ieee.{lt}
use Rattle.float.specs.Constants.{limit_f}
use Rattle.float.specs.Exactly.{Exactly}
use Rattle.float.specs.Sign.{magnitude_of}
use Rattle.jacobi.specs.Run.{after, Ran}
use Rattle.jacobi.specs.declared.made.Made.{Made}
use Rattle.jacobi.specs.declared.pairs.Pair.{Pair}
use Rattle.eigen.specs.Pairs.{apq, blind_at}
use Rattle.eigen.specs.Eigen3x3.{State, settled_of, step_of, start_of, last_of}

-- the last state is the n-th after the first; no state before it is settled; and it is settled, or the 25 rotations are used up
abbrev pub RanFor : Format → List Float → ℕ → Type 0
RanFor f a n = Ran (step_of f) (λ (s : State). settled_of f s.matrix) 25 (start_of f a) (last_of f a) n

-- the state after j rotations
abbrev pub state_after : Format → List Float → ℕ → State
state_after f a j = after (step_of f) (λ (s : State). settled_of f s.matrix) j (start_of f a)

-- none of the first n rotations is blind
abbrev pub NoneBlindIn : Format → List Float → ℕ → Type 0
NoneBlindIn f a n = (j : ℕ) → j < n → blind_at f (state_after f a j).matrix ≡ false

-- the mark is earned: the last state is settled, and none of the rotations to it is blind
abbrev pub Earned : Format → List Float → Type 0
Earned f a = (settled_of f (last_of f a).matrix ≡ true) × NoneBlindIn f a (last_of f a).made.count

-- of the answer to a: what was made is that of the last state, which is as many steps from the first as the count says, and the mark is set exactly if it is
-- earned
pub record Counted (f : Format) (a : List Float) (made : Made) (settled : Bool) : Type 0 where
  pub last : made ≡ (last_of f a).made
  pub mark : Exactly (settled ≡ true) (Earned f a)
  pub ran : RanFor f a made.count

-- what settled tells of a finite matrix: all three numbers beside its diagonal are strictly under the limit in magnitude
abbrev pub AllUnder : Format → List Float → Type 0
AllUnder f a = (x : Pair) → lt (magnitude_of (apq x a)) (limit_f f) ≡ true
