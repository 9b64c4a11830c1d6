-- A turn that the mark does not vouch for, a run that is watched for one, and the mark. Definitions only.
use Rattle.std.specs.Prelude.{◌≡◌, Bool, true, false, not, ◌&&◌, ◌||◌, ℕ, ◌<◌, Float}
use Rattle.std.specs.Float.{Format}
use Rattle.std.specs.Float.Ieee.{eq}
use Rattle.jacobi.specs.Rotation.{is_gone, tiny_diagonal}
use Rattle.jacobi.specs.Run.{run, after}

-- An apq that is not zero is turned by 45 degrees where the diagonal is tiny. That takes it away only if app and aqq are equal, compared as numbers. If they
-- differ the turn is blind: apq is written as gone, and something is still there.
abbrev pub blind_of : Format → Float → Float → Float → Bool
blind_of f apq app aqq = not (is_gone f apq) && (tiny_diagonal f app aqq && not (eq app aqq))

-- the mark: no rotation was blind, and the end is settled
abbrev pub marked : Bool → Bool → Bool
marked blind settled = not blind && settled

-- the mark as a byte
abbrev pub mark_of : Bool → ℕ
mark_of true = 1
mark_of false = 0

-- ---- a run that is watched: beside the state it has whether a rotation made so far was blind

pub record Watched (S : Type 0) : Type 0 where
  pub state : S
  pub blind : Bool

-- `blind s` says of a state s whether the rotation that is made from it is blind
module _ {S : Type 0} (step : S → S) (done : S → Bool) (blind : S → Bool) where
  abbrev pub watched_step : Watched S → Watched S
  watched_step w = record { state = step w.state; blind = w.blind || blind w.state }

  abbrev pub watched_run : ℕ → Watched S → Watched S
  watched_run = run watched_step (λ (w : Watched S). done w.state)

  -- What is said of a run of n rotations from s: none of them is blind.
  abbrev pub NoneBlind : ℕ → S → Type 0
  NoneBlind n s = (j : ℕ) → j < n → blind (after step done j s) ≡ false

-- where none was: so it is before the first rotation
abbrev pub sighted : {S : Type 0} → S → Watched S
sighted s = record { state = s; blind = false }
