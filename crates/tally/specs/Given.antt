-- What the program gives at its end: the listing where the input was counted to its end, and else how it ended. Definitions only.
use Rattle.std.specs.Prelude.{◌≡◌, Bool, true, List, ◌∷◌, ℕ, ◌≤◌, length, take}
use Rattle.std.specs.Float.{Format}
use Rattle.float.specs.Choice.{pick}
use Rattle.counts.specs.Tally.{all_fit}
use Rattle.listing.specs.Page.{listing_of, totals_of, records_in}
use Rattle.tally.specs.States.{End, Well, CannotRead, CannotWrite, CountTooLarge, TooManyReads, State, after_listing}
use Rattle.tally.specs.Rounds.{Finished}

-- a text that may be written to standard output: a whole listing
pub record Text (text : List ℕ) : Type 0 where
  pub counts : List ℕ
  pub listed : text ≡ listing_of counts

-- no total of the listing passes 64 bits
abbrev pub totals_fit : List ℕ → Bool
totals_fit counts = all_fit (records_in counts ∷ totals_of counts)

-- the listing stands first in `out`, and so many bytes of it went out; there is none where a total is too large
pub record Shown (counts out : List ℕ) (e : End) : Type 0 where
  pub gone : ℕ
  pub most : gone ≤ length (listing_of counts)
  pub text : totals_fit counts ≡ true → take (length (listing_of counts)) out ≡ listing_of counts
  pub ended : e ≡ pick (totals_fit counts) (after_listing gone (length (listing_of counts))) CountTooLarge

-- the reading ended so, and the program so
abbrev pub Given : End → List ℕ → List ℕ → End → Type 0
Given Well counts out e = Shown counts out e
Given CannotRead counts out e = e ≡ CannotRead
Given CannotWrite counts out e = e ≡ CannotWrite
Given CountTooLarge counts out e = e ≡ CountTooLarge
Given TooManyReads counts out e = e ≡ TooManyReads

-- from the first read to the last write
pub record Tallied (f : Format) (out : List ℕ) (e : End) : Type 0 where
  pub counts : List ℕ
  pub state : State
  pub finished : Finished f counts state
  pub given : Given state.end counts out e
