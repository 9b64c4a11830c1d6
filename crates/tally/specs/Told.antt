-- What the end of a run tells of all bytes that came, in order. Definitions only.
use Rattle.std.specs.Prelude.{◌≡◌, false, List, ◌⊎◌, ℕ, length, take}
use Rattle.std.specs.Float.{Format}
use Rattle.counts.specs.Tally.{tally_of, all_fit}
use Rattle.listing.specs.Page.{listing_of}
use Rattle.tally.specs.States.{End, Well, CannotRead, CannotWrite, CountTooLarge, TooManyReads}
use Rattle.tally.specs.Given.{totals_fit}

-- the end of the reading: the counts are the tally of the bytes, or a count of that passes 64 bits
abbrev pub Counts : Format → End → List ℕ → List ℕ → Type 0
Counts f Well seen counts = counts ≡ tally_of f seen
Counts f CountTooLarge seen counts = all_fit (tally_of f seen) ≡ false
Counts f CannotRead seen counts = Unit {0}
Counts f CannotWrite seen counts = ⊥
Counts f TooManyReads seen counts = Unit {0}

-- the listing of the tally of the bytes stands first
abbrev pub Listing : Format → List ℕ → List ℕ → Type 0
Listing f seen out = take (length (listing_of (tally_of f seen))) out ≡ listing_of (tally_of f seen)

-- the end of the program: what was handed to be written is the listing, or a count or a total of it passes 64 bits
abbrev pub Tells : Format → End → List ℕ → List ℕ → Type 0
Tells f Well seen out = Listing f seen out
Tells f CannotWrite seen out = Listing f seen out
Tells f CountTooLarge seen out = (all_fit (tally_of f seen) ≡ false) ⊎ (totals_fit (tally_of f seen) ≡ false)
Tells f CannotRead seen out = Unit {0}
Tells f TooManyReads seen out = Unit {0}
