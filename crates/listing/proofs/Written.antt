-- What the call leaves, by the tests that were made.
use Rattle.float.proofs.Words.{◌≡◌, true, false, List, ◌++◌, ◌∷◌, ℕ, ◌≤◌, length, drop, le-leb, eq-eqb}
use Rattle.counts.specs.Cells.{tally_size}
use Rattle.counts.specs.Tally.{all_fit}
use Rattle.listing.specs.Page.{totals_of, records_in, listing_of, listing_most, refused_listing, written_of}

module _ (t out : List ℕ) where
  pub written_past : listing_most ≤ length out → length t ≡ tally_size → all_fit (records_in t ∷ totals_of t) ≡ false → written_of t out
      ≡ refused_listing 14 out
  unfolding written_of
  written_past h n f = rw (le-leb listing_most (length out) h, eq-eqb (length t) tally_size n, f)

  pub written-done : listing_most ≤ length out → length t ≡ tally_size → all_fit (records_in t ∷ totals_of t) ≡ true
      → written_of t out
      ≡ record { listed = record { code = 0; size = length (listing_of t) }; out = listing_of t ++ drop (length (listing_of t)) out }
  unfolding written_of
  written-done h n f = rw (le-leb listing_most (length out) h, eq-eqb (length t) tally_size n, f)
