-- The tests of the lengths come first, and then each total is asked whether it fits: the code is that of the rows.
use Rattle.float.proofs.Words.{refl, sym, ◌∙◌, true≢false, List, ◌∷◌, inl, inr, ℕ, leb, le-leb, leb-true, eq-eqb, ne_eqb, length}
use Rattle.float.proofs.Choice.{so_or_not, whether}
use Rattle.matrix.specs.Rows.{Gives}
use Rattle.counts.specs.Cells.{tally_size}
use Rattle.counts.specs.Tally.{all_fit}
use Rattle.counts.proofs.Sums.{fits_each, each_fits}
use Rattle.listing.specs.Page.{records_in, totals_of, listing_most, written_of}
use Rattle.listing.specs.Refused.{listing_rows}

pub listing_codes : (t out : List ℕ) → Gives (listing_rows t out) (written_of t out).listed.code
unfolding written_of
listing_codes t out =
    let sums : List ℕ = records_in t ∷ totals_of t in
    so_or_not (leb listing_most (length out))
    (λ e. rw e (inr (
      (λ w. w (leb-true listing_most (length out) e)),
      whether (length t) tally_size
          (λ n. rw (eq-eqb (length t) tally_size n) (inr (
            (λ w. w n),
            so_or_not (all_fit sums) (λ k. rw k (inr ((λ w. w (each_fits sums k)), refl)))
                (λ k. rw k (inl ((λ h. true≢false (sym (fits_each sums h) ∙ k)), refl))),
          )))
          (λ n. rw (ne_eqb (length t) tally_size n) (inl (n, refl))),
    )))
    (λ e. rw e (inl ((λ h. true≢false (sym (le-leb listing_most (length out) h) ∙ e)), refl)))
