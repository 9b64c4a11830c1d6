-- Adding up the columns gives the same as adding up the rows, and these have every record that is not foreign.
use Rattle.float.proofs.Words.{◌≡◌, sym, ap, ◌∙◌, List, [], ◌∷◌, map, ℕ, ◌+◌, get_or, Format}
use Rattle.counts.specs.Known.{codes}
use Rattle.counts.specs.Cells.{coded, row_numbers, place_of, foreign_at}
use Rattle.counts.specs.Tally.{records_of, tally_of, total}
use Rattle.counts.proofs.AddedUp.{total_plus, total_none, records_added}
use Rattle.listing.specs.Page.{records_in}

module _ {A B : Type 0} (g : A → B → ℕ) where
  exchanged : (as' : List A) (bs : List B)
      → total (map (λ (a : A). total (map (g a) bs)) as') ≡ total (map (λ (b : B). total (map (λ (a : A). g a b) as')) bs)
  unfolding total
  exchanged [] bs = sym (total_none bs)
  exchanged (a ∷ as') bs =
      (rw (exchanged as' bs)) ∙ sym (total_plus (g a) (λ (b : B). total (map (λ (a : A). g a b) as')) bs)

-- the line of all records has the number of whole records
pub records_line_lem : (f : Format) (s : List ℕ) → records_in (tally_of f s) ≡ records_of f s
records_line_lem f s =
    let t = tally_of f s in
    ap (λ (n : ℕ). n + get_or t foreign_at 0) (sym (exchanged (λ (k : ℕ) (code : ℕ). get_or t (place_of (coded k code)) 0) row_numbers codes))
    ∙ records_added f s
