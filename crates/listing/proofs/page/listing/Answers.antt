-- The tests are made in the definition's order; the totals that fit are the definition's, and so is what is put.
use Rattle.float.proofs.Words.{◌≡◌, refl, ap, ◌∙◌, sym, subst, true, false, ℕ, List, ◌∷◌, length}
use Rattle.matrix.specs.declared.codes.Refusal.TheVariants.{CountTooLarge}
use Rattle.counts.proofs.Ends.{refused_by}
use Rattle.counts.specs.Tally.{all_fit}
use Rattle.listing.specs.Page.{totals_of, records_in, listing_of}
use Rattle.listing.proofs.Totals.{has_sum, no_sum, has_totals, no_totals, records_of_lem, totals_past, first_past, both_fit}
use Rattle.listing.proofs.Written.{written_past, written-done}
use Rattle.listing.proofs.page.listing.Goals as goal

pub returns-in_err-totals : goal.returns-in_err-totals
returns-in_err-totals c =
    let t = c.args.counts.now in
    let whole = rw c.in_ok-counts.ensures.ok_part at c.as_array.ensures.cases in
    let e = c.in_err-totals.ensures in
    let u = c.in_ok-counts.counts.now in
    let back = c.from_residual-in_err-totals in
    let r = refused_by c.totals.result CountTooLarge c.in_err-totals.field-0.0 back.result (sym e.value) back.ensures.1 in
    let none = totals_past (records_in u) (totals_of u) (no_totals u (sym c.totals.ensures ∙ e.ok_part)) in
    let past = subst (λ (l : List ℕ). all_fit (records_in l ∷ totals_of l) ≡ false) whole.same none in
    rw (r, written_past t c.args.out.now c.if-out-lt-LISTING_MOST.false whole.long past) (refl, refl)

-- ---- where all totals fit, the sum is that of all records

pub returns-in_err-records : goal.returns-in_err-records
returns-in_err-records c =
    let t = c.args.counts.now in
    let whole = rw c.in_ok-counts.ensures.ok_part at c.as_array.ensures.cases in
    let u = c.in_ok-counts.counts.now in
    let totals = has_totals u c.in_ok-totals.totals (sym c.totals.ensures ∙ c.in_ok-totals.ensures.ok_part) in
    let e = c.in_err-records.ensures in
    let back = c.from_residual-in_err-records in
    let r = refused_by c.records.result CountTooLarge c.in_err-records.field-0.0 back.result (sym e.value) back.ensures.1 in
    let all = rw (records_of_lem u c.in_ok-totals.totals totals.1) at (no_sum _ (sym c.records.ensures ∙ e.ok_part)) in
    let past = subst (λ (l : List ℕ). all_fit (records_in l ∷ totals_of l) ≡ false) whole.same (first_past (records_in u) (totals_of u) all) in
    rw (r, written_past t c.args.out.now c.if-out-lt-LISTING_MOST.false whole.long past) (refl, refl)

pub page_of-page-requires : goal.page_of-page-requires
page_of-page-requires c =
    let u = c.in_ok-counts.counts.now in
    let totals = has_totals u c.in_ok-totals.totals (sym c.totals.ensures ∙ c.in_ok-totals.ensures.ok_part) in
    let all = has_sum _ c.in_ok-records.records (sym c.records.ensures ∙ c.in_ok-records.ensures.ok_part) in
    (totals.1, all.1 ∙ records_of_lem u c.in_ok-totals.totals totals.1)

pub returns : goal.returns
returns c =
    let t = c.args.counts.now in
    let whole = rw c.in_ok-counts.ensures.ok_part at c.as_array.ensures.cases in
    let u = c.in_ok-counts.counts.now in
    let totals = has_totals u c.in_ok-totals.totals (sym c.totals.ensures ∙ c.in_ok-totals.ensures.ok_part) in
    let all = has_sum _ c.in_ok-records.records (sym c.records.ensures ∙ c.in_ok-records.ensures.ok_part) in
    let small = rw (records_of_lem u c.in_ok-totals.totals totals.1) at all.0 in
    let fits = subst (λ (l : List ℕ). all_fit (records_in l ∷ totals_of l) ≡ true) whole.same (both_fit (records_in u) (totals_of u) small totals.0) in
    let text : c.page_of-page.result.bytes ≡ listing_of t = c.page_of-page.ensures ∙ ap listing_of whole.same in
    let size : c.len.result ≡ length (listing_of t) = c.len.ensures.value ∙ ap length text in
    let size-2 : c.len-2.result ≡ length (listing_of t) = c.len-2.ensures.value ∙ ap length text in
    let copied : c.copy_from_slice.new.self ≡ listing_of t = c.copy_from_slice.ensures.after ∙ c.as_bytes.ensures.value ∙ c.deref.ensures.0 ∙ text in
    rw (written-done t c.args.out.now c.if-out-lt-LISTING_MOST.false whole.long fits, copied, size, size-2) (refl, refl)
