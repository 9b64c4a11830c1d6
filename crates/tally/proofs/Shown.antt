-- A large buffer has room for a listing, so there is one unless a total is too large.
use Rattle.float.proofs.Words.{◌≡◌, refl, sym, ap, ◌∙◌, subst, subst⁻¹, true, false, List, ◌++◌, ℕ, ◌≤◌, arith, le-leb, eq-eqb, length, take, drop}
use Rattle.float.proofs.Words.{take-append_seam, length-append, false≢true}
use Rattle.float.specs.Choice.{pick}
use Rattle.float.proofs.Choice.{by_test}
use Rattle.counts.specs.Cells.{tally_size}
use Rattle.listing.specs.Page.{Listed, listing_of, listing_most, Written, refused_listing, written_of, Wrote}
use Rattle.tally.specs.States.{End, CountTooLarge, after_listing}
use Rattle.tally.specs.Given.{totals_fit, Shown}

abbrev whole : List ℕ → List ℕ → Written
whole counts out =
    record {
      listed = record { code = 0; size = length (listing_of counts) };
      out = listing_of counts ++ drop (length (listing_of counts)) out;
    }

module _ (counts out left : List ℕ) (l : Listed) (table : length counts ≡ tally_size) (large : length out ≡ 65536)
    (g : Wrote (written_of counts out) l left) where
  by_totals : written_of counts out ≡ pick (totals_fit counts) (whole counts out) (refused_listing 14 out)
  unfolding written_of
  by_totals = rw (le-leb listing_most (length out) (omega arith), eq-eqb (length counts) tally_size table)

  either_way : (P : Listed → List ℕ → Type 0) → (totals_fit counts ≡ true → P (whole counts out).listed (whole counts out).out)
      → (totals_fit counts ≡ false → P (refused_listing 14 out).listed out) → P l left
  either_way P h k =
      let Q : Written → Type 0 = λ w. P w.listed w.out in
      subst⁻¹ (λ (x : Listed). P x left) g.0
      (subst⁻¹ (P (written_of counts out).listed) g.1 (subst⁻¹ Q by_totals (by_test Q (totals_fit counts) _ _ h k)))

  fit : l.code ≡ 0 → totals_fit counts ≡ true
  fit = either_way (λ x out. x.code ≡ 0 → totals_fit counts ≡ true) (λ h _. h) (λ h e. absurd (omega arith))

  unfit : (l.code ≡ 0 → ⊥) → totals_fit counts ≡ false
  unfit = either_way (λ x out. (x.code ≡ 0 → ⊥) → totals_fit counts ≡ false) (λ h n. absurd (n refl)) (λ h _. h)

  size : l.code ≡ 0 → l.size ≡ length (listing_of counts)
  size = either_way (λ x out. x.code ≡ 0 → x.size ≡ length (listing_of counts)) (λ h _. refl) (λ h e. absurd (omega arith))

  text : l.code ≡ 0 → left ≡ listing_of counts ++ drop (length (listing_of counts)) out
  text =
      either_way (λ x end. x.code ≡ 0 → end ≡ listing_of counts ++ drop (length (listing_of counts)) out) (λ h _. refl) (λ h e. absurd (omega arith))

  pub first : l.code ≡ 0 → take l.size left ≡ listing_of counts
  first h = rw (size h, text h) (take-append_seam (listing_of counts) _)

  pub within : l.code ≡ 0 → l.size ≤ length left
  within h = rw (size h, text h) (simp length-append (omega arith))

  pub shown : (gone : ℕ) (e : End) → l.code ≡ 0 → gone ≤ l.size → e ≡ after_listing gone l.size → Shown counts left e
  shown gone e h m k =
      record {
        gone = gone;
        most = subst (λ (n : ℕ). gone ≤ n) (size h) m;
        text = λ f. rw (size h) at (first h);
        ended = k ∙ ap (after_listing gone) (size h) ∙ (rw (fit h));
      }

  pub unshown : (e : End) → (l.code ≡ 0 → ⊥) → e ≡ CountTooLarge → Shown counts left e
  unshown e h k =
      record {
        gone = 0;
        most = omega arith;
        text = λ f. absurd (false≢true (sym (unfit h) ∙ f));
        ended = k ∙ (rw (unfit h));
      }
