-- The listing is that of the counts, and these are the tally of all that was seen. Where there is none, the program ends as the reading did, or a total
-- is too large.
use Rattle.float.proofs.Words.{subst, subst⁻¹, List, ℕ, inl, inr, Format, length, ltb}
use Rattle.std.specs.Prelude.{Result}
use Rattle.float.specs.Width.{F}
use Rattle.float.proofs.Choice.{by_test}
use Rattle.counts.specs.Tally.{tally_of}
use Rattle.listing.specs.Page.{listing_of}
use Rattle.tally.specs.States.{End, Well, CannotRead, CannotWrite, CountTooLarge, TooManyReads, ending}
use Rattle.tally.specs.declared.decide.Failure.{Failure}
use Rattle.tally.specs.Given.{totals_fit, Shown, Given, Tallied}
use Rattle.tally.specs.Told.{Counts, Tells}
use Rattle.tally.proofs.Seen.{finished_counts}
use contract.Lifetimes.{Lfts}
use Rattle.tally.proofs.tally.Reads as tally

module _ (f : Format) (seen out : List ℕ) where
  shown : (e : End) → Shown (tally_of f seen) out e → Tells f e seen out
  shown e v =
      let P : End → Type 0 = λ x. Tells f x seen out in
      subst⁻¹ P v.ended
      (by_test P (totals_fit (tally_of f seen)) _ _
      (λ h. by_test P (ltb v.gone (length (listing_of (tally_of f seen)))) _ _ (λ _. v.text h) (λ _. v.text h)) (λ h. inr h))

  given : (end : End) (counts : List ℕ) (e : End) → Counts f end seen counts → Given end counts out e → Tells f e seen out
  given Well counts e c v = shown e (subst (λ (l : List ℕ). Shown l out e) c v)
  given CannotRead counts e c v = subst⁻¹ (λ (x : End). Tells f x seen out) v tt
  given CannotWrite counts e c v = absurd c
  given CountTooLarge counts e c v = subst⁻¹ (λ (x : End). Tells f x seen out) v (inl c)
  given TooManyReads counts e c v = subst⁻¹ (λ (x : End). Tells f x seen out) v tt

-- for any course of reads and writes: where the program ends well, or cannot write, what it was to write is the listing of the tally of all bytes that
-- came, in order; and it says that a count is too large only where one is
pub told : (f : Format) (out : List ℕ) (e : End) (t : Tallied f out e) → Tells f e t.finished.seen out
told f out e t = given f t.finished.seen out t.state.end t.counts e (finished_counts f t.counts t.state t.finished) t.given

-- the same of the call, by its promise as the source states it
pub told_call : (κs : Lfts 2) (a : _) (r : Result Unit Failure) (s : _) (t : tally.Post κs a r s) → Tells F (ending r) t.finished.seen s.1.1.1.0.now
told_call κs a r s t = told F s.1.1.1.0.now (ending r) t
