-- The counts are those of the whole records seen so far, and the bytes kept are those seen behind them: a file that is cut behind whole records has
-- the sum of the tallies of its parts. So at the end they are the tally of all that was seen, whatever the lengths of the reads.
use Rattle.float.proofs.Words.{◌≡◌, refl, sym, ap, ◌∙◌, subst⁻¹, false, List, [], ◌++◌, append-nil, append_assoc, ℕ, ◌+◌}
use Rattle.float.proofs.Words.{◌*◌, ◌≤◌, ◌<◌, arith, mul-add, eq-eqb, Format, length, take, drop, length-take-le, length-append}
use Rattle.float.proofs.Words.{take-append-drop, div-mul-le_self, mul_comm}
use lib.Seq.{take-add}
use Rattle.float.proofs.Choice.{by_test}
use Rattle.stdio.specs.declared.Outcome.{Outcome}
use Rattle.stdio.specs.declared.Outcome.TheVariants.{Bytes, Nothing, Interrupted, Failed}
use Rattle.stdio.specs.Kept.{whole_of, rest_of}
use Rattle.record.specs.Layout.{answer_size}
use Rattle.counts.specs.Cells.{tally_size}
use Rattle.counts.specs.Tally.{Tally, tally_of, empty_tally, plus_of, all_fit, with_file}
use Rattle.counts.proofs.Sums.{part_past}
use Rattle.counts.proofs.Cut.{cut}
use Rattle.counts.proofs.Files.{tally_length, no_tally}
use Rattle.tally.specs.States.{State, after_count, at_end}
use Rattle.tally.specs.Rounds.{whole_part, Counted, LastCounted, Followed, came_of, Reached, first, round, Finished}
use Rattle.tally.specs.Told.{Counts}

-- ---- a tally

-- what is added to the tally of whole records makes the tally of both together, or passes 64 bits as that does
added : (f : Format) (P : Tally → Type 0) (done s : List ℕ) (m : ℕ) → length done ≡ answer_size f * m
    → P (record { code = 0; counts = tally_of f (done ++ s) })
    → (all_fit (tally_of f (done ++ s)) ≡ false → P (record { code = 14; counts = empty_tally })) → P (with_file f (tally_of f done) s)
unfolding with_file
added f P done s m h j k =
    let e : plus_of (tally_of f done) (tally_of f s) ≡ tally_of f (done ++ s) = sym (cut f done s m h) in
    rw (eq-eqb (length (tally_of f done)) tally_size (tally_length f done), e) (by_test P (all_fit (tally_of f (done ++ s))) _ _ (λ _. j) k)

-- what has passed them stays so with more behind it
passes : (f : Format) (done s : List ℕ) (m : ℕ) → length done ≡ answer_size f * m → all_fit (tally_of f done) ≡ false → all_fit (tally_of f (done ++ s)) ≡ false
passes f done s m h n =
    ap all_fit (cut f done s m h) ∙ part_past (tally_of f done) (tally_of f s) (tally_length f s ∙ sym (tally_length f done)) n

-- ---- between two rounds

-- the counts are those of some whole records, and behind these the kept bytes were seen
record Going (f : Format) (seen buf counts : List ℕ) (kept : ℕ) : Type 0 where
  done : List ℕ
  whole : ℕ
  records : length done ≡ answer_size f * whole
  split : seen ≡ done ++ take kept buf
  tallied : counts ≡ tally_of f done

record Held (f : Format) (seen buf counts : List ℕ) (s : State) : Type 0 where
  going : 0 < s.rounds → Going f seen buf counts s.kept
  ended : s.rounds ≡ 0 → Counts f s.end seen counts

module _ (f : Format) where
  -- bytes that are counted behind whole records lead on, by the code
  counted_on : (step : ℕ → State) (seen left counts sums done s : List ℕ) (m : ℕ) (after : State) → counts ≡ tally_of f done
      → length done ≡ answer_size f * m → sums ≡ (with_file f counts s).counts → after ≡ step (with_file f counts s).code
      → Held f seen left (tally_of f (done ++ s)) (step 0) → (all_fit (tally_of f (done ++ s)) ≡ false → Held f seen left empty_tally (step 14))
      → Held f seen left sums after
  counted_on step seen left counts sums done s m after e h c a j k =
      let t : with_file f counts s ≡ with_file f (tally_of f done) s = ap (λ (l : List ℕ). with_file f l s) e in
      let P : Tally → Type 0 = λ x. Held f seen left x.counts (step x.code) in
      subst⁻¹ (Held f seen left sums) a
      (subst⁻¹ (λ (l : List ℕ). Held f seen left l (step (with_file f counts s).code)) c (subst⁻¹ P t (added f P done s m h j k)))

  -- whole records and what is at hand behind them, cut again behind the last whole record
  cut_again : (done s : List ℕ) → done ++ s ≡ (done ++ whole_part f s) ++ rest_of (answer_size f) s
  cut_again done s =
      ap (λ (l : List ℕ). done ++ l) (sym (take-append-drop (answer_size f * whole_of (answer_size f) s) s))
      ∙ sym (append_assoc done (whole_part f s) (rest_of (answer_size f) s))

  more_records : (done s : List ℕ) (m : ℕ) → length done ≡ answer_size f * m
      → length (done ++ whole_part f s) ≡ answer_size f * (m + whole_of (answer_size f) s)
  more_records done s m h =
      let w = whole_of (answer_size f) s in
      let within : answer_size f * w ≤ length s = rw (mul_comm (answer_size f) w) (div-mul-le_self (length s) (answer_size f)) in
      rw (length-append done (whole_part f s), length-take-le (answer_size f * w) s within, mul-add (answer_size f) m w, h)

  module _ (seen buf came left counts sums : List ℕ) (before after : State) (g : Going f seen buf counts before.kept)
      (same : take before.kept came ≡ take before.kept buf) where
    still : seen ≡ g.done ++ take before.kept came
    still = g.split ∙ ap (λ (l : List ℕ). g.done ++ l) (sym same)

    -- what was seen with the bytes that came is what is at hand, behind the whole records
    at_hand : (n : ℕ) → seen ++ take n (drop before.kept came) ≡ g.done ++ take (before.kept + n) came
    at_hand n =
        ap (λ (l : List ℕ). l ++ take n (drop before.kept came)) still
        ∙ append_assoc g.done (take before.kept came) (take n (drop before.kept came))
        ∙ ap (λ (l : List ℕ). g.done ++ l) (sym (take-add before.kept n came))

    after_bytes : (n : ℕ) → Counted f (take (before.kept + n) came) left counts sums before after
        → Held f (seen ++ take n (drop before.kept came)) left sums after
    after_bytes n v =
        let s = take (before.kept + n) came in
        let rest = rest_of (answer_size f) s in
        let m = g.whole + whole_of (answer_size f) s in
        let done = g.done ++ whole_part f s in
        let size : length done ≡ answer_size f * m = more_records g.done s g.whole g.records in
        let split : seen ++ take n (drop before.kept came) ≡ done ++ rest = at_hand n ∙ cut_again g.done s in
        counted_on (λ k. after_count before k (length rest)) _ left counts sums g.done (whole_part f s) g.whole after
        g.tallied g.records v.counted v.state
        (record {
          going = λ _. record { done = done; whole = m; records = size; split = split ∙ ap (λ (l : List ℕ). done ++ l) (sym v.rest); tallied = refl };
          ended = λ _. tt;
        })
        (λ h. record { going = λ r. absurd (omega arith); ended = λ _. rw split (passes f done rest m size h) })

    after_last : LastCounted f (take before.kept came) counts sums after → Held f (seen ++ []) left sums after
    after_last v =
        let all : seen ++ [] ≡ g.done ++ take before.kept came = append-nil seen ∙ still in
        counted_on at_end _ left counts sums g.done (take before.kept came) g.whole after g.tallied g.records v.counted v.state
        (record { going = λ r. absurd (omega arith); ended = λ _. ap (tally_of f) (sym all) })
        (λ h. record { going = λ r. absurd (omega arith); ended = λ _. rw all h })

    follows : (o : Outcome) → Followed f o came left counts sums before after → Held f (seen ++ came_of o before.kept came) left sums after
    follows (Bytes n) v = after_bytes n v
    follows Nothing v = after_last v
    follows Interrupted v =
        let e : seen ++ [] ≡ g.done ++ take before.kept left = rw v.0 (append-nil seen ∙ still) in
        subst⁻¹ (Held f (seen ++ []) left sums) v.2
        (record {
          going = λ _. record { done = g.done; whole = g.whole; records = g.records; split = e; tallied = v.1 ∙ g.tallied };
          ended = λ _. tt;
        })
    follows Failed v = subst⁻¹ (Held f (seen ++ []) left sums) v.1 (record { going = λ r. absurd (omega arith); ended = λ _. tt })

  reached_held : {seen buf counts : List ℕ} {s : State} → Reached f seen buf counts s → Held f seen buf counts s
  reached_held (first buf) =
      record {
        going = λ _. record { done = []; whole = 0; records = omega arith; split = refl; tallied = sym (no_tally f) };
        ended = λ h. tt;
      }
  reached_held (round o seen buf came left counts sums before after r more read v) =
      follows seen buf came left counts sums before after ((reached_held r).going more) read.kept o v

  -- ---- the end of the reading

  -- no read failed and no count was too large: the counts are the tally of all bytes that came, in order
  pub finished_counts : (counts : List ℕ) (s : State) (d : Finished f counts s) → Counts f s.end d.seen counts
  finished_counts counts s d = (reached_held d.reached).ended d.last
