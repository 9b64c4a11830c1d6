-- A file is counted record by record: the tally of the first i records with the next one's is that of the first i + 1, and the bytes left over have none.
use Rattle.float.proofs.Words.{◌≡◌, refl, sym, ap, ◌∙◌, subst, Bool, true, false, List, [], ℕ, ◌+◌, ◌*◌, ◌≤◌, ◌<◌, mul-suc, mul_comm, mul-zero, add_comm}
use Rattle.float.proofs.Words.{arith, add-one, div-eq_of_lt, mod-lt, mod-eq_of_lt, div-mul-le_self, div-add-mod', length, get_or, take, drop, drop-drop}
use Rattle.float.proofs.Words.{length-take, length-take-le, length-drop, take-append-drop, zero, suc, Format, binary32, binary64}
use Rattle.std.specs.Simd.{first_chunks}
use lib.Seq.{take-add}
use Rattle.record.specs.Layout.{answer_size}
use Rattle.record.specs.Stream.{answer_of}
use Rattle.counts.specs.Known.{head_of}
use Rattle.counts.specs.Cells.{left_at, tally_size}
use Rattle.counts.specs.Tally.{counted_of, records_of, left_over, tally_of, empty_tally, plus_of}
use Rattle.counts.specs.Adding.{Summed, only, head_tally}
use Rattle.counts.proofs.Sums.{then_summed, stays_past}
use Rattle.counts.proofs.Placed.{head_tally_lem}
use Rattle.counts.proofs.Cut.{cut}

-- chunk i of a list cut into chunks of n
pub chunk_at : (n k : ℕ) (s : List ℕ) (i : ℕ) (d : List ℕ) → i < k → get_or (first_chunks n k s) i d ≡ take n (drop (n * i) s)
chunk_at n zero s i d h = absurd (omega arith)
chunk_at n (suc k) s zero d h = rw (mul-zero n)
chunk_at n (suc k) s (suc i) d h = chunk_at n k (drop n s) i d (omega arith) ∙ (rw (drop-drop, mul-suc n i, add_comm (n * i) n))

pub tally_length : (f : Format) (s : List ℕ) → length (tally_of f s) ≡ tally_size
unfolding tally_of
tally_length f s = refl

-- fewer bytes than a record has
pub rest_tally : (f : Format) (s : List ℕ) → length s < answer_size f → tally_of f s ≡ only tally_size left_at (length s)
unfolding tally_of counted_of
rest_tally f s h = rw (div-eq_of_lt h, mod-eq_of_lt h)

pub no_tally : (f : Format) → tally_of f [] ≡ empty_tally
no_tally binary32 = rest_tally binary32 [] (omega arith)
no_tally binary64 = rest_tally binary64 [] (omega arith)

module _ (f : Format) (s : List ℕ) where
  -- one record more
  pub record_more : (i : ℕ) → answer_size f * i + answer_size f ≤ length s
      → plus_of (tally_of f (take (answer_size f * i) s)) (head_tally (head_of (answer_of f i s))) ≡ tally_of f (take (answer_size f * (i + 1)) s)
  record_more i h =
      let one : length (answer_of f i s) ≡ answer_size f = rw (length-take, length-drop) (omega arith) in
      let e : answer_size f * (i + 1) ≡ answer_size f * i + answer_size f = rw (add-one i, mul-suc (answer_size f) i) in
      rw (e, take-add (answer_size f * i) (answer_size f) s, ← head_tally_lem f (answer_of f i s) one)
      (sym (cut f (take (answer_size f * i) s) (answer_of f i s) i (length-take-le (answer_size f * i) s (omega arith))))

  -- the records behind the first i are still to come
  pub still_to_come : (i : ℕ) → answer_size f * i ≤ length s
      → plus_of (tally_of f (take (answer_size f * i) s)) (tally_of f (drop (answer_size f * i) s)) ≡ tally_of f s
  still_to_come i h =
      sym (cut f (take (answer_size f * i) s) (drop (answer_size f * i) s) i (length-take-le (answer_size f * i) s h))
      ∙ ap (tally_of f) (take-append-drop (answer_size f * i) s)

  whole_fit : answer_size f * records_of f s ≤ length s
  whole_fit = rw (mul_comm (answer_size f) (records_of f s)) (div-mul-le_self (length s) (answer_size f))

  -- behind the last whole record
  pub left_more : plus_of (tally_of f (take (answer_size f * records_of f s) s)) (only tally_size left_at (left_over f s)) ≡ tally_of f s
  left_more =
      let rest = drop (answer_size f * records_of f s) s in
      let e : length rest ≡ left_over f s = rw length-drop (omega (arith, whole_fit, div-add-mod' (length s) (answer_size f))) in
      let l : length rest < answer_size f = rw e (mod-lt (length s) (omega arith)) in
      ap (plus_of (tally_of f (take (answer_size f * records_of f s) s))) (sym (rest_tally f rest l ∙ ap (only tally_size left_at) e))
      ∙ still_to_come (records_of f s) whole_fit

  -- ---- an adding, record by record

  -- record i, as the chunks of a slice have it
  pub record_in : (k i : ℕ) (d : List ℕ) → i < k → get_or (first_chunks (answer_size f) k s) i d ≡ answer_of f i s
  record_in k i d h = chunk_at (answer_size f) k s i d h

  module _ (xs : List ℕ) (room : length xs ≡ tally_size) where
    pub file_more : (i : ℕ) (ys zs : List ℕ) (b : Bool) → answer_size f * i + answer_size f ≤ length s
        → Summed xs (tally_of f (take (answer_size f * i) s)) true ys
        → Summed ys (head_tally (head_of (answer_of f i s))) b zs
        → Summed xs (tally_of f (take (answer_size f * (i + 1)) s)) b zs
    file_more i ys zs b h p q =
        subst (λ (u : List ℕ). Summed xs u b zs) (record_more i h)
        (then_summed xs (tally_of f (take (answer_size f * i) s)) (head_tally (head_of (answer_of f i s))) ys zs true b refl p q)

    -- a record that does not fit
    pub file_past : (i : ℕ) (zs : List ℕ) (b : Bool) → answer_size f * i ≤ length s → b ≡ false → Summed xs (tally_of f (take (answer_size f * i) s)) b zs
        → Summed xs (tally_of f s) false zs
    file_past i zs b h t p =
        let front = take (answer_size f * i) s in
        let rest = drop (answer_size f * i) s in
        subst (λ (u : List ℕ). Summed xs u false zs) (still_to_come i h)
        (stays_past xs (tally_of f front) (tally_of f rest) zs b (tally_length f front ∙ sym room) (tally_length f rest ∙ sym room) t p)

    pub file_ends : (ys zs : List ℕ) (b : Bool) → Summed xs (tally_of f (take (answer_size f * records_of f s) s)) true ys
        → Summed ys (only tally_size left_at (left_over f s)) b zs
        → Summed xs (tally_of f s) b zs
    file_ends ys zs b p q =
        subst (λ (u : List ℕ). Summed xs u b zs) left_more
        (then_summed xs (tally_of f (take (answer_size f * records_of f s) s)) (only tally_size left_at (left_over f s)) ys zs true b refl p q)
