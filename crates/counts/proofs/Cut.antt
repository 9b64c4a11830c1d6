-- A file cut behind whole records has the records of both parts, each in its own part, and the bytes left over of the second part.
use Rattle.float.proofs.Words.{◌≡◌, refl, sym, ap, ◌∙◌, List, [], ◌∷◌, ◌++◌, map, ℕ, zero, suc, ◌+◌, ◌*◌, ◌≤◌, mul-suc, mul-add, arith}
use Rattle.float.proofs.Words.{add_assoc, add_comm, add-zero, zero-add, length, drop, length-append, length-drop, drop-append-add, Format}
use native.Mathlib.Nat.{add-mul-div_left, add-mul-mod_self_left, mul-div_right, mul-mod_right}
use lib.Seq.{take-append-le, drop-append-le}
use Rattle.record.specs.Layout.{answer_size}
use Rattle.record.specs.Stream.{answer_of}
use Rattle.counts.specs.Known.{head_of}
use Rattle.counts.specs.Cells.{Cell, counted_in, cells}
use Rattle.counts.specs.Tally.{one, counted_of, records_of, left_over, tally_of, plus_of}
use Rattle.counts.proofs.ByCell.{map_each, plus_mapped}

module _ (f : Format) (a b : List ℕ) where
  -- ---- a record of the first part

  front : (k : ℕ) → answer_size f * suc k ≤ length a → answer_of f k (a ++ b) ≡ answer_of f k a
  front k h =
      let l : answer_size f * k + answer_size f ≤ length a = rw (mul-suc (answer_size f) k) at h in
      rw (drop-append-le (answer_size f * k) a b (omega arith), take-append-le (answer_size f) (drop (answer_size f * k) a) b (rw length-drop (omega arith)))

  counted_front : (c : Cell) (k : ℕ) → answer_size f * k ≤ length a → counted_of f c k (a ++ b) ≡ counted_of f c k a
  unfolding counted_of
  counted_front c zero h = refl
  counted_front c (suc k) h =
      let l : answer_size f * k + answer_size f ≤ length a = rw (mul-suc (answer_size f) k) at h in
      rw (counted_front c k (omega arith), front k h)

  module _ (m : ℕ) (h : length a ≡ answer_size f * m) where
    -- ---- a record of the second part

    behind : (k : ℕ) → answer_of f (m + k) (a ++ b) ≡ answer_of f k b
    behind k =
        let e : answer_size f * (m + k) ≡ length a + answer_size f * k = rw (mul-add (answer_size f) m k, h) in
        rw (e, drop-append-add a b (answer_size f * k))

    counted_behind : (c : Cell) (k : ℕ) → counted_of f c (m + k) (a ++ b) ≡ counted_of f c m a + counted_of f c k b
    unfolding counted_of
    counted_behind c zero =
        (rw (add-zero m, counted_front c m (omega arith))) ∙ sym (add-zero (counted_of f c m a))
    counted_behind c (suc k) =
        let e : m + suc k ≡ suc (m + k) = omega arith in
        (rw (e, counted_behind c k, behind k)) ∙ add_assoc (counted_of f c m a) (counted_of f c k b) (one (counted_in c (head_of (answer_of f k b))))

    -- ---- how many there are

    longer : length (a ++ b) ≡ length b + answer_size f * m
    longer = rw length-append (omega arith)

    whole : records_of f a ≡ m
    whole = rw h (mul-div_right m (omega arith))

    records_cut : records_of f (a ++ b) ≡ m + records_of f b
    records_cut = rw (longer, add-mul-div_left (length b) m {y = answer_size f} (omega arith)) (add_comm (records_of f b) m)

    left_cut : left_over f (a ++ b) ≡ left_over f a + left_over f b
    left_cut =
        rw (longer, add-mul-mod_self_left (length b) (answer_size f) m, h, mul-mod_right (answer_size f) m) (sym (zero-add (left_over f b)))

    pub counted_cut : (c : Cell) → counted_of f c (records_of f (a ++ b)) (a ++ b) ≡ counted_of f c (records_of f a) a + counted_of f c (records_of f b) b
    counted_cut c = rw (records_cut, whole) (counted_behind c (records_of f b))

    pub cut : tally_of f (a ++ b) ≡ plus_of (tally_of f a) (tally_of f b)
    unfolding tally_of
    cut =
        ap (λ (n : ℕ). map (λ (c : Cell). counted_of f c (records_of f (a ++ b)) (a ++ b)) cells ++ (n ∷ [])) left_cut
        ∙ ap (λ (l : List ℕ). l ++ ((left_over f a + left_over f b) ∷ []))
        (map_each _ (λ (c : Cell). counted_of f c (records_of f a) a + counted_of f c (records_of f b) b) cells counted_cut)
        ∙ sym
        (plus_mapped (λ (c : Cell). counted_of f c (records_of f a) a) (λ (c : Cell). counted_of f c (records_of f b) b) cells (left_over f a) (left_over f b))
