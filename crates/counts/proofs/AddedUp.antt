-- Sums over the counts of a tally. Each record adds the same to both sides, so what holds of each head holds of the file, by going through its records.
use Rattle.float.proofs.Words.{◌≡◌, refl, sym, ap, ◌∙◌, true, false, ◌&&◌, List, [], ◌∷◌, map, ℕ, zero, suc, ◌+◌, arith}
use Rattle.float.proofs.Words.{zero-add, eqb, get_or, Format, eqb-true}
use mathlib.Core.Bool.{and-false}
use Rattle.float.proofs.Choice.{so_or_not}
use Rattle.record.specs.Stream.{answer_of}
use Rattle.counts.specs.Known.{head_of, codes, marks, most_turns, among, foreign_of}
use Rattle.counts.specs.Cells.{Cell, coded, marked, turned, foreign, row_of, counted_in, up_to, row_numbers, turning, cells, place_of, foreign_at, left_at}
use Rattle.counts.specs.Tally.{one, counted_of, records_of, left_over, tally_of, total}
use Rattle.counts.specs.declared.known.Head.{Head}
use Rattle.counts.proofs.ByCell.{every, passes, map_same, map_each, get_d_mapped}
use Rattle.counts.proofs.Listed.{listed, Listed, listed_below, listed_there, codes-listed, row_turns, coded_listed, marked-listed, turned_listed}
use Rattle.counts.proofs.Placed.{row_known, row-turning, code_known, answer_known, mark_known, turns_known}

-- ---- the count at the place of a cell is that of the cell

module _ (f : Format) (s : List ℕ) where
  -- how many records of the file are counted in a cell
  abbrev counted : Cell → ℕ
  counted c = counted_of f c (records_of f s) s

  -- what stands at its place
  abbrev count_at : Cell → ℕ
  count_at c = get_or (tally_of f s) (place_of c) 0

  listed_count : (c : Cell) → Listed c → count_at c ≡ counted c
  unfolding tally_of
  listed_count c h = get_d_mapped counted cells foreign (left_over f s ∷ []) (place_of c) (listed_below c h) ∙ ap counted (sym (listed_there c h))

  pub coded_count : (row code : ℕ) → among row row_numbers ≡ true → among code codes ≡ true
      → get_or (tally_of f s) (place_of (coded row code)) 0 ≡ counted_of f (coded row code) (records_of f s) s
  coded_count row code h k = listed_count (coded row code) (coded_listed row code h k)

  pub marked_count : (row mark : ℕ) → among row row_numbers ≡ true → among mark marks ≡ true
      → get_or (tally_of f s) (place_of (marked row mark)) 0 ≡ counted_of f (marked row mark) (records_of f s) s
  marked_count row mark h k = listed_count (marked row mark) (marked-listed row mark h k)

  pub turned_count : (row n : ℕ) → among row turning ≡ true → among n (up_to (suc most_turns)) ≡ true
      → get_or (tally_of f s) (place_of (turned row n)) 0 ≡ counted_of f (turned row n) (records_of f s) s
  turned_count row n h k = listed_count (turned row n) (turned_listed row n h k)

  pub foreign_count : get_or (tally_of f s) foreign_at 0 ≡ counted_of f foreign (records_of f s) s
  foreign_count = listed_count foreign refl

  pub left_count : get_or (tally_of f s) left_at 0 ≡ left_over f s
  unfolding tally_of
  left_count = refl

-- ---- sums that add up

module _ {A : Type 0} where
  pub total_plus : (g h : A → ℕ) (l : List A) → total (map (λ (a : A). g a + h a) l) ≡ total (map g l) + total (map h l)
  unfolding total
  total_plus g h [] = refl
  total_plus g h (a ∷ l) = rw (total_plus g h l) (omega arith)

  pub total_none : (l : List A) → total (map (λ (a : A). 0) l) ≡ 0
  unfolding total
  total_none [] = refl
  total_none (a ∷ l) = zero-add (total (map (λ (a : A). 0) l)) ∙ total_none l

-- a sum over cells
abbrev Sum : Type 0
Sum = (Cell → ℕ) → ℕ

record Adds (S : Sum) : Type 0 where
  plus : (g h : Cell → ℕ) → S (λ (c : Cell). g c + h c) ≡ S g + S h
  none : S (λ (c : Cell). 0) ≡ 0

-- what the first n give, one after the other
abbrev over : ℕ → (ℕ → ℕ) → ℕ
over zero g = 0
over (suc n) g = over n g + g n

over-same : (n : ℕ) (g h : ℕ → ℕ) → ((i : ℕ) → g i ≡ h i) → over n g ≡ over n h
over-same zero g h e = refl
over-same (suc n) g h e = rw (over-same n g h e, e n)

over_ones : (n : ℕ) → over n (λ (i : ℕ). 1) ≡ n
over_ones zero = refl
over_ones (suc n) = rw (over_ones n) (omega arith)

module _ (f : Format) (s : List ℕ) where
  -- the head of a record
  abbrev head : ℕ → Head
  head i = head_of (answer_of f i s)

  by_records : (S : Sum) → Adds S → (n : ℕ) → S (λ (c : Cell). counted_of f c n s) ≡ over n (λ (i : ℕ). S (λ (c : Cell). one (counted_in c (head i))))
  unfolding counted_of
  by_records S a zero = a.none
  by_records S a (suc n) =
      a.plus (λ (c : Cell). counted_of f c n s) (λ (c : Cell). one (counted_in c (head n)))
      ∙ ap (λ (m : ℕ). m + S (λ (c : Cell). one (counted_in c (head n)))) (by_records S a n)

  -- two sums that are the same for every head
  alike : (S R : Sum) → Adds S → Adds R → ((h : Head) → S (λ (c : Cell). one (counted_in c h)) ≡ R (λ (c : Cell). one (counted_in c h)))
      → S (counted f s) ≡ R (counted f s)
  alike S R a b e =
      by_records S a (records_of f s) ∙ over-same (records_of f s) _ _ (λ i. e (head i)) ∙ sym (by_records R b (records_of f s))

-- ---- each record has one code in one row, or is foreign

abbrev row_codes : (Cell → ℕ) → ℕ → ℕ
row_codes g row = total (map (λ (code : ℕ). g (coded row code)) codes)

-- all codes of all rows, and the foreign ones
abbrev pub all_of : (Cell → ℕ) → ℕ
all_of g = total (map (λ (row : ℕ). total (map (λ (code : ℕ). g (coded row code)) codes)) row_numbers) + g foreign

all_adds : Adds all_of
all_adds = record {
  plus = (λ g h.
      let row-adds : (row : ℕ) → row_codes (λ (c : Cell). g c + h c) row ≡ row_codes g row + row_codes h row =
      λ row. total_plus (λ (code : ℕ). g (coded row code)) (λ (code : ℕ). h (coded row code)) codes in
      let each : total (map (row_codes (λ (c : Cell). g c + h c)) row_numbers) ≡ total (map (λ (row : ℕ). row_codes g row + row_codes h row) row_numbers) =
      ap total (map_each _ _ row_numbers row-adds) in
      let both = total_plus (row_codes g) (row_codes h) row_numbers in
      omega (arith, each ∙ both));
  none = ap (λ (n : ℕ). n + 0) (ap total (map_each _ (λ (row : ℕ). 0) row_numbers (λ row. total_none codes)) ∙ total_none row_numbers);
}

-- how often a row and a code are met
abbrev meets : ℕ → ℕ → ℕ
meets r k = total (map (λ (row : ℕ). total (map (λ (code : ℕ). one (eqb r row && eqb k code)) codes)) row_numbers)

-- once, where they are known
met_once : every (λ (r : ℕ). every (λ (k : ℕ). eqb (meets r k) 1) codes) row_numbers ≡ true
unfolding total
met_once = refl

met : (r k : ℕ) → among r row_numbers ≡ true → among k codes ≡ true → meets r k ≡ 1
met r k h j =
    eqb-true (meets r k) 1
    (passes (λ (k : ℕ). eqb (meets r k) 1) k codes (passes (λ (r : ℕ). every (λ (k : ℕ). eqb (meets r k) 1) codes) r row_numbers met_once h) j)

foreign_once : (h : Head) → foreign_of h ≡ true → all_of (λ (c : Cell). one (counted_in c h)) ≡ 1
unfolding counted_in total
foreign_once h e = rw e

known_once : (h : Head) → foreign_of h ≡ false → all_of (λ (c : Cell). one (counted_in c h)) ≡ 1
unfolding counted_in
known_once h e = rw (e, met (row_of h) h.code (row_known h.kind) (code_known h e))

-- exactly one of them counts a record
pub head_once : (h : Head) → all_of (λ (c : Cell). one (counted_in c h)) ≡ 1
head_once h = so_or_not (foreign_of h) (foreign_once h) (known_once h)

-- ---- a record with code 0 has one mark, and one number of rotations where its kind counts them

one_mark : (mark : ℕ) → among mark marks ≡ true → one (eqb mark 1) + one (eqb mark 0) ≡ 1
one_mark mark h = eqb-true _ 1 (passes (λ (mark : ℕ). eqb (one (eqb mark 1) + one (eqb mark 0)) 1) mark marks refl h)

-- how often a number of rotations is met
abbrev turn_meets : ℕ → ℕ
turn_meets m = total (map (λ (n : ℕ). one (eqb m n)) (up_to (suc most_turns)))

-- once, where it is known
turns_once : every (λ (m : ℕ). eqb (turn_meets m) 1) (up_to (suc most_turns)) ≡ true
unfolding total
turns_once = refl

one_turn : (m : ℕ) → among m (up_to (suc most_turns)) ≡ true → turn_meets m ≡ 1
one_turn m h = eqb-true (turn_meets m) 1 (passes (λ (m : ℕ). eqb (turn_meets m) 1) m (up_to (suc most_turns)) turns_once h)

module _ (row : ℕ) where
  abbrev done_of : (Cell → ℕ) → ℕ
  done_of g = g (coded row 0)

  done_adds : Adds done_of
  done_adds = record { plus = (λ g h. refl); none = refl }

  abbrev marks_of : (Cell → ℕ) → ℕ
  marks_of g = g (marked row 1) + g (marked row 0)

  marks-add : Adds marks_of
  marks-add = record { plus = (λ g h. omega arith); none = refl }

  abbrev turns_of : (Cell → ℕ) → ℕ
  turns_of g = total (map (λ (n : ℕ). g (turned row n)) (up_to (suc most_turns)))

  turns_add : Adds turns_of
  turns_add = record {
    plus = (λ g h. total_plus (λ (n : ℕ). g (turned row n)) (λ (n : ℕ). h (turned row n)) (up_to (suc most_turns)));
    none = total_none (up_to (suc most_turns));
  }

  -- ---- of any head

  by_cases : (h : Head) {X : Type 0} → (foreign_of h ≡ true → X) → (foreign_of h ≡ false → eqb h.code 0 ≡ false → X)
      → (foreign_of h ≡ false → eqb h.code 0 ≡ true → eqb (row_of h) row ≡ false → X)
      → (foreign_of h ≡ false → eqb h.code 0 ≡ true → eqb (row_of h) row ≡ true → X)
      → X
  by_cases h a b c d =
      so_or_not (foreign_of h) a (λ e. so_or_not (eqb h.code 0) (λ z. so_or_not (eqb (row_of h) row) (d e z) (c e z)) (b e))

  head_marks : (h : Head) → marks_of (λ (c : Cell). one (counted_in c h)) ≡ done_of (λ (c : Cell). one (counted_in c h))
  unfolding counted_in
  head_marks h =
      by_cases h (λ e. rw e) (λ e z. rw (e, z, and-false (eqb (row_of h) row))) (λ e z q. rw (e, z, q))
      (λ e z q. rw (e, z, q) (one_mark h.mark (mark_known h (answer_known h e z))))

  -- where the row is that of a kind that counts
  turns_met : among row turning ≡ true → (h : Head) → foreign_of h ≡ false → eqb h.code 0 ≡ true → eqb (row_of h) row ≡ true
      → turn_meets h.turns ≡ 1
  turns_met t h e z q =
      let counts = sym (row-turning h.kind) ∙ ap (λ (r : ℕ). among r turning) (eqb-true (row_of h) row q) ∙ t in
      one_turn h.turns (turns_known h (answer_known h e z) counts)

  head_turns : among row turning ≡ true → (h : Head) → turns_of (λ (c : Cell). one (counted_in c h)) ≡ done_of (λ (c : Cell). one (counted_in c h))
  unfolding counted_in total
  head_turns t h =
      by_cases h (λ e. rw e) (λ e z. rw (e, z, and-false (eqb (row_of h) row))) (λ e z q. rw (e, z, q)) (λ e z q. rw (e, z, q) (turns_met t h e z q))

-- ---- of any file

module _ (f : Format) (s : List ℕ) where
  -- every record is counted in one row with one code, or as foreign
  pub records_added : total (map (λ (row : ℕ). total (map (λ (code : ℕ). get_or (tally_of f s) (place_of (coded row code)) 0) codes)) row_numbers)
      + get_or (tally_of f s) foreign_at 0 ≡ records_of f s
  records_added =
      let each : map (row_codes (count_at f s)) row_numbers ≡ map (row_codes (counted f s)) row_numbers =
      map_same (λ (row : ℕ). every (λ (code : ℕ). listed (coded row code)) codes) _ _ row_numbers codes-listed
      (λ row h. ap total (map_same (λ (code : ℕ). listed (coded row code)) _ _ codes h (λ code. listed_count f s (coded row code)))) in
      ap (λ (l : List ℕ). total l + count_at f s foreign) each ∙ ap (λ (n : ℕ). total (map (row_codes (counted f s)) row_numbers) + n) (foreign_count f s)
      ∙ by_records f s all_of all_adds (records_of f s) ∙ over-same (records_of f s) _ _ (λ i. head_once (head f s i)) ∙ over_ones (records_of f s)

  -- settled and unsettled are those with code 0
  pub marks_added : (row : ℕ) → among row row_numbers ≡ true
      → get_or (tally_of f s) (place_of (marked row 1)) 0 + get_or (tally_of f s) (place_of (marked row 0)) 0 ≡ get_or (tally_of f s) (place_of (coded row 0)) 0
  marks_added row h =
      (rw (marked_count f s row 1 h refl, marked_count f s row 0 h refl))
      ∙ alike f s (marks_of row) (done_of row) (marks-add row) (done_adds row) (head_marks row)
      ∙ sym (coded_count f s row 0 h refl)

  -- the numbers of rotations of a kind that counts them are those with code 0
  pub turns_added : (row : ℕ) → among row turning ≡ true
      → total (map (λ (n : ℕ). get_or (tally_of f s) (place_of (turned row n)) 0) (up_to (suc most_turns))) ≡ get_or (tally_of f s) (place_of (coded row 0)) 0
  turns_added row h =
      ap total (map_same (λ (n : ℕ). listed (turned row n)) _ _ (up_to (suc most_turns)) (row_turns row h) (λ n. listed_count f s (turned row n)))
      ∙ alike f s (turns_of row) (done_of row) (turns_add row) (done_adds row) (head_turns row h)
      ∙ sym (coded_count f s row 0 (passes (λ (row : ℕ). among row row_numbers) row turning refl h) refl)
