-- A record is counted in the cells of its head and in no other, so its tally has a 1 in each of these, and they are inside the tally.
use Rattle.float.proofs.Words.{◌≡◌, refl, sym, ap, ◌∙◌, Bool, true, false, not, ◌&&◌, List, [], ◌∷◌, ◌++◌, map, ℕ, suc, ◌+◌, ◌/◌, ◌%◌, ◌≤◌, arith}
use Rattle.float.proofs.Words.{mul-zero, zero-add, eqb, leb, length, take_all, Format, false≢true, eq-eqb, ne_eqb, not-false}
use Rattle.float.proofs.Words.{leb-true}
use mathlib.Core.Bool.{and-false}
use native.Mathlib.Nat.{div_self, mod_self}
use Rattle.float.proofs.Choice.{neither, by_test, whether}
use Rattle.float.proofs.Finite.{both_true}
use Rattle.kinds.specs.Table.{Kind, kind_numbered, known_kind}
use Rattle.kinds.proofs.Rows.{each_kind}
use Rattle.record.specs.Layout.{answer_size}
use Rattle.record.specs.Stream.{answer_of}
use Rattle.counts.specs.Known.{head_of, codes, marks, most_turns, most_turns_of, among, known_answer, foreign_of}
use Rattle.counts.specs.Cells.{Cell, coded, marked, turned, foreign, row_of, counted_in, up_to, row_numbers, turning, cells, tally_size, foreign_at}
use Rattle.counts.specs.Tally.{one, counted_of, records_of, tally_of, plus_of}
use Rattle.counts.specs.Adding.{only, one_in, head_tally, mark_parts, head_parts}
use Rattle.counts.specs.declared.known.Head.{Head}
use Rattle.counts.proofs.ByCell.{every, up_to_lem, map_same, map_each, plus_mapped}
use Rattle.counts.proofs.Listed.{same, Listed, coded_listed, marked-listed, turned_listed, by_cell, one_in_lem}

-- ---- the rows of the kinds

pub row_known : (n : ℕ) → among (kind_numbered n).number row_numbers ≡ true
row_known = each_kind (λ (k : Kind). among k.number row_numbers ≡ true) refl refl refl refl refl refl refl refl refl

pub row-turning : (n : ℕ) → among (kind_numbered n).number turning ≡ (kind_numbered n).counts
row-turning = each_kind (λ (k : Kind). among k.number turning ≡ k.counts) refl refl refl refl refl refl refl refl refl

-- ---- a test of a cell, and how often it is another one

-- rotations have cells in the rows that count them
abbrev in_turning : Cell → Bool
in_turning (coded row code) = true
in_turning (marked row mark) = true
in_turning (turned row n) = among row turning
in_turning foreign = true

abbrev In : Cell → Cell → ℕ
In c d = one (same c d)

-- ---- a head

module _ (h : Head) where
  pub code_known : foreign_of h ≡ false → among h.code codes ≡ true
  unfolding foreign_of
  code_known e = not-false (among h.code codes) (neither (not (among h.code codes)) (eqb h.code 0 && not (known_answer h)) e).0

  pub answer_known : foreign_of h ≡ false → eqb h.code 0 ≡ true → known_answer h ≡ true
  unfolding foreign_of
  answer_known e z =
      let k : eqb h.code 0 && not (known_answer h) ≡ false = (neither (not (among h.code codes)) (eqb h.code 0 && not (known_answer h)) e).1 in
      not-false (known_answer h) (rw z at k)

  -- and the other way
  pub not-foreign : among h.code codes ≡ true → (h.code ≡ 0 → known_answer h ≡ true) → foreign_of h ≡ false
  unfolding foreign_of
  not-foreign c k = rw c (whether h.code 0 (λ z. rw (k z) (and-false (eqb h.code 0))) (λ n. rw (ne_eqb h.code 0 n)))

  module _ (k : known_answer h ≡ true) where
    parts : (among h.mark marks ≡ true) × (leb h.turns (most_turns_of (kind_numbered h.kind)) ≡ true)
    parts = both_true (among h.mark marks) _ (both_true (known_kind h.kind) _ k).1

    pub mark_known : among h.mark marks ≡ true
    mark_known = parts.0

    pub turns_known : (kind_numbered h.kind).counts ≡ true → among h.turns (up_to (suc most_turns)) ≡ true
    turns_known c =
        let e : leb h.turns most_turns ≡ true = rw c at parts.1 in
        let l : h.turns ≤ most_turns = leb-true h.turns most_turns e in
        up_to_lem (suc most_turns) h.turns (omega arith)

  -- ---- its cells are in the list

  abbrev code_cell : Cell
  code_cell = coded (row_of h) h.code

  abbrev mark_cell : Cell
  mark_cell = marked (row_of h) h.mark

  abbrev turn_cell : Cell
  turn_cell = turned (row_of h) h.turns

  code_listed : foreign_of h ≡ false → Listed code_cell
  code_listed e = coded_listed (row_of h) h.code (row_known h.kind) (code_known e)

  mark_listed : known_answer h ≡ true → Listed mark_cell
  mark_listed k = marked-listed (row_of h) h.mark (row_known h.kind) (mark_known k)

  turn_listed : known_answer h ≡ true → (kind_numbered h.kind).counts ≡ true → Listed turn_cell
  turn_listed k c = turned_listed (row_of h) h.turns (row-turning h.kind ∙ c) (turns_known k c)

  -- ---- a record is counted in its cells, and in no other

  foreign_counted : foreign_of h ≡ true → (d : Cell) → one (counted_in d h) ≡ In foreign d
  unfolding counted_in
  foreign_counted e (coded row code) = rw e
  foreign_counted e (marked row mark) = rw e
  foreign_counted e (turned row n) = rw e
  foreign_counted e foreign = rw e

  -- one that is not foreign in the row of its kind, with its code
  pub in_its_row : foreign_of h ≡ false → counted_in code_cell h ≡ true
  unfolding counted_in
  in_its_row e = rw (e, eq-eqb (row_of h) (row_of h) refl, eq-eqb h.code h.code refl)

  refused_counted : foreign_of h ≡ false → eqb h.code 0 ≡ false → (d : Cell) → one (counted_in d h) ≡ In code_cell d
  unfolding counted_in
  refused_counted e z (coded row code) = rw e
  refused_counted e z (marked row mark) = rw (e, z)
  refused_counted e z (turned row n) = rw (e, z)
  refused_counted e z foreign = rw e

  turned_counted : foreign_of h ≡ false → eqb h.code 0 ≡ true → (d : Cell)
      → one (counted_in d h) ≡ In code_cell d + (In mark_cell d + In turn_cell d)
  unfolding counted_in
  turned_counted e z (coded row code) = rw e (omega arith)
  turned_counted e z (marked row mark) = rw (e, z) (omega arith)
  turned_counted e z (turned row n) = rw (e, z) (omega arith)
  turned_counted e z foreign = rw e

  unturned_counted : foreign_of h ≡ false → eqb h.code 0 ≡ true → (kind_numbered h.kind).counts ≡ false → (d : Cell) → in_turning d ≡ true
      → one (counted_in d h) ≡ In code_cell d + In mark_cell d
  unfolding counted_in
  unturned_counted e z c (coded row code) t = rw e (omega arith)
  unturned_counted e z c (marked row mark) t = rw (e, z) (omega arith)
  unturned_counted e z c (turned row n) t =
      let no : row_of h ≡ row → ⊥ = λ q. false≢true (sym c ∙ sym (row-turning h.kind) ∙ ap (λ (r : ℕ). among r turning) q ∙ t) in
      rw (e, z, ne_eqb (row_of h) row no)
  unturned_counted e z c foreign t = rw e

  -- ---- so its tally is the sum over its cells

  by_cell_lem : (t : Cell → Bool) (g : Cell → ℕ) → every t cells ≡ true → ((d : Cell) → t d ≡ true → one (counted_in d h) ≡ g d) → head_tally h ≡ by_cell g
  unfolding head_tally
  by_cell_lem t g e same_in = ap (λ (l : List ℕ). l ++ (0 ∷ [])) (map_same t (λ (d : Cell). one (counted_in d h)) g cells e same_in)

  by_each : (g : Cell → ℕ) → ((d : Cell) → one (counted_in d h) ≡ g d) → head_tally h ≡ by_cell g
  unfolding head_tally
  by_each g same_in = ap (λ (l : List ℕ). l ++ (0 ∷ [])) (map_each (λ (d : Cell). one (counted_in d h)) g cells same_in)

  foreign_parts : foreign_of h ≡ true → head_tally h ≡ one_in foreign
  foreign_parts e = by_each (In foreign) (foreign_counted e) ∙ sym (one_in_lem foreign refl)

  refused_parts : foreign_of h ≡ false → eqb h.code 0 ≡ false → head_tally h ≡ one_in code_cell
  refused_parts e z = by_each (In code_cell) (refused_counted e z) ∙ sym (one_in_lem code_cell (code_listed e))

  turned_parts : foreign_of h ≡ false → eqb h.code 0 ≡ true → (kind_numbered h.kind).counts ≡ true
      → head_tally h ≡ plus_of (one_in code_cell) (plus_of (one_in mark_cell) (one_in turn_cell))
  turned_parts e z c =
      let k = answer_known e z in
      by_each (λ (d : Cell). In code_cell d + (In mark_cell d + In turn_cell d)) (turned_counted e z)
      ∙ sym
      (ap (λ (l : List ℕ). plus_of l (plus_of (one_in mark_cell) (one_in turn_cell))) (one_in_lem code_cell (code_listed e))
      ∙ ap (λ (l : List ℕ). plus_of (by_cell (In code_cell)) (plus_of l (one_in turn_cell))) (one_in_lem mark_cell (mark_listed k))
      ∙ ap (λ (l : List ℕ). plus_of (by_cell (In code_cell)) (plus_of (by_cell (In mark_cell)) l)) (one_in_lem turn_cell (turn_listed k c))
      ∙ ap (plus_of (by_cell (In code_cell))) (plus_mapped (In mark_cell) (In turn_cell) cells 0 0)
      ∙ plus_mapped (In code_cell) (λ (d : Cell). In mark_cell d + In turn_cell d) cells 0 0)

  unturned_parts : foreign_of h ≡ false → eqb h.code 0 ≡ true → (kind_numbered h.kind).counts ≡ false
      → head_tally h ≡ plus_of (one_in code_cell) (one_in mark_cell)
  unturned_parts e z c =
      let k = answer_known e z in
      by_cell_lem in_turning (λ (d : Cell). In code_cell d + In mark_cell d) refl (unturned_counted e z c)
      ∙ sym
      (ap (λ (l : List ℕ). plus_of l (one_in mark_cell)) (one_in_lem code_cell (code_listed e))
      ∙ ap (plus_of (by_cell (In code_cell))) (one_in_lem mark_cell (mark_listed k))
      ∙ plus_mapped (In code_cell) (In mark_cell) cells 0 0)

  pub head_parts_lem : head_tally h ≡ head_parts h
  head_parts_lem =
      by_test (λ (l : List ℕ). head_tally h ≡ l) (foreign_of h) (only tally_size foreign_at 1) _ foreign_parts
      (λ e. by_test (λ (l : List ℕ). head_tally h ≡ l) (eqb h.code 0) (plus_of (one_in code_cell) (mark_parts h)) (one_in code_cell)
      (λ z. by_test (λ (l : List ℕ). head_tally h ≡ plus_of (one_in code_cell) l) (kind_numbered h.kind).counts (plus_of (one_in mark_cell) (one_in turn_cell))
      (one_in mark_cell) (turned_parts e z) (unturned_parts e z))
      (refused_parts e))

-- ---- a file of one record has the tally of its head

module _ (f : Format) (r : List ℕ) (h : length r ≡ answer_size f) where
  first_is_all : answer_of f 0 r ≡ r
  first_is_all = rw (mul-zero (answer_size f)) (take_all (answer_size f) r (omega arith))

  pub counted_once : (c : Cell) → counted_of f c (records_of f r) r ≡ one (counted_in c (head_of r))
  unfolding counted_of
  counted_once c =
      ap (λ (n : ℕ). counted_of f c n r) (ap (λ (n : ℕ). n / answer_size f) h ∙ div_self (omega arith))
      ∙ zero-add (one (counted_in c (head_of (answer_of f 0 r)))) ∙ ap (λ (s : List ℕ). one (counted_in c (head_of s))) first_is_all

  pub head_tally_lem : tally_of f r ≡ head_tally (head_of r)
  unfolding tally_of head_tally
  head_tally_lem =
      ap (λ (n : ℕ). map (λ (c : Cell). counted_of f c (records_of f r) r) cells ++ (n ∷ [])) (ap (λ (n : ℕ). n % answer_size f) h ∙ mod_self (answer_size f))
      ∙ ap (λ (l : List ℕ). l ++ (0 ∷ [])) (map_each _ (λ (c : Cell). one (counted_in c (head_of r))) cells counted_once)
