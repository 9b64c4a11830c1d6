-- Each cell of the list stands at its own place, so one record in a cell is 1 in this cell of the list and 0 in all others.
use Rattle.float.proofs.Words.{◌≡◌, refl, sym, ap, ◌∙◌, Bool, true, false, ◌&&◌, List, [], ◌∷◌, ◌++◌, map, ℕ, zero, suc, ◌+◌, ◌<◌, arith, eqb, ltb}
use Rattle.float.proofs.Words.{length, get_or, replicate, eqb-true, eq-eqb, ltb-true, length-set, length-append, get_or-append-add}
use lib.ListN.{length-replicate, get_or-replicate, length-map}
use lib.Seq.{ext_get_or, get_or-set_same, get_or-set_other}
use Rattle.float.proofs.Choice.{whether, either}
use Rattle.float.proofs.Finite.{both_true}
use Rattle.counts.specs.Known.{codes, marks, most_turns, among}
use Rattle.counts.specs.Cells.{Cell, coded, marked, turned, foreign, up_to, row_numbers, turning, cells, place_of}
use Rattle.counts.specs.Tally.{one}
use Rattle.counts.specs.Adding.{only, one_in}
use Rattle.counts.proofs.ByCell.{every, passes, up_to_lem, get_d_mapped}

-- ---- the same cell

-- what a cell counts, its row and its number
abbrev key_of : Cell → ℕ × ℕ × ℕ
key_of (coded row code) = (0, row, code)
key_of (marked row mark) = (1, row, mark)
key_of (turned row n) = (2, row, n)
key_of foreign = (3, 0, 0)

abbrev keyed : ℕ → ℕ → ℕ → Cell
keyed zero row n = coded row n
keyed (suc zero) row n = marked row n
keyed (suc (suc zero)) row n = turned row n
keyed (suc (suc (suc k))) row n = foreign

of_key : (c : Cell) → keyed (key_of c).0 (key_of c).1 (key_of c).2 ≡ c
of_key (coded row code) = refl
of_key (marked row mark) = refl
of_key (turned row n) = refl
of_key foreign = refl

abbrev pub same : Cell → Cell → Bool
same c d = eqb (key_of c).0 (key_of d).0 && (eqb (key_of c).1 (key_of d).1 && eqb (key_of c).2 (key_of d).2)

same_is : (c d : Cell) → same c d ≡ true → c ≡ d
same_is c d e =
    let t = both_true (eqb (key_of c).0 (key_of d).0) (eqb (key_of c).1 (key_of d).1 && eqb (key_of c).2 (key_of d).2) e in
    let u = both_true (eqb (key_of c).1 (key_of d).1) (eqb (key_of c).2 (key_of d).2) t.1 in
    sym (of_key c)
    ∙ (rw (eqb-true (key_of c).0 (key_of d).0 t.0, eqb-true (key_of c).1 (key_of d).1 u.0, eqb-true (key_of c).2 (key_of d).2 u.1) (of_key d))

same_self : (c : Cell) → same c c ≡ true
same_self c = rw (eq-eqb (key_of c).0 (key_of c).0 refl, eq-eqb (key_of c).1 (key_of c).1 refl, eq-eqb (key_of c).2 (key_of c).2 refl)

-- ---- what the list has at a cell's place is this cell

abbrev pub listed : Cell → Bool
listed c = ltb (place_of c) (length cells) && same c (get_or cells (place_of c) foreign)

pub codes-listed : every (λ (row : ℕ). every (λ (code : ℕ). listed (coded row code)) codes) row_numbers ≡ true
codes-listed = refl

marks-listed : every (λ (row : ℕ). every (λ (mark : ℕ). listed (marked row mark)) marks) row_numbers ≡ true
marks-listed = refl

turns_listed : every (λ (row : ℕ). every (λ (n : ℕ). listed (turned row n)) (up_to (suc most_turns))) turning ≡ true
turns_listed = refl

-- ---- the cells that are in the list

abbrev pub Listed : Cell → Type 0
Listed c = listed c ≡ true

pub row_turns : (row : ℕ) → among row turning ≡ true → every (λ (n : ℕ). listed (turned row n)) (up_to (suc most_turns)) ≡ true
row_turns row = passes (λ (row : ℕ). every (λ (n : ℕ). listed (turned row n)) (up_to (suc most_turns))) row turning turns_listed

pub coded_listed : (row code : ℕ) → among row row_numbers ≡ true → among code codes ≡ true → Listed (coded row code)
coded_listed row code h = passes (λ (code : ℕ). listed (coded row code)) code codes
    (passes (λ (row : ℕ). every (λ (code : ℕ). listed (coded row code)) codes) row row_numbers codes-listed h)

pub marked-listed : (row mark : ℕ) → among row row_numbers ≡ true → among mark marks ≡ true → Listed (marked row mark)
marked-listed row mark h = passes (λ (mark : ℕ). listed (marked row mark)) mark marks
    (passes (λ (row : ℕ). every (λ (mark : ℕ). listed (marked row mark)) marks) row row_numbers marks-listed h)

pub turned_listed : (row n : ℕ) → among row turning ≡ true → among n (up_to (suc most_turns)) ≡ true → Listed (turned row n)
turned_listed row n h = passes (λ (n : ℕ). listed (turned row n)) n (up_to (suc most_turns)) (row_turns row h)

module _ (c : Cell) (h : Listed c) where
  pub listed_below : place_of c < length cells
  listed_below = ltb-true (place_of c) (length cells) (both_true _ (same c (get_or cells (place_of c) foreign)) h).0

  pub listed_there : c ≡ get_or cells (place_of c) foreign
  listed_there = same_is c (get_or cells (place_of c) foreign) (both_true (ltb (place_of c) (length cells)) _ h).1

-- ---- a cell of the list stands at its place

all_in_order : every (λ (i : ℕ). eqb (place_of (get_or cells i foreign)) i) (up_to (length cells)) ≡ true
all_in_order = refl

in_order : (i : ℕ) → i < length cells → place_of (get_or cells i foreign) ≡ i
in_order i h =
    eqb-true (place_of (get_or cells i foreign)) i
    (passes (λ (i : ℕ). eqb (place_of (get_or cells i foreign)) i) i (up_to (length cells)) all_in_order (up_to_lem (length cells) i h))

-- ---- one record in a cell is 1 in this cell of the list, and 0 in all others

module _ (cs : List Cell) (c : Cell) (order : (i : ℕ) → i < length cs → place_of (get_or cs i foreign) ≡ i) (below : place_of c < length cs)
    (there : c ≡ get_or cs (place_of c) foreign) where
  abbrev sames : List ℕ
  sames = map (λ (d : Cell). one (same c d)) cs ++ (0 ∷ [])

  abbrev size : ℕ
  size = suc (length cs)

  sames_size : length sames ≡ size
  sames_size = length-append (map (λ (d : Cell). one (same c d)) cs) (0 ∷ []) ∙ (rw (length-map cs (λ (d : Cell). one (same c d))) (omega arith))

  here : get_or sames (place_of c) 0 ≡ 1
  here =
      get_d_mapped (λ (d : Cell). one (same c d)) cs foreign (0 ∷ []) (place_of c) below
      ∙ ap one (ap (same c) (sym there) ∙ same_self c)

  not_same : (i : ℕ) (t : Bool) → same c (get_or cs i foreign) ≡ t → i < length cs → (i ≡ place_of c → ⊥) → one t ≡ 0
  not_same i true q k n = absurd (n (sym (order i k) ∙ ap place_of (sym (same_is c (get_or cs i foreign) q))))
  not_same i false q k n = refl

  other : (i : ℕ) → i < size → (i ≡ place_of c → ⊥) → get_or sames i 0 ≡ 0
  other i l n =
      either i (length cs)
      (λ k. get_d_mapped (λ (d : Cell). one (same c d)) cs foreign (0 ∷ []) i k ∙ not_same i (same c (get_or cs i foreign)) refl k n)
      (λ k.
      let e : i ≡ length (map (λ (d : Cell). one (same c d)) cs) + 0 = rw (length-map cs (λ (d : Cell). one (same c d))) (omega arith) in
      rw e (get_or-append-add (map (λ (d : Cell). one (same c d)) cs) (0 ∷ []) 0 0))

  one_of : only size (place_of c) 1 ≡ sames
  one_of =
      ext_get_or 0 (only size (place_of c) 1) sames (length-set (replicate size 0) (place_of c) 1 ∙ length-replicate size 0 ∙ sym sames_size)
      (λ i l.
      let k : i < size = rw (length-set, length-replicate) at l in
      whether i (place_of c)
      (λ e. rw e (get_or-set_same (replicate size 0) (place_of c) 1 0 (rw (length-replicate {A = ℕ} size 0) (omega arith)) ∙ sym here))
      (λ n. get_or-set_other (replicate size 0) (place_of c) i 1 0 n ∙ get_or-replicate size i 0 0 k ∙ sym (other i k n)))

abbrev pub by_cell : (Cell → ℕ) → List ℕ
by_cell g = map g cells ++ (0 ∷ [])

pub one_in_lem : (c : Cell) → Listed c → one_in c ≡ by_cell (λ (d : Cell). one (same c d))
one_in_lem c h = one_of cells c in_order (listed_below c h) (listed_there c h)
