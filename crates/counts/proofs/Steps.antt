-- A record is counted cell by cell, and each adding goes on from the one before: the first that does not fit ends it.
use Rattle.float.proofs.Words.{◌≡◌, sym, ap, ◌∙◌, subst, Bool, true, false, List, ℕ, eqb, length, eq-eqb, eqb-true}
use Rattle.float.proofs.Choice.{by_test, taken}
use Rattle.kinds.specs.Table.{kind_numbered}
use Rattle.counts.specs.Known.{foreign_of}
use Rattle.counts.specs.Cells.{Cell, coded, marked, turned, row_of, place_of, foreign_at, tally_size}
use Rattle.counts.specs.Tally.{plus_of}
use Rattle.counts.specs.Adding.{Summed, only, one_in, mark_parts, head_tally, head_parts}
use Rattle.counts.specs.declared.known.Head.{Head}
use Rattle.counts.proofs.Sums.{then_summed, stays_past, only-length, plus_length}
use Rattle.counts.proofs.Placed.{head_parts_lem}

-- a place that a row has, in the row of a head
pub at_cell : (xs ys : List ℕ) (cell : ℕ → Cell) (at row : ℕ) (h : Head) (b : Bool) → at ≡ place_of (cell row) → row ≡ row_of h
    → Summed xs (only tally_size at 1) b ys → Summed xs (one_in (cell (row_of h))) b ys
at_cell xs ys cell at row h b e r = subst (λ (u : ℕ). Summed xs (only tally_size u 1) b ys) (e ∙ ap (λ (k : ℕ). place_of (cell k)) r)

one_length : (xs : List ℕ) (c : Cell) → length xs ≡ tally_size → length (one_in c) ≡ length xs
one_length xs c n = only-length tally_size (place_of c) 1 ∙ sym n

-- ---- the mark, and the rotations

pub mark_stops : (xs ys : List ℕ) (h : Head) (b : Bool) → length xs ≡ tally_size → b ≡ false → Summed xs (one_in (marked (row_of h) h.mark)) b ys
    → Summed xs (mark_parts h) false ys
mark_stops xs ys h b n t p =
    let m = one_in (marked (row_of h) h.mark) in
    let u = one_in (turned (row_of h) h.turns) in
    by_test (λ (w : List ℕ). Summed xs w false ys) (kind_numbered h.kind).counts (plus_of m u) m
    (λ e. stays_past xs m u ys b (one_length xs (marked (row_of h) h.mark) n) (one_length xs (turned (row_of h) h.turns) n) t p)
    (λ e. subst (λ (s : Bool). Summed xs m s ys) t p)

pub mark_goes : (xs ys zs : List ℕ) (h : Head) (b c : Bool) → (kind_numbered h.kind).counts ≡ true → b ≡ true
    → Summed xs (one_in (marked (row_of h) h.mark)) b ys → Summed ys (one_in (turned (row_of h) h.turns)) c zs → Summed xs (mark_parts h) c zs
mark_goes xs ys zs h b c e t p q =
    rw e (then_summed xs (one_in (marked (row_of h) h.mark)) (one_in (turned (row_of h) h.turns)) ys zs b c t p q)

-- ---- the head

by_parts : (xs ys : List ℕ) (h : Head) (b : Bool) → Summed xs (head_parts h) b ys → Summed xs (head_tally h) b ys
by_parts xs ys h b p = subst (λ (w : List ℕ). Summed xs w b ys) (sym (head_parts_lem h)) p

pub head_foreign : (xs ys : List ℕ) (h : Head) (b : Bool) → foreign_of h ≡ true → Summed xs (only tally_size foreign_at 1) b ys
    → Summed xs (head_tally h) b ys
head_foreign xs ys h b e p =
    let w : only tally_size foreign_at 1 ≡ head_parts h = rw e in
    by_parts xs ys h b (subst (λ (u : List ℕ). Summed xs u b ys) w p)

mark_length : (xs : List ℕ) (h : Head) → length xs ≡ tally_size → length (mark_parts h) ≡ length xs
mark_length xs h n =
    let m = one_in (marked (row_of h) h.mark) in
    let u = one_in (turned (row_of h) h.turns) in
    let k = one_length xs (marked (row_of h) h.mark) n in
    let l = one_length xs (turned (row_of h) h.turns) n in
    by_test (λ (w : List ℕ). length w ≡ length xs) (kind_numbered h.kind).counts (plus_of m u) m (λ e. plus_length m u (l ∙ sym k) ∙ k) (λ e. k)

pub head_stops : (xs ys : List ℕ) (h : Head) (b : Bool) → length xs ≡ tally_size → foreign_of h ≡ false → b ≡ false
    → Summed xs (one_in (coded (row_of h) h.code)) b ys → Summed xs (head_tally h) false ys
head_stops xs ys h b n e t p =
    let m = one_in (coded (row_of h) h.code) in
    by_parts xs ys h false (rw e (by_test (λ (w : List ℕ). Summed xs w false ys) (eqb h.code 0) (plus_of m (mark_parts h)) m
    (λ k. stays_past xs m (mark_parts h) ys b (one_length xs (coded (row_of h) h.code) n) (mark_length xs h n) t p)
    (λ k. subst (λ (s : Bool). Summed xs m s ys) t p)))

pub head_ends : (xs ys : List ℕ) (h : Head) (b : Bool) → foreign_of h ≡ false → (h.code ≡ 0 → ⊥) → b ≡ true
    → Summed xs (one_in (coded (row_of h) h.code)) b ys → Summed xs (head_tally h) true ys
head_ends xs ys h b e k t p =
    let m = one_in (coded (row_of h) h.code) in
    by_parts xs ys h true (rw e (by_test (λ (w : List ℕ). Summed xs w true ys) (eqb h.code 0) (plus_of m (mark_parts h)) m
    (λ q. absurd (k (eqb-true h.code 0 q)))
    (λ q. subst (λ (s : Bool). Summed xs m s ys) t p)))

pub head_goes : (xs ys zs : List ℕ) (h : Head) (b c : Bool) → foreign_of h ≡ false → h.code ≡ 0 → b ≡ true
    → Summed xs (one_in (coded (row_of h) h.code)) b ys → Summed ys (mark_parts h) c zs → Summed xs (head_tally h) c zs
head_goes xs ys zs h b c e k t p q =
    let m = one_in (coded (row_of h) h.code) in
    by_parts xs zs h c (rw e (taken (λ (w : List ℕ). Summed xs w c zs) (eqb h.code 0) (plus_of m (mark_parts h)) m (eq-eqb h.code 0 k)
    (then_summed xs m (mark_parts h) ys zs b c t p q)))
