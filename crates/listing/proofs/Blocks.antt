-- Lines one behind the other, under numbers that follow each other.
use Rattle.float.proofs.Words.{◌≡◌, refl, sym, ap, ◌∙◌, List, [], ◌∷◌, ◌++◌, append-nil, append_assoc, map, ℕ, zero, suc, ◌+◌, ◌*◌, ◌<◌, add-one, add-zero}
use Rattle.float.proofs.Words.{mul-zero, mul-suc, add_comm, arith}
use Rattle.float.proofs.Words.{length, get_or, take, drop, drop-drop, drop-cons}
use mathlib.Core.List.{map-append}
use Rattle.std.specs.Simd.{first_chunks}
use Rattle.counts.specs.Cells.{up_to}
use Rattle.listing.specs.Text.{decimal_of, counts_line, lines_of}
use Rattle.listing.specs.Putting.{block_of}

pub block_none : (first : ℕ) → block_of first [] ≡ []
unfolding block_of
block_none first = refl

-- line i, and those behind it
pub block_more : (rows : List (List ℕ)) (d : List ℕ) (first i : ℕ) → i < length rows
    → block_of (first + i) (drop i rows) ≡ counts_line (decimal_of (first + i)) (get_or rows i d) ++ block_of (first + (i + 1)) (drop (i + 1) rows)
unfolding block_of
block_more rows d first i h =
    let e : first + suc i ≡ suc (first + i) = omega arith in
    rw (drop-cons rows i d h, add-one, e)

-- ---- a block, as lines by their numbers

lines_append : (ls ms : List (List ℕ)) → lines_of (ls ++ ms) ≡ lines_of ls ++ lines_of ms
unfolding lines_of
lines_append [] ms = refl
lines_append (l ∷ ls) ms = rw (lines_append ls ms) (sym (append_assoc l (lines_of ls) (lines_of ms)))

chunks_snoc : (w k : ℕ) (s : List ℕ) → first_chunks w (suc k) s ≡ first_chunks w k s ++ (take w (drop (w * k) s) ∷ [])
chunks_snoc w zero s = rw (mul-zero w)
chunks_snoc w (suc k) s =
    let e : w + w * k ≡ w * suc k = rw (mul-suc w k) (add_comm w (w * k)) in
    ap (λ (l : List (List ℕ)). take w s ∷ l)
    (chunks_snoc w k (drop w s)
    ∙ ap (λ (r : List ℕ). first_chunks w k (drop w s) ++ (take w r ∷ [])) (drop-drop (w * k) w s ∙ ap (λ (n : ℕ). drop n s) e))

pub chunks_length : (w k : ℕ) (s : List ℕ) → length (first_chunks w k s) ≡ k
chunks_length w zero s = refl
chunks_length w (suc k) s = ap suc (chunks_length w k (drop w s))

block_snoc : (rows : List (List ℕ)) (first : ℕ) (r : List ℕ)
    → block_of first (rows ++ (r ∷ [])) ≡ block_of first rows ++ counts_line (decimal_of (first + length rows)) r
unfolding block_of
block_snoc [] first r = rw (add-zero first) (append-nil (counts_line (decimal_of first) r))
block_snoc (q ∷ rows) first r =
    let e : first + suc (length rows) ≡ suc first + length rows = omega arith in
    rw (block_snoc rows (suc first) r, e) (sym (append_assoc (counts_line (decimal_of first) q) (block_of (suc first) rows) _))

lines_none : lines_of [] ≡ []
unfolding lines_of
lines_none = refl

lines_more : (g : ℕ → List ℕ) (k : ℕ) → lines_of (map g (up_to (suc k))) ≡ lines_of (map g (up_to k)) ++ g k
unfolding lines_of
lines_more g k = rw (map-append, lines_append) (ap (λ (l : List ℕ). lines_of (map g (up_to k)) ++ l) (append-nil (g k)))

module _ (w first : ℕ) (s : List ℕ) where
  abbrev line : ℕ → List ℕ
  line i = counts_line (decimal_of (first + i)) (take w (drop (w * i) s))

  pub block_lines : (k : ℕ) → block_of first (first_chunks w k s) ≡ lines_of (map line (up_to k))
  block_lines zero = block_none first ∙ sym lines_none
  block_lines (suc k) =
      ap (block_of first) (chunks_snoc w k s) ∙ block_snoc (first_chunks w k s) first (take w (drop (w * k) s))
      ∙ ap (λ (n : ℕ). block_of first (first_chunks w k s) ++ counts_line (decimal_of (first + n)) (take w (drop (w * k) s))) (chunks_length w k s)
      ∙ ap (λ (l : List ℕ). l ++ line k) (block_lines k) ∙ sym (lines_more line k)

pub lines_same : (g h : ℕ → List ℕ) (n : ℕ) → ((i : ℕ) → i < n → g i ≡ h i) → map g (up_to n) ≡ map h (up_to n)
lines_same g h zero e = refl
lines_same g h (suc n) e = rw (map-append, map-append, lines_same g h n (λ i l. e i (omega arith)), e n (omega arith))
