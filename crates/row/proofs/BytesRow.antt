-- The row call on bytes is the row call on the matrices that the bytes hold: every matrix and every answer has its one size, and stands in its place.
use Rattle.float.proofs.Words.{◌≡◌, refl, sym, ap, ◌∙◌, true≢false, ◌&&◌, List, [], ◌∷◌, ◌++◌, append-nil, append_assoc, inl, inr, ℕ, zero, suc, ◌+◌, ◌*◌}
use Rattle.float.proofs.Words.{◌/◌, ◌%◌, ◌≤◌, ◌<◌, mul-le-mul_right, mul-lt-mul_of_pos_right, mul-zero, mul-suc, mul-le-mul_left, arith, add-one, eqb, leb}
use Rattle.float.proofs.Words.{length, length-append, sets, Format, binary32, binary64, eq-eqb, ne_eqb, le-leb, lt-leb, eqb-true}
use mathlib.Core.List.{map-append}
use native.Mathlib.Nat.{div-add-mod, mul-div_right, mul-mod_right}
use contract.Lifetimes.{Lfts}
use Rattle.std.specs.Prelude.{Result}
use Rattle.float.specs.Width.{F}
use Rattle.float.specs.Choice.{pick}
use Rattle.float.proofs.Choice.{by_test, by_eqb, either, whether}
use Rattle.float.proofs.Finite.{both_true}
use Rattle.matrix.specs.Codes.{code_of}
use Rattle.matrix.specs.Owed.{AllFull}
use Rattle.matrix.specs.declared.codes.Refusal.{Refusal}
use Rattle.matrix.specs.Rows.{on, Gives}
use Rattle.matrix.specs.Square.{Mat3}
use Rattle.svd.specs.Owed.{svd3_parts}
use Rattle.svd.specs.Svd3x3.{SvdAnswer}
use Rattle.wire.specs.Bytes.{number_bytes_of, part, placed_of}
use Rattle.wire.proofs.Parts.{part_within, part-behind, placed_stored}
use Rattle.wire.proofs.Numbers.{numbers_length, numbers_behind}
use Rattle.row.specs.Row.{most_places, row_code_of, single_of, svd_row_of}
use Rattle.row.specs.Bytes.{mat_size, mat_at, mats_of, values_at, u_at, v_at, worked_at, svd_size, svd_head_of, svd_bytes_of, row_bytes_of, filled_bytes_of}
use Rattle.row.specs.Bytes.{bytes_code_of, svd_row_bytes_of}
use Rattle.row.specs.Codes.{Places, bytes_rows}
use Rattle.row.proofs.Vouched.{single_vouched}
use Rattle.row.proofs.bytes.zanikory_svd_3x3_row.Reads as svd-3x3-row

-- ---- an answer

-- each field has its numbers
pub record FullSvd (r : SvdAnswer) : Type 0 where
  pub values : length r.values ≡ 3
  pub u : length r.u.«data» ≡ 9
  pub v : length r.v.«data» ≡ 9
  pub worked : length r.worked.«data» ≡ 9

pub single_full : (f : Format) (m : Mat3) → length m.«data» ≡ 9 → FullSvd (single_of f m)
single_full f m n = let p = single_vouched f m n in record { values = p.0; u = p.2.0; v = p.2.2.0; worked = p.2.2.2.0 }

pub svd_bytes_length : (f : Format) (r : SvdAnswer) → FullSvd r → length (svd_bytes_of f r) ≡ svd_size f
unfolding svd_bytes_of
svd_bytes_length f r n = simp (length-append, numbers_length, n.values, n.u, n.v, n.worked) (omega arith)

pub single_bytes_length : (f : Format) (m : Mat3) → length m.«data» ≡ 9 → length (svd_bytes_of f (single_of f m)) ≡ svd_size f
single_bytes_length f m n = svd_bytes_length f (single_of f m) (single_full f m n)

-- the head and the four groups of numbers, written one after the other, are the whole
pub svd_of_parts : (f : Format) (r : SvdAnswer) (at : ℕ) (l l₁ l₂ l₃ l₄ l₅ : List ℕ) → FullSvd r → at + svd_size f ≤ length l
    → l₁ ≡ sets l at (svd_head_of r)
    → l₂ ≡ placed_of (at + values_at) (number_bytes_of f r.values) l₁
    → l₃ ≡ placed_of (at + u_at f) (number_bytes_of f r.u.«data») l₂
    → l₄ ≡ placed_of (at + v_at f) (number_bytes_of f r.v.«data») l₃
    → l₅ ≡ placed_of (at + worked_at f) (number_bytes_of f r.worked.«data») l₄
    → l₅ ≡ placed_of at (svd_bytes_of f r) l
unfolding svd_bytes_of
svd_of_parts f r at l l₁ l₂ l₃ l₄ l₅ n h p q s t w =
    let head = p ∙ placed_stored at (svd_head_of r) l (omega arith) in
    let values = numbers_behind f l l₁ l₂ (svd_head_of r) r.values at values_at 3 (u_at f) refl n.values refl (omega arith) head q in
    let u = numbers_behind f l l₂ l₃ _ r.u.«data» at (u_at f) 9 (v_at f) values.0 n.u (omega arith) (omega arith) values.1 s in
    let v = numbers_behind f l l₃ l₄ _ r.v.«data» at (v_at f) 9 (worked_at f) u.0 n.v (omega arith) (omega arith) u.1 t in
    let worked = numbers_behind f l l₄ l₅ _ r.worked.«data» at (worked_at f) 9 (svd_size f) v.0 n.worked (omega arith) (omega arith) v.1 w in
    worked.1 ∙ ap (λ (bytes : List ℕ). placed_of at bytes l) (simp append_assoc)

-- ---- the places

pub mats_length : (f : Format) (n : ℕ) (s : List ℕ) → length (mats_of f n s) ≡ n
unfolding mats_of
mats_length f zero s = refl
mats_length f (suc n) s = rw (length-append, mats_length f n s) (add-one n)

row_bytes_append : (f : Format) (rs ts : List SvdAnswer) → row_bytes_of f (rs ++ ts) ≡ row_bytes_of f rs ++ row_bytes_of f ts
unfolding row_bytes_of
row_bytes_append f [] ts = refl
row_bytes_append f (r ∷ rs) ts = rw (row_bytes_append f rs ts, append_assoc)

-- one answer more
pub answers_more : (f : Format) (i : ℕ) (s : List ℕ) → filled_bytes_of f (suc i) s ≡ filled_bytes_of f i s ++ svd_bytes_of f (single_of f (mat_at f i s))
unfolding mats_of row_bytes_of
answers_more f i s = rw (map-append, row_bytes_append, append-nil)

pub row_bytes_length : (f : Format) (n : ℕ) (s : List ℕ) → length (filled_bytes_of f n s) ≡ svd_size f * n
unfolding mats_of row_bytes_of
row_bytes_length f zero s = sym (mul-zero (svd_size f))
row_bytes_length f (suc n) s =
    rw (answers_more f n s, length-append, row_bytes_length f n s, single_bytes_length f (mat_at f n s) refl) (sym (mul-suc (svd_size f) n))

-- place i holds the answer to matrix i, whatever comes behind it
pub filled-place : (f : Format) (n i : ℕ) (s : List ℕ) → i < n
    → part (svd_size f * i) (svd_size f) (filled_bytes_of f n s) ≡ svd_bytes_of f (single_of f (mat_at f i s))
filled-place f zero i s h = absurd (omega arith)
filled-place f (suc n) i s h =
    let before = filled_bytes_of f n s in
    let last = svd_bytes_of f (single_of f (mat_at f n s)) in
    whether i n
    (λ e.
    rw (e, answers_more f n s)
    (part-behind (svd_size f * n) (svd_size f) before last (row_bytes_length f n s) (single_bytes_length f (mat_at f n s) refl)))
    (λ u.
    let room : svd_size f * i + svd_size f ≤ length before =
    rw (row_bytes_length f n s, ← mul-suc (svd_size f) i) (mul-le-mul_left (svd_size f) (omega arith)) in
    rw (answers_more f n s, part_within (svd_size f * i) (svd_size f) before last room) (filled-place f n i s (omega arith)))

-- ---- the code

size_pos : (f : Format) → 0 < mat_size f
size_pos binary32 = omega arith
size_pos binary64 = omega arith

-- x bytes are whole places of d bytes each, and then n of them
whole : (d x : ℕ) → x % d ≡ 0 → x ≡ d * (x / d)
whole d x h = omega (arith, div-add-mod x d)

counted : (d n x : ℕ) → 0 < d → x ≡ d * n → (x % d ≡ 0) × (x / d ≡ n)
counted d n x h e = rw e (mul-mod_right d n, mul-div_right n h)

-- either both are equally many whole places, or the code is 10
pub each_code : (P : ℕ → Type 0) (f : Format) (m a : ℕ) → ((n : ℕ) → Places f m a n → P (pick (leb n most_places) 0 11))
    → (((n : ℕ) → Places f m a n → ⊥) → P 10)
    → P (bytes_code_of f m a)
unfolding bytes_code_of row_code_of
each_code P f m a k none =
    by_test P (eqb (m % mat_size f) 0 && eqb (a % svd_size f) 0) (row_code_of (m / mat_size f) (a / svd_size f)) 10
    (λ t.
    let b = both_true (eqb (m % mat_size f) 0) (eqb (a % svd_size f) 0) t in
    let w = whole (mat_size f) m (eqb-true (m % mat_size f) 0 b.0) in
    let z = whole (svd_size f) a (eqb-true (a % svd_size f) 0 b.1) in
    by_eqb P (m / mat_size f) (a / svd_size f) _ 10 (λ e. k (m / mat_size f) (w, z ∙ ap (λ (n : ℕ). svd_size f * n) (sym e)))
    (λ u. none (λ n p. u ((counted (mat_size f) n m (size_pos f) p.0).1 ∙ sym (counted (svd_size f) n a (omega arith) p.1).1))))
    (λ t. none (λ n p. true≢false (sym (rw (
      eq-eqb _ 0 (counted (mat_size f) n m (size_pos f) p.0).0,
      eq-eqb _ 0 (counted (svd_size f) n a (omega arith) p.1).0,
    )) ∙ t)))

-- with code 0 both lengths are so many whole places
pub whole_places : (f : Format) (m a : ℕ) → bytes_code_of f m a ≡ 0 → Places f m a (m / mat_size f)
whole_places f m a =
    each_code (λ (k : ℕ). k ≡ 0 → Places f m a (m / mat_size f)) f m a
    (λ n p _. rw (counted (mat_size f) n m (size_pos f) p.0).1 p)
    (λ _ e. absurd (omega arith))

-- ---- the theorems

-- n places may be more than a row may have
long_row : (d n m : ℕ) → 0 < d → m ≡ d * n → Gives (on 11 (most_places * d < m) ∷ []) (pick (leb n most_places) 0 11)
long_row d n m h e =
    either most_places n (λ l. rw (lt-leb n most_places l) (inl (omega (arith, mul-lt-mul_of_pos_right l h), refl)))
    (λ l. rw (le-leb n most_places l) (inr ((λ k. omega (arith, mul-le-mul_right d l)), refl)))

pub bytes_codes : (f : Format) (s out : List ℕ) → Gives (bytes_rows f s out) (svd_row_bytes_of f s out).code
unfolding svd_row_bytes_of
bytes_codes f s out =
    each_code (Gives (bytes_rows f s out)) f (length s) (length out)
    (λ n p. inr ((λ u. u n p), long_row (mat_size f) n (length s) (size_pos f) p.0))
    (λ u. inl (u, refl))

-- of bytes that are whole places: the same code, with 0 the bytes of the same answers, and else those that were found
pub bytes_is_row : (f : Format) (s out : List ℕ) (ys : List SvdAnswer) → length s % mat_size f ≡ 0 → length out ≡ svd_size f * length ys
    → let row = svd_row_of f (mats_of f (length s / mat_size f) s) ys in
    ((svd_row_bytes_of f s out).code ≡ row.code)
    × (row.code ≡ 0 → (svd_row_bytes_of f s out).value ≡ row_bytes_of f row.value)
    × ((row.code ≡ 0 → ⊥) → (svd_row_bytes_of f s out).value ≡ out)
unfolding svd_row_bytes_of svd_row_of bytes_code_of
bytes_is_row f s out ys h e =
    let n = length s / mat_size f in
    let c = counted (svd_size f) (length ys) (length out) (omega arith) e in
    let same : bytes_code_of f (length s) (length out) ≡ row_code_of (length (mats_of f n s)) (length ys) =
    rw (eq-eqb _ 0 h, eq-eqb _ 0 c.0, c.1, mats_length f n s) in
    (same, (λ z. rw (eq-eqb _ 0 (same ∙ z), eq-eqb _ 0 z)), (λ n. rw (ne_eqb _ 0 (λ z. n (sym same ∙ z)))))

-- place by place: with code 0 the bytes of place i are those of what the single call gives for matrix i
pub bytes_place : (f : Format) (s out : List ℕ) (i : ℕ) → (svd_row_bytes_of f s out).code ≡ 0 → i < length s / mat_size f
    → part (svd_size f * i) (svd_size f) (svd_row_bytes_of f s out).value ≡ svd_bytes_of f (single_of f (mat_at f i s))
unfolding svd_row_bytes_of
bytes_place f s out i e h = rw (eq-eqb _ 0 e) (filled-place f (length s / mat_size f) i s h)

-- so its numbers are finite, refused or not
pub bytes_vouched : (f : Format) (s out : List ℕ) (i : ℕ) → (svd_row_bytes_of f s out).code ≡ 0 → i < length s / mat_size f
    → (r : SvdAnswer) × (part (svd_size f * i) (svd_size f) (svd_row_bytes_of f s out).value ≡ svd_bytes_of f r) × AllFull (svd3_parts r)
bytes_vouched f s out i e h = (single_of f (mat_at f i s), bytes_place f s out i e h, single_vouched f (mat_at f i s) refl)

-- ---- the same of any answer within the promise of the C entry

pub bytes_codes_call : (κs : Lfts 2) (a : _) (r : Result (Unit {0}) Refusal) (x : _) → svd-3x3-row.Post κs a r x
    → Gives (bytes_rows F a.0.now a.1.0.now) (code_of r)
bytes_codes_call κs a r x p = rw p.0 (bytes_codes F a.0.now a.1.0.now)

pub bytes_place_call : (κs : Lfts 2) (a : _) (r : Result (Unit {0}) Refusal) (x : _) → svd-3x3-row.Post κs a r x
    → (i : ℕ) → code_of r ≡ 0 → i < length a.0.now / mat_size F
    → part (svd_size F * i) (svd_size F) x.1.0.now ≡ svd_bytes_of F (single_of F (mat_at F i a.0.now))
bytes_place_call κs a r x p i e h = rw p.1 (bytes_place F a.0.now a.1.0.now i (sym p.0 ∙ e) h)
