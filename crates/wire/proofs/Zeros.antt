-- The zero test of bytes, from a place on, and bytes taken together bit by bit: none has a bit exactly where all are zero.
use Rattle.float.proofs.Words.{◌≡◌, refl, sym, ap, ◌∙◌, Bool, true, false, ◌&&◌, and_assoc, and-true, List, ℕ, ◌+◌, ◌-◌, ◌≤◌, ◌<◌, arith, eqb, length, get_or}
use Rattle.float.proofs.Words.{eq-eqb, []}
use Rattle.float.proofs.Words.{◌∷◌, zero, suc, drop, length-take, get_or-take, get_or-drop, ne_eqb, eqb-true, eqb-false, ltb, ltb-true, ltb-false, min}
use Rattle.std.specs.List.{fold}
use lib.Bits.{bit_or, or_add_and, and_le_l, and_le_r, or_zero_l}
use Rattle.float.proofs.Finite.{both_true}
use Rattle.wire.specs.Bytes.{part, all_zero, zero_from}
use Rattle.wire.proofs.Parts.{part_past}

-- ---- one byte, and none

-- no byte stands behind the last one
pub zero_past : (s : List ℕ) (a e : ℕ) → zero_from a (min e (length s)) s ≡ zero_from a e s
zero_past s a e = by (ltb (length s) e) refl
  where
    by : (t : Bool) → ltb (length s) e ≡ t → zero_from a (min e (length s)) s ≡ zero_from a e s
    by true h =
        let l = ltb-true (length s) e h in
        ap all_zero (part_past a (min e (length s) - a) (e - a) s (omega arith) (omega arith))
    by false h =
        let l = ltb-false (length s) e h in
        let same : min e (length s) ≡ e = omega arith in
        rw same

-- ---- byte by byte

all_zero_lem : (s : List ℕ) → all_zero s ≡ true → (i : ℕ) → get_or s i 0 ≡ 0
unfolding all_zero
all_zero_lem [] e i = refl
all_zero_lem (b ∷ s) e zero = eqb-true b 0 (both_true (eqb b 0) (all_zero s) e).0
all_zero_lem (b ∷ s) e (suc i) = all_zero_lem s (both_true (eqb b 0) (all_zero s) e).1 i

each_zero : (s : List ℕ) → ((i : ℕ) → i < length s → get_or s i 0 ≡ 0) → all_zero s ≡ true
unfolding all_zero
each_zero [] h = refl
each_zero (b ∷ s) h = rw (h 0 (omega arith), each_zero s (λ i l. h (suc i) (omega arith)))

-- the byte with number i of those from a up to e
byte_of : (a e : ℕ) (s : List ℕ) (i : ℕ) → a + i < e → get_or (part a (e - a) s) i 0 ≡ get_or s (a + i) 0
byte_of a e s i h = get_or-take (e - a) (drop a s) i 0 (omega arith) ∙ get_or-drop a s i 0

pub zero-at : (a e : ℕ) (s : List ℕ) → zero_from a e s ≡ true → (i : ℕ) → (a ≤ i) × (i < e) → get_or s i 0 ≡ 0
zero-at a e s h i w =
    let q : a + (i - a) ≡ i = omega (arith, w.0) in
    ap (λ (k : ℕ). get_or s k 0) (sym q) ∙ sym (byte_of a e s (i - a) (omega (arith, w.0, w.1))) ∙ all_zero_lem (part a (e - a) s) h (i - a)

pub zero_all : (a e : ℕ) (s : List ℕ) → ((i : ℕ) → (a ≤ i) × (i < e) → get_or s i 0 ≡ 0) → zero_from a e s ≡ true
zero_all a e s h =
    each_zero (part a (e - a) s)
    (λ i l. let m = length-take (e - a) (drop a s) in
    let n : a + i < e = omega arith in
    byte_of a e s i n ∙ h (a + i) (omega arith, n))

-- ---- bit by bit

no_bits : (a b : ℕ) → bit_or a b ≡ 0 → (a ≡ 0) × (b ≡ 0)
no_bits a b e = let s = or_add_and a b in let l = and_le_l a b in let r = and_le_r a b in (omega arith, omega arith)

pub or_zero : (a b : ℕ) → eqb (bit_or a b) 0 ≡ eqb a 0 && eqb b 0
or_zero a b = by (eqb a 0) refl (eqb b 0) refl
  where
    by : (t : Bool) → eqb a 0 ≡ t → (u : Bool) → eqb b 0 ≡ u → eqb (bit_or a b) 0 ≡ t && u
    by true h true k = eq-eqb (bit_or a b) 0 (ap (λ (x : ℕ). bit_or x b) (eqb-true a 0 h) ∙ or_zero_l b ∙ eqb-true b 0 k)
    by true h false k = ne_eqb (bit_or a b) 0 (λ e. eqb-false b 0 k (no_bits a b e).1)
    by false h u k = ne_eqb (bit_or a b) 0 (λ e. eqb-false a 0 h (no_bits a b e).0)

pub no_bit : (s : List ℕ) (any : ℕ) → eqb (fold bit_or any s) 0 ≡ eqb any 0 && all_zero s
unfolding all_zero
no_bit [] any = sym (and-true (eqb any 0))
no_bit (b ∷ s) any =
    no_bit s (bit_or any b) ∙ ap (λ (t : Bool). t && all_zero s) (or_zero any b) ∙ and_assoc (eqb any 0) (eqb b 0) (all_zero s)

-- bytes up to the end of a slice, from a place that is not past them
pub zero_within : (s : List ℕ) (a e : ℕ) → all_zero (part (min a (min e (length s))) (min e (length s) - min a (min e (length s))) s) ≡ zero_from a e s
zero_within s a e = by (ltb (min e (length s)) a) refl ∙ zero_past s a e
  where
    end : ℕ
    end = min e (length s)

    by : (t : Bool) → ltb end a ≡ t → all_zero (part (min a end) (end - min a end) s) ≡ zero_from a end s
    by true h =
        let l = ltb-true end a h in
        let m : end - min a end ≡ 0 = omega arith in
        let n : end - a ≡ 0 = omega arith in
        rw (m, n)
    by false h = let l = ltb-false end a h in let m : min a end ≡ a = omega arith in rw m
