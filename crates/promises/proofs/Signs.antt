-- A number whose highest bit is flipped is its negation: the other fields stay, and the sign is the other one.
use Rattle.float.proofs.Words.{◌≡◌, refl, sym, ap, ◌∙◌, Bool, true, false, cond, List, [], ◌∷◌, ◌++◌, ℕ, zero, suc, ◌+◌, ◌-◌, ◌*◌, ◌/◌, ◌%◌, ◌^◌, ◌≤◌, ◌<◌}
use Rattle.float.proofs.Words.{pow-zero, pow-suc, mul-add, mul-le-mul_left, arith, eqb, length, Float, nan, inf, Format, binary32, binary64, neg, odd, prec}
use Rattle.float.proofs.Words.{low, ones, hid, top, of_fields, of_bits, le-leb, lt-leb}
use Rattle.float.proofs.Choice.{by_ltb}
use Rattle.float.proofs.Negation.{neg_twice}
use Rattle.wire.specs.Bytes.{number_bytes, word_of}
use Rattle.promises.specs.Wiring.{flipped_byte}

-- ---- the fields

odd_flip : (d q k l : ℕ) → odd d true q k l ≡ neg (odd d false q k l)
unfolding odd neg
odd_flip d zero k l = refl
odd_flip d (suc q) k l = refl

chosen_flip : (a b : Bool) (x y : Float) → x ≡ neg y → cond a (cond b (inf true) nan) x ≡ neg (cond a (cond b (inf false) nan) y)
unfolding neg
chosen_flip true true x y e = refl
chosen_flip true false x y e = refl
chosen_flip false b x y e = e

fields_flip : (f : Format) (x t : ℕ) → of_fields f true x t ≡ neg (of_fields f false x t)
unfolding of_fields
fields_flip f zero t = odd_flip (prec f) t 0 (low f)
fields_flip f (suc x) t = chosen_flip (eqb (suc x) (ones f)) (eqb t 0) _ _ (odd_flip (prec f) (hid f + t) x (low f))

-- ---- the highest bit set

set_fields : (f : Format) (n : ℕ) → n < top f → ((n + top f) % top f ≡ n % top f) × ((n + top f) % hid f ≡ n % hid f)
set_fields binary32 n h = (omega arith, omega arith)
set_fields binary64 n h = (omega arith, omega arith)

top_set : (f : Format) (n : ℕ) → n < top f → of_bits f (n + top f) ≡ neg (of_bits f n)
unfolding of_bits
top_set f n h =
    let e = set_fields f n h in
    rw (le-leb (top f) (n + top f) (omega arith), lt-leb (top f) n h, e.0, e.1) (fields_flip f (n % top f / hid f) (n % hid f))

-- ---- in the last byte

last_byte : (l : List ℕ) (b : ℕ) → word_of (l ++ (b ∷ [])) ≡ word_of l + 256 ^ length l * b
unfolding word_of
last_byte [] b = rw pow-zero (omega arith)
last_byte (c ∷ l) b = rw (last_byte l b, pow-suc) (omega arith)

top_byte : (f : Format) (k : ℕ) → k + 1 ≡ number_bytes f → 256 ^ k * 128 ≡ top f
top_byte binary32 k e = let h : k ≡ 3 = omega arith in ap (λ (j : ℕ). 256 ^ j * 128) h
top_byte binary64 k e = let h : k ≡ 7 = omega arith in ap (λ (j : ℕ). 256 ^ j * 128) h

-- p is the weight of the last byte b, and n what stands below it
module _ (f : Format) (p n : ℕ) (t : p * 128 ≡ top f) (h : n < p) where
  below_top : (b : ℕ) → b < 128 → n + p * b < top f
  below_top b l = let m : p * b ≤ p * 127 = mul-le-mul_left p (omega arith) in omega arith

  set_bit : (b : ℕ) → b < 128 → of_bits f (n + p * (b + 128)) ≡ neg (of_bits f (n + p * b))
  set_bit b l = let e : n + p * (b + 128) ≡ n + p * b + top f = omega (arith, mul-add p b 128) in ap (of_bits f) e ∙ top_set f (n + p * b) (below_top b l)

  flipped_byte_lem : (b : ℕ) → b < 256 → of_bits f (n + p * flipped_byte b) ≡ neg (of_bits f (n + p * b))
  flipped_byte_lem b k = by_ltb {X = ℕ} (λ _. of_bits f (n + p * flipped_byte b) ≡ neg (of_bits f (n + p * b))) b 128 0 0
      (λ l. let e : flipped_byte b ≡ b + 128 = omega arith in ap (λ (c : ℕ). of_bits f (n + p * c)) e ∙ set_bit b l)
      (λ l.
      let c : ℕ = b - 128 in
      let e : flipped_byte b ≡ c = omega arith in
      let q : c + 128 ≡ b = omega arith in
      ap (λ (d : ℕ). of_bits f (n + p * d)) e
      ∙ sym (neg_twice (of_bits f (n + p * c)))
      ∙ ap neg (sym (set_bit c (omega arith)))
      ∙ ap (λ (d : ℕ). neg (of_bits f (n + p * d))) q)

-- ---- a number in its bytes

pub number-flipped : (f : Format) (l : List ℕ) (b : ℕ) → length l + 1 ≡ number_bytes f → word_of l < 256 ^ length l → b < 256
    → of_bits f (word_of (l ++ (flipped_byte b ∷ []))) ≡ neg (of_bits f (word_of (l ++ (b ∷ []))))
number-flipped f l b e h k =
    ap (of_bits f) (last_byte l (flipped_byte b)) ∙ flipped_byte_lem f (256 ^ length l) (word_of l) (top_byte f (length l) e) h b k
    ∙ ap (λ (m : ℕ). neg (of_bits f m)) (sym (last_byte l b))
