-- A request with signs flipped says the same of its form, and its numbers are the negated ones. So its answer is to the other what the kernel's answers to a
-- matrix and to its negation are to each other, whatever that is.
use Rattle.float.proofs.Words.{◌≡◌, refl, sym, ap, ◌∙◌, and-true, List, [], ◌∷◌, ◌++◌, ℕ, zero, suc, ◌+◌, ◌-◌, ◌*◌, ◌≤◌, ◌<◌, mul-zero}
use Rattle.float.proofs.Words.{mul-suc, mul-le-mul_left, arith, length, get_or, take, drop, length-append, length-take, length-drop, take_all, take-suc}
use Rattle.float.proofs.Words.{take-append_seam, drop-append-add, drop-drop, length-take-le, Float, Format, binary32, binary64, neg, of_bits, take_at}
use Rattle.float.specs.Sign.{all_finite}
use Rattle.matrix.specs.Places.{at, tabulate, negated_of}
use Rattle.matrix.proofs.Tables.{at-tabulate, tabulate-same, first_tabulate, negated-finite, length-tabulate}
use Rattle.kinds.specs.Table.{Kind, kind_numbered}
use Rattle.kinds.specs.Work.{WorkedAnswer, first_of, refused_kind, used_finite}
use Rattle.kinds.specs.Ways.{work_of}
use Rattle.wire.specs.Bytes.{number_bytes, place_of, word_of, part, number_at}
use Rattle.wire.proofs.Words.{word_below}
use Rattle.record.specs.Layout.{nine_at, request_size}
use Rattle.record.specs.Request.{kind_of, way_of, asked_of, judged_of}
use Rattle.promises.specs.Wiring.{flipped_number, flipped_numbers, flipped_first, Bytes}
use Rattle.promises.proofs.Bodies.{kind_same, way_same, kept}
use Rattle.promises.proofs.Signs.{number-flipped}

-- ---- one number

bytes_take : (n : ℕ) (x : List ℕ) → Bytes x → Bytes (take n x)
bytes_take zero x h i = omega arith
bytes_take (suc n) [] h i = h i
bytes_take (suc n) (b ∷ x) h zero = h 0
bytes_take (suc n) (b ∷ x) h (suc i) = bytes_take n x (λ (j : ℕ). h (suc j)) i

bytes_drop : (n : ℕ) (x : List ℕ) → Bytes x → Bytes (drop n x)
bytes_drop zero x h i = h i
bytes_drop (suc n) [] h i = h i
bytes_drop (suc n) (b ∷ x) h i = bytes_drop n x (λ (j : ℕ). h (suc j)) i

module _ (f : Format) where
  abbrev width : ℕ
  width = number_bytes f

  width_more : suc (width - 1) ≡ width
  width_more = by f
    where
      by : (f : Format) → suc (number_bytes f - 1) ≡ number_bytes f
      by binary32 = refl
      by binary64 = refl

  flipped-length : (x : List ℕ) → length x ≡ width → length (flipped_number f x) ≡ width
  flipped-length x e = let m = width_more in simp (length-append, length-take) (omega arith)

  one_flipped : (x : List ℕ) → length x ≡ width → Bytes x → of_bits f (word_of (flipped_number f x)) ≡ neg (of_bits f (word_of x))
  one_flipped x e h =
      let m = width_more in
      let l = take (width - 1) x in
      let k : length l ≡ width - 1 = length-take-le (width - 1) x (omega arith) in
      let whole : l ++ (get_or x (width - 1) 0 ∷ []) ≡ x = sym (take-suc x (width - 1) 0 (omega arith)) ∙ take_all (suc (width - 1)) x (omega arith) in
      number-flipped f l (get_or x (width - 1) 0) (omega arith) (word_below l (bytes_take (width - 1) x h)) (h (width - 1))
      ∙ ap (λ (y : List ℕ). neg (of_bits f (word_of y))) whole

  -- ---- n numbers

  first_length : (n : ℕ) (s : List ℕ) → width * suc n ≤ length s → length (take width s) ≡ width
  first_length n s h = let e = mul-suc width n in length-take-le width s (omega arith)

  rest_length : (n : ℕ) (s : List ℕ) → width * suc n ≤ length s → width * n ≤ length (drop width s)
  rest_length n s h = let e = mul-suc width n in simp length-drop (omega arith)

  -- behind the first number
  behind_first : (n : ℕ) (s r : List ℕ) → width * suc n ≤ length s → (m : ℕ) → drop (width * suc m) (flipped_number f (take width s) ++ r) ≡ drop (width * m) r
  behind_first n s r h m =
      let e = mul-suc width m in
      let x = flipped_number f (take width s) in
      let l = flipped-length (take width s) (first_length n s h) in
      let q : width * suc m ≡ length x + width * m = omega arith in
      ap (λ (k : ℕ). drop k (x ++ r)) q ∙ drop-append-add x r (width * m)

  behind-number : (s : List ℕ) (m : ℕ) → drop (width * suc m) s ≡ drop (width * m) (drop width s)
  behind-number s m =
      let e = mul-suc width m in
      let q : width * suc m ≡ width + width * m = omega arith in
      ap (λ (k : ℕ). drop k s) q ∙ sym (drop-drop (width * m) width s)

  numbers_flipped : (n : ℕ) (s : List ℕ) → width * n ≤ length s → Bytes s → (i : ℕ) → i < n
      → of_bits f (word_of (part (width * i) width (flipped_numbers f n s))) ≡ neg (of_bits f (word_of (part (width * i) width s)))
  unfolding flipped_numbers
  numbers_flipped zero s h b i l = absurd (omega arith)
  numbers_flipped (suc n) s h b zero l =
      let x = take width s in
      let e = first_length n s h in
      let seam : take width (flipped_number f x ++ flipped_numbers f n (drop width s)) ≡ flipped_number f x =
      ap (λ (k : ℕ). take k (flipped_number f x ++ flipped_numbers f n (drop width s))) (sym (flipped-length x e))
      ∙ take-append_seam (flipped_number f x) (flipped_numbers f n (drop width s)) in
      rw (mul-zero width) (ap (λ (y : List ℕ). of_bits f (word_of y)) seam ∙ one_flipped x e (bytes_take width s b))
  numbers_flipped (suc n) s h b (suc i) l =
      ap (λ (y : List ℕ). of_bits f (word_of (take width y))) (behind_first n s (flipped_numbers f n (drop width s)) h i)
      ∙ numbers_flipped n (drop width s) (rest_length n s h) (bytes_drop width s b) i (omega arith)
      ∙ ap (λ (y : List ℕ). neg (of_bits f (word_of (take width y)))) (sym (behind-number s i))

  rest_same : (n : ℕ) (s : List ℕ) → width * n ≤ length s → drop (width * n) (flipped_numbers f n s) ≡ drop (width * n) s
  unfolding flipped_numbers
  rest_same zero s h = refl
  rest_same (suc n) s h = behind_first n s (flipped_numbers f n (drop width s)) h n ∙ rest_same n (drop width s) (rest_length n s h) ∙ sym (behind-number s n)

  same_length : (n : ℕ) (s : List ℕ) → width * n ≤ length s → length (flipped_numbers f n s) ≡ length s
  unfolding flipped_numbers
  same_length zero s h = refl
  same_length (suc n) s h =
      let e = mul-suc width n in
      let rest = same_length n (drop width s) (rest_length n s h) in
      let whole = length-drop width s in
      rw (length-append, flipped-length (take width s) (first_length n s h)) (omega arith)

  pub flipped-size : (n : ℕ) (s : List ℕ) → n ≤ 9 → length s ≡ request_size f → length (flipped_first f n s) ≡ request_size f
  flipped-size n s most h =
      let first = length-take-le nine_at s (omega arith) in
      let rest = length-drop nine_at s in
      let within = mul-le-mul_left width most in
      let same = same_length n (drop nine_at s) (omega arith) in
      rw length-append (omega arith)

  -- what lies behind the head
  flipped_body : (n : ℕ) (s : List ℕ) → nine_at ≤ length s → (m : ℕ) → drop (nine_at + m) (flipped_first f n s) ≡ drop m (flipped_numbers f n (drop nine_at s))
  flipped_body n s h m =
      let body = flipped_numbers f n (drop nine_at s) in
      ap (λ (k : ℕ). drop (k + m) (flipped_first f n s)) (sym (length-take-le nine_at s h)) ∙ drop-append-add (take nine_at s) body m

-- ---- the kind uses the first n of the nine numbers and none of the three. R is kept by a refusal, and by the kernel from a matrix to its negation.

module _ (f : Format) (kind n : ℕ) (nine : (kind_numbered kind).nine ≡ n) (three : (kind_numbered kind).three ≡ 0) (most : n ≤ 9)
    (R : WorkedAnswer → WorkedAnswer → Type 0)
    (refused : (k : ℕ) → (k ≡ 0 → ⊥) → R (refused_kind f k 0) (refused_kind f k 0))
    (worked : (way : ℕ) (x y p q : List Float) → first_of n y ≡ negated_of n (first_of n x)
    → R (work_of f (record { kind = kind; way = way; nine = x; three = p })) (work_of f (record { kind = kind; way = way; nine = y; three = q }))) where
  module _ (s : List ℕ) (size : length s ≡ request_size f) (bytes : Bytes s) where
    abbrev other : List ℕ
    other = flipped_first f n s

    within : width f * n ≤ width f * 9
    within = mul-le-mul_left (width f) most

    body_size : length (drop nine_at s) ≡ width f * 12
    body_size = let l = length-drop nine_at s in omega arith

    abbrev number_in : List ℕ → ℕ → Float
    number_in r i = number_at f (place_of f nine_at i) r

    number-negated : (i : ℕ) → i < n → number_in other i ≡ neg (number_in s i)
    number-negated i l =
        ap (λ (y : List ℕ). of_bits f (word_of (take (width f) y))) (flipped_body f n s (omega arith) (width f * i))
        ∙ numbers_flipped f n (drop nine_at s) (omega (arith, within, body_size)) (bytes_drop nine_at s bytes) i l
        ∙ ap (λ (y : List ℕ). neg (of_bits f (word_of (take (width f) y)))) (drop-drop (width f * i) nine_at s)

    firsts_negated : first_of n (tabulate 9 (number_in other)) ≡ negated_of n (first_of n (tabulate 9 (number_in s)))
    firsts_negated =
        first_tabulate n 9 (number_in other) most
        ∙ tabulate-same n (number_in other) (λ (i : ℕ). neg (at (tabulate n (number_in s)) i))
        (λ i l. number-negated i l ∙ ap neg (sym (at-tabulate n (number_in s) i l)))
        ∙ ap (negated_of n) (sym (first_tabulate n 9 (number_in s) most))

    same_head : take nine_at other ≡ take nine_at s
    same_head = take_at (take nine_at s) (flipped_numbers f n (drop nine_at s)) nine_at (length-take-le nine_at s (omega arith))

    same_rest : drop (place_of f nine_at n) other ≡ drop (place_of f nine_at n) s
    same_rest =
        flipped_body f n s (omega arith) (width f * n) ∙ rest_same f n (drop nine_at s) (omega (arith, within, body_size))
        ∙ drop-drop (width f * n) nine_at s

    -- the finite test of the used numbers
    used_is : (r : List ℕ) → kind_of r ≡ kind → used_finite (asked_of f r) ≡ all_finite (first_of n (tabulate 9 (number_in r)))
    unfolding all_finite
    used_is r e = rw (e, nine, three) (and-true _)

    pub flipped_kept : kind_of s ≡ kind → R (judged_of f s) (judged_of f other)
    flipped_kept k =
        let rows : kind_numbered (kind_of s) ≡ kind_numbered kind = ap kind_numbered k in
        let size' = flipped-size f n s most size in
        let nine' : (kind_numbered (kind_of s)).nine ≡ n = ap (λ (r : Kind). r.nine) rows ∙ nine in
        let three' : (kind_numbered (kind_of s)).three ≡ 0 = ap (λ (r : Kind). r.three) rows ∙ three in
        let k' : kind_of other ≡ kind = kind_same f s other n nine' three' most size size' same_head same_rest ∙ k in
        let w' : way_of other ≡ way_of s = way_same f s other n nine' three' most size size' same_head same_rest in
        let numbers = first_of n (tabulate 9 (number_in s)) in
        kept f s other n nine' three' most size size' same_head same_rest R refused
        (used_is other k' ∙ ap all_finite firsts_negated ∙ sym (negated-finite n numbers (length-tabulate n _)) ∙ sym (used_is s k))
        (λ _. rw (k, k', w')
        (worked (way_of s) (tabulate 9 (number_in s)) (tabulate 9 (number_in other)) _ _ firsts_negated))
