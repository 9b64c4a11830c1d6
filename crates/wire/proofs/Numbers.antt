-- Numbers in bytes, over the format.
use Rattle.float.proofs.Words.{◌≡◌, refl, sym, ap, ◌∙◌, not, List, [], ◌∷◌, ◌++◌, append_assoc, ℕ, zero, suc, ◌+◌, ◌*◌, ◌^◌, ◌≤◌, ◌<◌, mul-zero, mul-suc}
use Rattle.float.proofs.Words.{mul-le-mul_left}
use Rattle.float.proofs.Words.{add_assoc, add_comm, add-one, T, length, get_or, take, drop, replicate, length-append, replicate-append-replicate, drop-cons}
use Rattle.float.proofs.Words.{drop-append-add, take-append-add, sets, arith, Float, nan, Format, binary32, binary64, fits, is_nan, top, of_bits, to_bits}
use lib.Ieee.Bits.{of_bits-to_bits, to_bits-lt, to_bits-of_bits}
use Rattle.float.specs.Constants.{zero_f}
use Rattle.matrix.specs.Places.{zeros}
use Rattle.matrix.proofs.Tables.{tabulate-same}
use Rattle.wire.specs.Bytes.{number_bytes, place_of, word_of, bytes_of, part, number_at, numbers_from, number_bytes_of, placed_of}
use Rattle.wire.proofs.Parts.{part_in, sets_append, placed_front, placed_behind}
use Rattle.wire.proofs.Words.{bytes_length, word_of_bytes, word_below, bytes_of_word}

abbrev pub word_bytes : Format → Float → List ℕ
word_bytes f x = bytes_of (number_bytes f) (to_bits f x)

-- a number stored, and the others behind it
pub number_more : (f : Format) (out : List ℕ) (xs : List Float) (at i : ℕ) → i < length xs
    → sets (sets out (place_of f at i) (word_bytes f (get_or xs i nan))) (place_of f at (i + 1)) (number_bytes_of f (drop (i + 1) xs))
    ≡ sets out (place_of f at i) (number_bytes_of f (drop i xs))
unfolding number_bytes_of
number_more f out xs at i h =
    let x = word_bytes f (get_or xs i nan) in
    let next : place_of f at (i + 1) ≡ place_of f at i + length x =
    rw (add-one, mul-suc, bytes_length) (sym (add_assoc at (number_bytes f * i) (number_bytes f))) in
    rw (next, drop-cons xs i nan h, add-one) (sets_append out (place_of f at i) x (number_bytes_of f (drop (suc i) xs)))

pub numbers_length : (f : Format) (xs : List Float) → length (number_bytes_of f xs) ≡ number_bytes f * length xs
unfolding number_bytes_of
numbers_length f [] = sym (mul-zero (number_bytes f))
numbers_length f (x ∷ xs) =
    rw (length-append, bytes_length, numbers_length f xs, mul-suc) (add_comm (number_bytes f) (number_bytes f * length xs))

-- the bytes behind the first k numbers, and those of the first k
pub numbers_drop : (f : Format) (xs : List Float) (r : List ℕ) (k : ℕ) → k ≤ length xs
    → drop (number_bytes f * k) (number_bytes_of f xs ++ r) ≡ number_bytes_of f (drop k xs) ++ r
unfolding number_bytes_of
numbers_drop f xs r zero h = rw (mul-zero (number_bytes f))
numbers_drop f [] r (suc k) h = absurd (omega arith)
numbers_drop f (x ∷ xs) r (suc k) h =
    let l = bytes_length (number_bytes f) (to_bits f x) in
    let q : number_bytes f * suc k ≡ length (word_bytes f x) + number_bytes f * k = rw mul-suc (omega arith) in
    rw (q, append_assoc) (drop-append-add (word_bytes f x) (number_bytes_of f xs ++ r) (number_bytes f * k) ∙ numbers_drop f xs r k (omega arith))

pub numbers_take : (f : Format) (xs : List Float) (r : List ℕ) (k : ℕ) → k ≤ length xs
    → take (number_bytes f * k) (number_bytes_of f xs ++ r) ≡ number_bytes_of f (take k xs)
unfolding number_bytes_of
numbers_take f xs r zero h = rw (mul-zero (number_bytes f))
numbers_take f [] r (suc k) h = absurd (omega arith)
numbers_take f (x ∷ xs) r (suc k) h =
    let l = bytes_length (number_bytes f) (to_bits f x) in
    let q : number_bytes f * suc k ≡ length (word_bytes f x) + number_bytes f * k = rw mul-suc (omega arith) in
    rw (q, append_assoc)
    (take-append-add (word_bytes f x) (number_bytes_of f xs ++ r) (number_bytes f * k)
    ∙ ap (λ (l : List ℕ). word_bytes f x ++ l) (numbers_take f xs r k (omega arith)))

-- numbers placed in a list, up to their end
pub numbers_front : (f : Format) (l l' : List ℕ) (xs : List Float) (at n : ℕ) → length xs ≡ n → place_of f at n ≤ length l
    → l' ≡ placed_of at (number_bytes_of f xs) l
    → take (place_of f at n) l' ≡ take at l ++ number_bytes_of f xs
numbers_front f l l' xs at n e h p = rw p (placed_front at (number_bytes f * n) (number_bytes_of f xs) l (rw (numbers_length f xs, e)) h)

-- k numbers placed behind the n bytes x: m bytes in all
pub numbers_behind : (f : Format) (l l' l'' x : List ℕ) (xs : List Float) (at n k m : ℕ) → length x ≡ n → length xs ≡ k → m ≡ place_of f n k
    → at + m ≤ length l → l' ≡ placed_of at x l → l'' ≡ placed_of (at + n) (number_bytes_of f xs) l'
    → (length (x ++ number_bytes_of f xs) ≡ m) × (l'' ≡ placed_of at (x ++ number_bytes_of f xs) l)
numbers_behind f l l' l'' x xs at n k m a b e h p q =
    let size : length (number_bytes_of f xs) ≡ number_bytes f * k = rw (numbers_length f xs, b) in
    (rw length-append (omega arith), placed_behind l l' l'' x (number_bytes_of f xs) at (at + n) (omega arith) (omega arith) p q)

-- ---- zeros

zero_bytes : (f : Format) → word_bytes f (zero_f f) ≡ replicate (number_bytes f) 0
unfolding bytes_of to_bits of_bits
zero_bytes binary32 = refl
zero_bytes binary64 = refl

pub zeros_bytes : (f : Format) (n : ℕ) → number_bytes_of f (zeros f n) ≡ replicate (number_bytes f * n) 0
unfolding number_bytes_of
zeros_bytes f zero = ap (λ (k : ℕ). replicate k 0) (sym (mul-zero (number_bytes f)))
zeros_bytes f (suc n) =
    rw (zero_bytes f, zeros_bytes f n, replicate-append-replicate, mul-suc) (ap (λ (k : ℕ). replicate k 0) (add_comm (number_bytes f) (number_bytes f * n)))

-- ---- back and forth

-- a format's patterns fill its bytes
whole_width : (f : Format) → 2 * top f ≡ 256 ^ number_bytes f
whole_width binary32 = refl
whole_width binary64 = refl

pub number_of_bytes : (f : Format) (x : Float) → T (fits f x) → of_bits f (word_of (word_bytes f x)) ≡ x
number_of_bytes f x h =
    rw (word_of_bytes (number_bytes f) (to_bits f x) (rw whole_width at (to_bits-lt f x h))) (of_bits-to_bits f x h)

-- the bytes of a NaN are the exception: every NaN is written as the quiet one
pub bytes_of-number : (f : Format) (l : List ℕ) → length l ≡ number_bytes f → ((i : ℕ) → get_or l i 0 < 256) → T (not (is_nan (of_bits f (word_of l))))
    → word_bytes f (of_bits f (word_of l)) ≡ l
bytes_of-number f l n h t =
    let k : word_of l < 2 * top f = rw (whole_width f, ← n) (word_below l h) in
    rw (to_bits-of_bits f (word_of l) k t, ← n) (bytes_of_word l h)

-- the numbers of a part, where all of them are in it, are those that stand there in all of the bytes
pub numbers_in : (f : Format) (n a m : ℕ) (s : List ℕ) → place_of f 0 n ≤ m → numbers_from f n 0 (part a m s) ≡ numbers_from f n a s
numbers_in f n a m s h = tabulate-same n _ _ same
  where
    inside : (i : ℕ) → i < n → place_of f 0 i + number_bytes f ≤ m
    inside i l = let p = mul-le-mul_left (number_bytes f) l in let q = mul-suc (number_bytes f) i in omega arith

    same : (i : ℕ) → i < n → number_at f (place_of f 0 i) (part a m s) ≡ number_at f (place_of f a i) s
    same i l =
        ap (λ (b : List ℕ). of_bits f (word_of b))
        (part_in s a m (number_bytes f) (place_of f 0 i) (inside i l) ∙ ap (λ (k : ℕ). part k (number_bytes f) s) (omega arith))
