-- Words and their bytes, over the width.
use Rattle.float.proofs.Words.{◌≡◌, refl, sym, ap, ◌∙◌, List, [], ◌∷◌, ◌++◌, ℕ, zero, suc, ◌+◌, ◌*◌, ◌/◌, ◌%◌, ◌^◌, ◌<◌, pow-zero, pow-suc}
use Rattle.float.proofs.Words.{arith, length, get_or, replicate}
use Rattle.std.proofs.Math.Nat.{div-one, div-div-eq-div-mul}
use Rattle.std.specs.Int.{Width, to_le_bytes, bytes_low_first, byte_len}
use Rattle.wire.specs.Bytes.{word_of, bytes_of}

-- ---- back and forth

pub bytes_length : (w n : ℕ) → length (bytes_of w n) ≡ w
unfolding bytes_of
bytes_length zero n = refl
bytes_length (suc w) n = ap suc (bytes_length w (n / 256))

pub word_of_bytes : (w n : ℕ) → n < 256 ^ w → word_of (bytes_of w n) ≡ n
unfolding word_of bytes_of
word_of_bytes zero n h = let e : n ≡ 0 = omega (arith, rw (pow-zero 256) at h) in sym e
word_of_bytes (suc w) n h =
    let k : n < 256 ^ w * 256 = rw pow-suc at h in
    let e : word_of (bytes_of w (n / 256)) ≡ n / 256 = word_of_bytes w (n / 256) (omega arith) in
    rw e (omega arith)

pub bytes_of_word : (l : List ℕ) → ((i : ℕ) → get_or l i 0 < 256) → bytes_of (length l) (word_of l) ≡ l
unfolding word_of bytes_of
bytes_of_word [] h = refl
bytes_of_word (b ∷ l) h =
    let k : b < 256 = h 0 in
    let low : (b + 256 * word_of l) % 256 ≡ b = omega arith in
    let high : (b + 256 * word_of l) / 256 ≡ word_of l = omega arith in
    rw (low, high) (ap (λ (m : List ℕ). b ∷ m) (bytes_of_word l (λ (i : ℕ). h (suc i))))

pub word_below : (l : List ℕ) → ((i : ℕ) → get_or l i 0 < 256) → word_of l < 256 ^ length l
unfolding word_of
word_below [] h = rw pow-zero (omega arith)
word_below (b ∷ l) h = let k : b < 256 = h 0 in let m = word_below l (λ (i : ℕ). h (suc i)) in rw pow-suc (omega arith)

-- ---- the machine's bytes of a word, the lowest first

bytes_low : (i k n : ℕ) → bytes_low_first i k n ≡ bytes_of k (n / 256 ^ i)
unfolding bytes_of
bytes_low zero zero n = refl
bytes_low (suc i) zero n = refl
bytes_low zero (suc k) n = rw (pow-zero 256, div-one n) (ap (λ (l : List ℕ). n % 256 ∷ l) (bytes_low 1 k n))
bytes_low (suc i) (suc k) n =
    let e : n / 256 ^ suc i / 256 ≡ n / 256 ^ suc (suc i) = rw (pow-suc 256 (suc i)) (div-div-eq-div-mul n (256 ^ suc i) 256) in
    rw e (ap (λ (l : List ℕ). n / 256 ^ suc i % 256 ∷ l) (bytes_low (suc (suc i)) k n))

pub bytes_machine : (w : Width) (n : ℕ) → to_le_bytes w n ≡ bytes_of (byte_len w) n
bytes_machine w n = bytes_low 0 (byte_len w) n ∙ (rw (pow-zero 256, div-one n))

-- ---- zeros behind a word's bytes add nothing

pub word_padded : (x : List ℕ) (k : ℕ) → word_of (x ++ replicate k 0) ≡ word_of x
unfolding word_of
word_padded [] zero = refl
word_padded [] (suc k) = let e : word_of (replicate k 0) ≡ 0 = word_padded [] k in omega arith
word_padded (b ∷ x) k = ap (λ (n : ℕ). b + 256 * n) (word_padded x k)
