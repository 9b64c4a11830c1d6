-- Words and numbers in bytes, the lowest first, over the width in bytes. Definitions only.
use Rattle.std.specs.Prelude.{Bool, true, ◌&&◌, List, [], ◌∷◌, ◌++◌, ℕ, zero, suc, ◌+◌, ◌-◌, ◌*◌, ◌/◌, ◌%◌, eqb, leb, length, take, drop, Float}
use Rattle.std.specs.Float.{Format, binary32, binary64}
use Rattle.std.specs.Float.Ieee.{of_bits, to_bits}
use Rattle.float.specs.Choice.{pick}
use Rattle.matrix.specs.Places.{tabulate}

-- the bytes of a number
abbrev pub number_bytes : Format → ℕ
number_bytes binary32 = 4
number_bytes binary64 = 8

-- the place of number i after byte a
abbrev pub place_of : Format → ℕ → ℕ → ℕ
place_of f a i = a + number_bytes f * i

-- the word that bytes stand for
unfoldable pub word_of : List ℕ → ℕ
word_of [] = 0
word_of (b ∷ bs) = b + 256 * word_of bs

-- a word as w bytes
unfoldable pub bytes_of : ℕ → ℕ → List ℕ
bytes_of zero n = []
bytes_of (suc w) n = n % 256 ∷ bytes_of w (n / 256)

-- the bytes from a on, w of them, or as many as there are
abbrev pub part : ℕ → ℕ → List ℕ → List ℕ
part a w s = take w (drop a s)

-- the number that stands at byte a; bytes behind the last one count as zeros
abbrev pub number_at : Format → ℕ → List ℕ → Float
number_at f a s = of_bits f (word_of (part a (number_bytes f) s))

-- n numbers from byte a on
abbrev pub numbers_from : Format → ℕ → ℕ → List ℕ → List Float
numbers_from f n a s = tabulate n (λ (i : ℕ). number_at f (place_of f a i) s)

unfoldable pub number_bytes_of : Format → List Float → List ℕ
unfolding bytes_of
number_bytes_of f [] = []
number_bytes_of f (x ∷ xs) = bytes_of (number_bytes f) (to_bits f x) ++ number_bytes_of f xs

-- s with these bytes in the place of its own from a on, where it has room for all of them; else s as it is
unfoldable pub placed_of : ℕ → List ℕ → List ℕ → List ℕ
placed_of a bytes s = pick (leb (a + length bytes) (length s)) (take a s ++ bytes ++ drop (a + length bytes) s) s

unfoldable pub all_zero : List ℕ → Bool
all_zero [] = true
all_zero (b ∷ bs) = eqb b 0 && all_zero bs

-- all bytes from a up to e are zero; those behind the last one do not count
abbrev pub zero_from : ℕ → ℕ → List ℕ → Bool
zero_from a e s = all_zero (part a (e - a) s)
