-- Reversed wiring at the record: a request, the one with the signs of its six numbers flipped, and what their answers have to do with each other.
-- Definitions only.
use Rattle.std.specs.Prelude.{◌≡◌, List, [], ◌∷◌, ◌++◌, ◌⊎◌, ℕ, zero, suc, ◌+◌, ◌-◌, ◌*◌, ◌%◌, ◌<◌, get_or, take, drop}
use Rattle.std.specs.Float.{Format}
use Rattle.eigen.specs.Reversed.{AllDiffer, ValuesExchanged, ColumnsExchanged}
use Rattle.wire.specs.Bytes.{number_bytes, place_of, part}
use Rattle.record.specs.Layout.{nine_at, code_at, count_at, mark_at, left_at}
use Rattle.record.specs.Request.{kind_of, judged_of}
use Rattle.record.specs.Answer.{answered_of}

-- ---- signs flipped

-- the highest bit of a byte flipped
abbrev pub flipped_byte : ℕ → ℕ
flipped_byte b = (b + 128) % 256

-- the sign of a number is the highest bit of its last byte
abbrev pub flipped_number : Format → List ℕ → List ℕ
flipped_number f x = take (number_bytes f - 1) x ++ (flipped_byte (get_or x (number_bytes f - 1) 0) ∷ [])

-- the first n numbers flipped
unfoldable pub flipped_numbers : Format → ℕ → List ℕ → List ℕ
flipped_numbers f zero s = s
flipped_numbers f (suc n) s = flipped_number f (take (number_bytes f) s) ++ flipped_numbers f n (drop (number_bytes f) s)

-- a request with the first n of its numbers flipped
abbrev pub flipped_first : Format → ℕ → List ℕ → List ℕ
flipped_first f n s = take nine_at s ++ flipped_numbers f n (drop nine_at s)

-- all six of kind 2
abbrev pub flipped : Format → List ℕ → List ℕ
flipped f s = flipped_first f 6 s

-- what lies in a slice of bytes
abbrev pub Bytes : List ℕ → Type 0
Bytes s = (i : ℕ) → get_or s i 0 < 256

-- ---- the answers to two requests

-- byte k of both is the same
abbrev pub SameByte : Format → ℕ → List ℕ → List ℕ → Type 0
SameByte f k s t = get_or (answered_of f s) k 0 ≡ get_or (answered_of f t) k 0

-- the bytes of column c of the nine numbers left
abbrev pub column_bytes : Format → ℕ → List ℕ → List ℕ
column_bytes f c s = part (place_of f (left_at f) (3 * c)) (number_bytes f * 3) (answered_of f s)

-- the bytes of the columns of one are those of the other in the opposite order: of doubles 32..56 of one are 80..104 of the other
abbrev pub BytesExchanged : Format → List ℕ → List ℕ → Type 0
BytesExchanged f s t = (column_bytes f 0 s ≡ column_bytes f 2 t) × (column_bytes f 1 s ≡ column_bytes f 1 t) × (column_bytes f 2 s ≡ column_bytes f 0 t)

-- Code, count and mark are the same. With code 0 the values are exchanged and negated; and if no two of them are equal, the columns are exchanged,
-- byte for byte.
pub record ReversedRecords (f : Format) (s t : List ℕ) : Type 0 where
  pub codes : SameByte f code_at s t
  pub counts : SameByte f count_at s t
  pub marks : SameByte f mark_at s t
  pub values : (judged_of f s).code ≡ 0 → ValuesExchanged (judged_of f s).values (judged_of f t).values
  pub columns : (judged_of f s).code ≡ 0 → AllDiffer (judged_of f s).values → ColumnsExchanged (judged_of f s).left (judged_of f t).left
  pub bytes : (judged_of f s).code ≡ 0 → AllDiffer (judged_of f s).values → BytesExchanged f s t

-- ---- a request of kind 1 or 3, whose 2x2 matrix has three numbers or four

-- t is s with these numbers flipped
abbrev pub PairFlipped : Format → List ℕ → List ℕ → Type 0
PairFlipped f s t = ((kind_of s ≡ 1) × (t ≡ flipped_first f 3 s)) ⊎ ((kind_of s ≡ 3) × (t ≡ flipped_first f 4 s))

-- code and mark are the same
pub record ReversedMarks (f : Format) (s t : List ℕ) : Type 0 where
  pub codes : SameByte f code_at s t
  pub marks : SameByte f mark_at s t
