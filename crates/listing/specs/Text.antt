-- Text as bytes: words, whole numbers in decimal, and lines of fields. Definitions only.
use Rattle.std.specs.Prelude.{List, [], ◌∷◌, ◌++◌, map, ℕ, zero, suc, ◌+◌, ◌-◌, ◌*◌, ◌/◌, ◌%◌, ltb}
use Prim.Native.Char.{code}
use Prim.Native.String.{String, [] as none, ◌∷◌ as ◌then◌}
use Rattle.float.specs.Choice.{pick}

-- a word, in ASCII
abbrev pub word_bytes : String → List ℕ
word_bytes none = []
word_bytes (c then s) = code c ∷ word_bytes s

-- ---- a whole number in decimal

-- a count of 64 bits has no more digits
abbrev pub most_digits : ℕ
most_digits = 20

-- the last k digits, the highest first, without zeros in front
unfoldable pub decimal_in : ℕ → ℕ → List ℕ
decimal_in zero n = []
decimal_in (suc k) n = pick (ltb n 10) ((48 + n) ∷ []) (decimal_in k (n / 10) ++ ((48 + n % 10) ∷ []))

abbrev pub decimal_of : ℕ → List ℕ
decimal_of n = decimal_in most_digits n

-- the number that digits stand for, behind those that stand for m
unfoldable pub read_behind : ℕ → List ℕ → ℕ
read_behind m [] = m
read_behind m (d ∷ ds) = read_behind (10 * m + (d - 48)) ds

-- ---- lines

-- each field behind a tab
unfoldable pub fields_of : List (List ℕ) → List ℕ
fields_of [] = []
fields_of (x ∷ xs) = 9 ∷ (x ++ fields_of xs)

-- a name, its fields, and the end of the line
abbrev pub line_of : List ℕ → List (List ℕ) → List ℕ
line_of name fields = name ++ (fields_of fields ++ (10 ∷ []))

unfoldable pub counts_line : List ℕ → List ℕ → List ℕ
counts_line name counts = line_of name (map decimal_of counts)

unfoldable pub lines_of : List (List ℕ) → List ℕ
lines_of [] = []
lines_of (l ∷ ls) = l ++ lines_of ls
