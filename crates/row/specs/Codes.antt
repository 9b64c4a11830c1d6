-- When the row call refuses, by the lengths alone: the rows of its codes. Definitions only.
use Rattle.std.specs.Prelude.{◌≡◌, List, [], ◌∷◌, ℕ, ◌*◌, ◌<◌, length}
use Rattle.std.specs.Float.{Format}
use Rattle.matrix.specs.Rows.{Row, on}
use Rattle.row.specs.Bytes.{mat_size, svd_size}

-- n matrices and m answers: not equally many, then more than 64. The number is written out, so that `most_places` is held to it.
abbrev pub length_rows : ℕ → ℕ → List Row
length_rows n m = on 10 (n ≡ m → ⊥) ∷ on 11 (64 < n) ∷ []

-- so many bytes of matrices and of answers are n whole places of each
abbrev pub Places : Format → ℕ → ℕ → ℕ → Type 0
Places f mats answers n = (mats ≡ mat_size f * n) × (answers ≡ svd_size f * n)

-- the same of bytes: not equally many whole places, then too many
abbrev pub bytes_rows : Format → List ℕ → List ℕ → List Row
bytes_rows f mats answers = on 10 ((n : ℕ) → Places f (length mats) (length answers) n → ⊥) ∷ on 11 (64 * mat_size f < length mats) ∷ []
