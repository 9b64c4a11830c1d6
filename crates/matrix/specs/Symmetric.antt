-- Symmetric matrices by their upper triangle. Definitions only.
use Rattle.std.specs.Prelude.{List, [], ◌∷◌, ℕ, Float}
use Rattle.matrix.specs.Places.{IsPacked}
use Rattle.matrix.specs.declared.shape.DenseMatrixSymN.{DenseMatrixSymN}

abbrev pub Sym2 : Type 0
Sym2 = DenseMatrixSymN 2 3

abbrev pub Sym3 : Type 0
Sym3 = DenseMatrixSymN 3 6

abbrev pub packed_with : {n s : ℕ} → IsPacked n s → List Float → DenseMatrixSymN n s
packed_with p xs = record { «data» = xs; packed = p }

abbrev pub sym2 : List Float → Sym2
sym2 xs = packed_with {n = 2} {s = 3} tt xs

abbrev pub sym3 : List Float → Sym3
sym3 xs = packed_with {n = 3} {s = 6} tt xs

-- the 3x3 of the numbers g r c, for r at most c
abbrev pub packed_of : (ℕ → ℕ → Float) → List Float
packed_of g = g 0 0 ∷ g 0 1 ∷ g 1 1 ∷ g 0 2 ∷ g 1 2 ∷ g 2 2 ∷ []
