-- A checked rotation of a matrix in its place: the code, and the numbers that stand there afterwards. Definitions only.
use Rattle.std.specs.Prelude.{◌≡◌, List, [], ◌∷◌, ℕ, Float}
use Rattle.std.specs.Float.{Format}
use Rattle.float.specs.Choice.{pick}
use Rattle.float.specs.Sign.{all_finite}
use Rattle.matrix.specs.Answer.{Answer, done, refused}
use Rattle.matrix.specs.Symmetric.{Sym3, sym3}
use Rattle.jacobi.specs.declared.rotation.Rotation.{Rotation}
use Rattle.eigen.specs.Pairs.{applied_of}
use Rattle.jacobi.specs.declared.pairs.Pair.{Pair}

-- the old numbers a stay where one of the new is not finite
abbrev pub replaced_by : List Float → List Float → Answer (List Float)
replaced_by new a = pick (all_finite new) (done new) (refused 7 a)

-- 5 where a number of the matrix, or c, s or t, is not finite
unfoldable pub rotated_of : Format → Pair → Rotation → List Float → Answer (List Float)
rotated_of f p r a =
    pick (all_finite a)
    (pick (all_finite (r.c ∷ r.s ∷ r.t ∷ []))
    (replaced_by (applied_of f p r a) a)
    (refused 5 a)) (refused 5 a)

-- what a call on a lent matrix promises: the code, and the matrix at exit
abbrev pub Left : Answer (List Float) → ℕ → Sym3 → Type 0
Left w code left = (code ≡ w.code) × (left ≡ sym3 w.value)
