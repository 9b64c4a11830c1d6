-- What a rotation of one pair makes of a symmetric 3x3, and which pair is rotated. Definitions only.
use Rattle.std.specs.Prelude.{Bool, List, [], ◌∷◌, ℕ, Float}
use Rattle.std.specs.Float.{Format}
use Rattle.std.specs.Float.Ieee.{add, sub, mul, div}
use Rattle.float.specs.Width.{F}
use Rattle.float.specs.Constants.{zero_f, one_f}
use Rattle.float.specs.Sign.{magnitude_of}
use Rattle.matrix.specs.Places.{at, packed_index}
use Rattle.matrix.specs.Square.{Mat3, mat3}
use Rattle.matrix.specs.Symmetric.{sym3, packed_of}
use Rattle.jacobi.specs.Rotation.{rotation_of}
use Rattle.jacobi.specs.Blind.{blind_of}
use Rattle.jacobi.specs.Pairs.{Place, at_p, at_q, at_k, place_in, index_p, index_q, index_k, largest_of, turned_of}
use Rattle.jacobi.specs.declared.rotation.Elements.{Elements}
use Rattle.jacobi.specs.declared.rotation.Rotation.{Rotation}
use Rattle.jacobi.specs.declared.pairs.Pair.{Pair}
use Rattle.jacobi.specs.declared.pairs.Pair.TheVariants.{P12, P13, P23}
use Rattle.jacobi.specs.declared.pairs.OffDiag.{OffDiag}
use Rattle.eigen.specs.declared.pairs.Turned.{Turned}

-- the number at (i, j) of the packed matrix
abbrev pub entry : List Float → ℕ → ℕ → Float
entry a i j = at a (packed_index i j)

-- of a pair p < q: the number beside the diagonal, and the two on it
abbrev pub apq : Pair → List Float → Float
apq x a = entry a (index_p x) (index_q x)

abbrev pub app : Pair → List Float → Float
app x a = entry a (index_p x) (index_p x)

abbrev pub aqq : Pair → List Float → Float
aqq x a = entry a (index_q x) (index_q x)

abbrev pub elements_of : Pair → List Float → Elements
elements_of x a = record { apq = apq x a; app = app x a; aqq = aqq x a }

-- the packed matrix with the rows and columns of the pair first
abbrev pub pair_first_of : Pair → List Float → List Float
pair_first_of x a =
    app x a ∷ apq x a ∷ aqq x a ∷ entry a (index_p x) (index_k x) ∷ entry a (index_q x) (index_k x) ∷ entry a (index_k x) (index_k x) ∷ []

-- ---- the largest pair by the magnitude of its number beside the diagonal

abbrev pub off_diag_of : List Float → OffDiag
off_diag_of a = largest_of (magnitude_of (apq P12 a)) (magnitude_of (apq P13 a)) (magnitude_of (apq P23 a))

abbrev pub pair_of : List Float → Pair
pair_of a = (off_diag_of a).pair

-- ---- the rotation of a pair, and of the largest one

abbrev pub turn_of : Format → Pair → List Float → Rotation
turn_of f x a = rotation_of f (apq x a) (app x a) (aqq x a)

abbrev pub chosen_of : Format → List Float → Rotation
chosen_of f a = turn_of f (pair_of a) a

-- whether it is blind
abbrev pub blind_pair : Format → Pair → List Float → Bool
blind_pair f x a = blind_of f (apq x a) (app x a) (aqq x a)

unfoldable pub blind_at : Format → List Float → Bool
blind_at f a = blind_pair f (pair_of a) a

-- ---- the matrix after a rotation of the pair

abbrev pub tau_of : Format → Rotation → Float
tau_of f r = div f r.s (add f r.c (one_f f))

-- what becomes of the two numbers that the third row has beside the diagonal, x at p and y at q
abbrev pub first_mixed : Format → Rotation → Float → Float → Float
first_mixed f r x y = sub f x (mul f r.s (add f y (mul f (tau_of f r) x)))

abbrev pub second_mixed : Format → Rotation → Float → Float → Float
second_mixed f r x y = add f y (mul f r.s (sub f x (mul f (tau_of f r) y)))

module _ (f : Format) (x : Pair) (r : Rotation) (a : List Float) where
  abbrev mixed_p : Float
  mixed_p = first_mixed f r (entry a (index_p x) (index_k x)) (entry a (index_q x) (index_k x))

  abbrev mixed_q : Float
  mixed_q = second_mixed f r (entry a (index_p x) (index_k x)) (entry a (index_q x) (index_k x))

  -- the number in a row and a column, each at p, q or k
  abbrev applied_entry : Place → Place → Float
  applied_entry at_p at_p = sub f (app x a) (mul f r.t (apq x a))
  applied_entry at_q at_q = add f (aqq x a) (mul f r.t (apq x a))
  applied_entry at_p at_q = zero_f f
  applied_entry at_q at_p = zero_f f
  applied_entry at_p at_k = mixed_p
  applied_entry at_k at_p = mixed_p
  applied_entry at_q at_k = mixed_q
  applied_entry at_k at_q = mixed_q
  applied_entry at_k at_k = entry a (index_k x) (index_k x)

  abbrev pub applied_of : List Float
  applied_of = packed_of (λ (i j : ℕ). applied_entry (place_in x i) (place_in x j))

-- the matrix after its rotation, the rotation itself, and whether it is blind
abbrev pub turned_pair : Format → Pair → List Float → Turned
turned_pair f x a = record { a = sym3 (applied_of f x (turn_of f x a) a); r = turn_of f x a; blind = blind_pair f x a }

-- ---- what a rotation makes of what is carried along: of the vectors, and of nothing

abbrev pub with_vectors : Pair → Rotation → Mat3 → Mat3
with_vectors x r v = mat3 (turned_of F x r.c r.s v.«data»)

abbrev pub with_nothing : Pair → Rotation → Unit {0} → Unit {0}
with_nothing x r v = v
