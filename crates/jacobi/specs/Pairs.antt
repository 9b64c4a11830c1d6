-- The three pairs of a 3x3, which of them is the largest, and what a rotation of one makes of two columns. Definitions only.
use Rattle.std.specs.Prelude.{List, ℕ, eqb, Float}
use Rattle.std.specs.Float.{Format}
use Rattle.std.specs.Float.Ieee.{add, sub, mul, lt}
use Rattle.float.specs.Choice.{pick}
use Rattle.matrix.specs.Square.{square_of, entry_of}
use Rattle.jacobi.specs.declared.pairs.Pair.{Pair}
use Rattle.jacobi.specs.declared.pairs.Pair.TheVariants.{P12, P13, P23}
use Rattle.jacobi.specs.declared.pairs.OffDiag.{OffDiag}

-- ---- a pair is two rows and columns p < q, and k is the third

abbrev pub index_p : Pair → ℕ
index_p P12 = 0
index_p P13 = 0
index_p P23 = 1

abbrev pub index_q : Pair → ℕ
index_q P12 = 1
index_q P13 = 2
index_q P23 = 2

abbrev pub index_k : Pair → ℕ
index_k P12 = 2
index_k P13 = 1
index_k P23 = 0

-- what an index is to a pair
pub data Place : Type 0 where
  at_p : Place
  at_q : Place
  at_k : Place

abbrev pub place_in : Pair → ℕ → Place
place_in x i = pick (eqb i (index_p x)) at_p (pick (eqb i (index_q x)) at_q at_k)

-- ---- the largest pair: the running maximum, which the next takes over only where it is strictly larger

abbrev pub larger_pair : OffDiag → OffDiag → OffDiag
larger_pair best next = pick (lt best.size next.size) next best

unfoldable pub largest_of : Float → Float → Float → OffDiag
largest_of x12 x13 x23 = larger_pair (larger_pair (record { pair = P12; size = x12 }) (record { pair = P13; size = x13 })) (record { pair = P23; size = x23 })

-- ---- two columns turn into each other, by the cosine c and the sine s alone

-- the number in a column at p, q or k, where its row has vp and vq in the pair's columns and v in its own
abbrev pub turned_entry : Format → Float → Float → Place → Float → Float → Float → Float
turned_entry f c s at_p vp vq v = sub f (mul f c vp) (mul f s vq)
turned_entry f c s at_q vp vq v = add f (mul f s vp) (mul f c vq)
turned_entry f c s at_k vp vq v = v

abbrev pub turned_of : Format → Pair → Float → Float → List Float → List Float
turned_of f x c s v =
    square_of 3 (λ (i j : ℕ). turned_entry f c s (place_in x j) (entry_of 3 v i (index_p x)) (entry_of 3 v i (index_q x)) (entry_of 3 v i j))
