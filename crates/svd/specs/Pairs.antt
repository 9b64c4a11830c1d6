-- What a two-sided rotation of one pair makes of a square 3x3, and which pair is rotated. Definitions only.
use Rattle.std.specs.Prelude.{Bool, List, ℕ, Float}
use Rattle.std.specs.Float.{Format}
use Rattle.std.specs.Float.Ieee.{add, sub, mul}
use Rattle.float.specs.Constants.{zero_f}
use Rattle.float.specs.Sign.{magnitude_of}
use Rattle.matrix.specs.Square.{square_of, entry_of}
use Rattle.jacobi.specs.Pairs.{Place, at_p, at_q, at_k, place_in, index_p, index_q, index_k, largest_of}
use Rattle.jacobi.specs.declared.pairs.Pair.{Pair}
use Rattle.jacobi.specs.declared.pairs.Pair.TheVariants.{P12, P13, P23}
use Rattle.jacobi.specs.declared.pairs.OffDiag.{OffDiag}
use Rattle.svd.specs.Polar.{two_sided_of, blind_sides}
use Rattle.svd.specs.declared.polar.Elements.{Elements}
use Rattle.svd.specs.declared.polar.TwoSided.{TwoSided}

-- the number at (i, j)
abbrev pub entry : List Float → ℕ → ℕ → Float
entry a i j = entry_of 3 a i j

-- of a pair p < q: the two numbers on the diagonal, and the two beside it
abbrev pub elements_of : Pair → List Float → Elements
elements_of x a = record {
  app = entry a (index_p x) (index_p x);
  aqp = entry a (index_q x) (index_p x);
  apq = entry a (index_p x) (index_q x);
  aqq = entry a (index_q x) (index_q x);
}

-- ---- the largest pair by the sum of its two magnitudes beside the diagonal

abbrev pub size_of : Format → Pair → List Float → Float
size_of f x a = add f (magnitude_of (entry a (index_p x) (index_q x))) (magnitude_of (entry a (index_q x) (index_p x)))

abbrev pub off_diag_of : Format → List Float → OffDiag
off_diag_of f a = largest_of (size_of f P12 a) (size_of f P13 a) (size_of f P23 a)

abbrev pub pair_of : Format → List Float → Pair
pair_of f a = (off_diag_of f a).pair

-- ---- the rotation of a pair, and of the largest one

unfoldable pub sides_of : Format → Pair → List Float → TwoSided
sides_of f x a = let n = elements_of x a in two_sided_of f n.app n.aqp n.apq n.aqq

abbrev pub chosen_of : Format → List Float → TwoSided
chosen_of f a = sides_of f (pair_of f a) a

-- whether it is blind
unfoldable pub blind_at : Format → List Float → Bool
blind_at f a = blind_sides f (chosen_of f a)

-- ---- the matrix after it: what lies in the pair's rows turns by the left rotation, what lies in its columns by the right one

abbrev pub less_of : Format → Float → Float → Float → Float → Float
less_of f c s x y = sub f (mul f x c) (mul f y s)

abbrev pub more_of : Format → Float → Float → Float → Float → Float
more_of f c s x y = add f (mul f y c) (mul f x s)

module _ (f : Format) (x : Pair) (r : TwoSided) (a : List Float) where
  -- the number in a row and a column, each at p, q or k
  abbrev applied_entry : Place → Place → Float
  applied_entry at_p at_p = r.d1
  applied_entry at_q at_q = r.d2
  applied_entry at_p at_q = zero_f f
  applied_entry at_q at_p = zero_f f
  applied_entry at_p at_k = less_of f r.cl r.sl (entry a (index_p x) (index_k x)) (entry a (index_q x) (index_k x))
  applied_entry at_q at_k = more_of f r.cl r.sl (entry a (index_p x) (index_k x)) (entry a (index_q x) (index_k x))
  applied_entry at_k at_p = less_of f r.cr r.sr (entry a (index_k x) (index_p x)) (entry a (index_k x) (index_q x))
  applied_entry at_k at_q = more_of f r.cr r.sr (entry a (index_k x) (index_p x)) (entry a (index_k x) (index_q x))
  applied_entry at_k at_k = entry a (index_k x) (index_k x)

  abbrev pub applied_of : List Float
  applied_of = square_of 3 (λ (i j : ℕ). applied_entry (place_in x i) (place_in x j))
