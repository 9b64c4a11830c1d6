-- One pair of a square matrix: the polar rotation that makes it symmetric, and with it the two-sided rotation that makes it diagonal. Definitions only.
use Rattle.std.specs.Prelude.{Bool, Float}
use Rattle.std.specs.Float.{Format}
use Rattle.std.specs.Float.Ieee.{add, sub, mul, div, neg, lt, eq}
use Rattle.float.specs.Choice.{pick}
use Rattle.float.specs.Constants.{zero_f, one_f}
use Rattle.float.specs.Root.{root_of}
use Rattle.float.specs.Sign.{magnitude_of}
use Rattle.jacobi.specs.Rotation.{rotation_of}
use Rattle.jacobi.specs.Blind.{blind_of}
use Rattle.jacobi.specs.declared.rotation.Rotation.{Rotation}
use Rattle.svd.specs.declared.polar.Polar.{Polar}
use Rattle.svd.specs.declared.polar.TwoSided.{TwoSided}

-- ---- the root of the sum of two squares, by the larger and the smaller magnitude

abbrev pub hypot_by : Format → Float → Float → Float
hypot_by f large small = mul f large (root_of f (add f (one_f f) (mul f (div f small large) (div f small large))))

-- where the smaller is zero it is the larger, and +0 for two zeros
abbrev pub hypot_of_sizes : Format → Float → Float → Float
hypot_of_sizes f large small = pick (eq small (zero_f f)) (pick (eq large (zero_f f)) (zero_f f) large) (hypot_by f large small)

unfoldable pub hypot_of : Format → Float → Float → Float
hypot_of f x y =
    pick (lt (magnitude_of y) (magnitude_of x)) (hypot_of_sizes f (magnitude_of x) (magnitude_of y)) (hypot_of_sizes f (magnitude_of y) (magnitude_of x))

-- ---- the polar step on the pair app, aqp, apq, aqq: cosine and sine, and the symmetrised pair

abbrev pub symmetrised_by : Format → Float → Float → Float → Float → Float → Float → Polar
symmetrised_by f app aqp apq aqq c s = record {
  c = c;
  s = s;
  s11 = sub f (mul f app c) (mul f aqp s);
  s12 = sub f (mul f apq c) (mul f aqq s);
  s22 = add f (mul f aqq c) (mul f apq s);
}

-- x and y are the sum of the diagonal and the difference beside it, d their hypot; a pair with d = 0 stays as it is
unfoldable pub polar_by : Format → Float → Float → Float → Float → Float → Float → Float → Polar
polar_by f app aqp apq aqq x y d =
    pick (eq d (zero_f f)) (symmetrised_by f app aqp apq aqq (one_f f) (zero_f f))
    (symmetrised_by f app aqp apq aqq (div f x d) (div f (neg y) d))

unfoldable pub polar_of : Format → Float → Float → Float → Float → Polar
polar_of f app aqp apq aqq = polar_by f app aqp apq aqq (add f app aqq) (sub f aqp apq) (hypot_of f (add f app aqq) (sub f aqp apq))

-- ---- the two-sided rotation: left and right turn, the two diagonal numbers, and the symmetrised pair it came from

-- the left turn is the polar and the Jacobi rotation, one after the other
abbrev pub composed : Format → Polar → Rotation → TwoSided
composed f p j = record {
  cl = sub f (mul f p.c j.c) (mul f p.s j.s);
  sl = add f (mul f p.c j.s) (mul f p.s j.c);
  cr = j.c;
  sr = j.s;
  d1 = sub f p.s11 (mul f j.t p.s12);
  d2 = add f p.s22 (mul f j.t p.s12);
  s11 = p.s11;
  s12 = p.s12;
  s22 = p.s22;
}

unfoldable pub two_sided_of : Format → Float → Float → Float → Float → TwoSided
unfolding polar_of
two_sided_of f app aqp apq aqq =
    let p = polar_of f app aqp apq aqq in
    composed f p (rotation_of f p.s12 p.s11 p.s22)

-- whether the rotation of its symmetrised pair is blind
abbrev pub blind_sides : Format → TwoSided → Bool
blind_sides f r = blind_of f r.s12 r.s11 r.s22
