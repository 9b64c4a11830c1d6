-- The rotation that takes the number apq beside the diagonal away, from it and the two diagonal numbers app and aqq. Definitions only.
use Rattle.std.specs.Prelude.{Bool, Float}
use Rattle.std.specs.Float.{Format}
use Rattle.std.specs.Float.Ieee.{add, sub, mul, div, lt, eq}
use Rattle.float.specs.Choice.{pick}
use Rattle.float.specs.Constants.{zero_f, one_f, two_f, half_f, epsilon_f, half_root_f}
use Rattle.float.specs.Root.{root_of}
use Rattle.float.specs.Sign.{magnitude_of, signum_of, finite}
use Rattle.jacobi.specs.declared.rotation.Rotation.{Rotation}

-- ---- the tests

abbrev pub larger_of : Float → Float → Float
larger_of a b = pick (lt b a) a b

-- the larger diagonal magnitude
abbrev pub diagonal_of : Float → Float → Float
diagonal_of app aqq = larger_of (magnitude_of app) (magnitude_of aqq)

-- nothing to take away
abbrev pub is_gone : Format → Float → Bool
is_gone f apq = eq apq (zero_f f)

abbrev pub tiny_diagonal : Format → Float → Float → Bool
tiny_diagonal f app aqq = lt (diagonal_of app aqq) (epsilon_f f)

abbrev pub level_diagonal : Format → Float → Float → Bool
level_diagonal f app aqq = lt (magnitude_of (sub f aqq app)) (mul f (epsilon_f f) (diagonal_of app aqq))

-- ---- the tangent

abbrev pub theta_of : Format → Float → Float → Float → Float
theta_of f apq app aqq = div f (sub f aqq app) (mul f apq (two_f f))

-- by theta; where its square overflows or is no number the crate halves its inverse
unfoldable pub tangent_of : Format → Float → Float
tangent_of f theta =
    pick (finite (mul f theta theta))
    (div f (signum_of theta) (add f (magnitude_of theta) (root_of f (add f (one_f f) (mul f theta theta)))))
    (div f (half_f f) theta)

abbrev pub cosine_of : Format → Float → Float
cosine_of f t = div f (one_f f) (root_of f (add f (one_f f) (mul f t t)))

-- ---- the three rotations, and the choice

abbrev pub no_turn : Format → Rotation
no_turn f = record { c = one_f f; s = zero_f f; t = zero_f f }

-- 45 degrees
abbrev pub even_turn : Format → Rotation
even_turn f = record { c = half_root_f f; s = half_root_f f; t = one_f f }

abbrev pub turn_by : Format → Float → Rotation
turn_by f t = record { c = cosine_of f t; s = mul f t (cosine_of f t); t = t }

unfoldable pub rotation_of : Format → Float → Float → Float → Rotation
unfolding tangent_of
rotation_of f apq app aqq =
    pick (is_gone f apq) (no_turn f)
    (pick (tiny_diagonal f app aqq) (even_turn f)
    (pick (level_diagonal f app aqq) (even_turn f)
    (turn_by f (tangent_of f (theta_of f apq app aqq)))))
