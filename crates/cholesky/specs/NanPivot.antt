-- When a pivot of finite numbers is NaN: the third of the 3x3 alone, where L21 is a zero and L31 is infinite, so that their product is NaN. Definitions only.
use Rattle.std.specs.Prelude.{◌≡◌, true, List, [], ◌∷◌, Float}
use Rattle.std.specs.Float.{nan, Format}
use Rattle.std.specs.Float.Ieee.{eq, lt}
use Rattle.float.specs.Constants.{zero_f}
use Rattle.float.specs.Sign.{infinite}
use Rattle.matrix.specs.Places.{at}
use Rattle.cholesky.specs.Pivots.{l11_of, l21_of, second_of, l22_of, l31_of}

-- ---- a third pivot that is NaN

pub record NanThird (f : Format) (a : List Float) : Type 0 where
  -- both pivots before it are above zero
  pub first : lt (zero_f f) (at a 0) ≡ true
  pub second : lt (zero_f f) (second_of f a) ≡ true
  pub zero : eq (l21_of f a) (zero_f f) ≡ true
  pub infinite : infinite (l31_of f a) ≡ true

-- what the factor then is: NaN stands for L32, and the last number is that of the old factor l
abbrev pub before_third : Format → List Float → List Float → List Float
before_third f l a = l11_of f a ∷ l21_of f a ∷ l22_of f a ∷ l31_of f a ∷ nan ∷ at l 5 ∷ []
