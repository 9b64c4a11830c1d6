-- The numbers of an array are values of the format: who owns the array owns each of them, and a number of the code that is owned fits its format.
use Rattle.float.proofs.Words.{List, [], ◌∷◌, ℕ, zero, suc, T, get_or, Float, nan, Format, fits}
use mir.Val.{Val}
use lib.Ieee.Fits.{nan-fits}
use denote.Array.{Array, each}
use denote.Floats.{FloatOf, passes}
use denote.Laws.{Is}
use denote.Shadow.{shadow}

each_fits : (f : Format) (xs : List Float) (vs : List Val) → shadow (each Float (FloatOf f).own_val xs vs) → (i : ℕ) → T (fits f (get_or xs i nan))
each_fits f [] vs h i = nan-fits f
each_fits f (x ∷ xs) [] h i = absurd h
each_fits f (x ∷ xs) (v ∷ vs) h zero = passes _ h.0.1
each_fits f (x ∷ xs) (v ∷ vs) h (suc i) = each_fits f xs vs h.1 i

pub array_fits : (f : Format) (n : ℕ) (xs : List Float) (vs : List Val) → Is (Array (FloatOf f) n) xs vs → (i : ℕ) → T (fits f (get_or xs i nan))
array_fits f n xs vs h = each_fits f xs h.0 h.1.1
