-- A request in the scaled way and the same request in the old way. Definitions only.
use Rattle.std.specs.Prelude.{◌≡◌, true, List, ℕ, length, take, drop}
use Rattle.std.specs.Float.{Format}
use Rattle.std.specs.Float.Ieee.{le, lt}
use Rattle.float.specs.Constants.{one_f, two_f}
use Rattle.float.specs.Scaled.{largest_magnitude}
use Rattle.promises.specs.Scope.{request_length, used_nine, kind_in, way_in, numbers_in, scaled_in}

-- the largest magnitude among the numbers that the kind uses is from 1 up to, but not including, 2
pub record FromOneToTwo (f : Format) (s : List ℕ) : Type 0 where
  pub from_one : le (one_f f) (largest_magnitude f (numbers_in f 8 (used_nine (kind_in s)) s)) ≡ true
  pub to_two : lt (largest_magnitude f (numbers_in f 8 (used_nine (kind_in s)) s)) (two_f f) ≡ true

-- t is s with byte 5 set to 1
pub record InTheOldWay (f : Format) (s t : List ℕ) : Type 0 where
  pub scaled : scaled_in s ≡ true
  pub old : way_in t ≡ 1
  pub size : length s ≡ request_length f
  pub size' : length t ≡ request_length f
  pub head : take 5 t ≡ take 5 s
  pub rest : drop 6 t ≡ drop 6 s
