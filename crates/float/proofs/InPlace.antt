-- Numbers scaled in their places. A loop puts g of each number of a list in its place: before the i-th pass the first i places are done, and the
-- others are as they were.
use Rattle.float.proofs.Words.{◌≡◌, refl, ◌∙◌, ℕ, zero, suc, ◌+◌, ◌≤◌, ◌<◌, arith, length, get_or, List, [], ◌∷◌, Float, nan, Format, ℤ}
use Rattle.float.specs.Scaled.{times_limited, times_from, times_each, nine_times}

pub record InPlace (g : Float → Float) (n i : ℕ) (from to : List Float) : Type 0 where
  pub long : length to ≡ n
  pub done : (k : ℕ) → k < i → get_or to k nan ≡ g (get_or from k nan)
  pub rest : (k : ℕ) → i ≤ k → get_or to k nan ≡ get_or from k nan

-- the list is that of the products, from place i on
from_place : (f : Format) (k : ℤ) (i n : ℕ) (from to : List Float) → length to ≡ n
    → ((j m : ℕ) → j < n → m ≡ i + j → get_or to j nan ≡ times_limited f (get_or from m nan) k) → to ≡ times_from f k i n from
from_place f k i zero from [] e h = refl
from_place f k i zero from (y ∷ ys) e h = absurd (omega arith)
from_place f k i (suc n) from [] e h = absurd (omega arith)
from_place f k i (suc n) from (y ∷ ys) e h =
    let first : y ≡ times_limited f (get_or from i nan) k = h 0 i (omega arith) (omega arith) in
    let others : ys ≡ times_from f k (suc i) n from =
    from_place f k (suc i) n from ys (omega arith) (λ j m l p. h (suc j) m (omega arith) (omega arith)) in
    cc

pub all_places : (f : Format) (k : ℤ) (g : Float → Float) (n i : ℕ) (from to : List Float) → ((x : Float) → g x ≡ times_limited f x k) → n ≤ i
    → InPlace g n i from to → to ≡ times_each f n from k
all_places f k g n i from to same h s =
    from_place f k 0 n from to s.long (λ j m l e. let p : m ≡ j = omega arith in rw p (s.done j (omega arith) ∙ same (get_or from j nan)))

-- nine numbers are scaled to nine
pub nine_each : (f : Format) (xs : List Float) (k : ℤ) → times_each f 9 xs k ≡ nine_times f xs k
nine_each f xs k = refl
