-- A list that has a count for each cell is known by the count of each: what holds of the cells one by one holds of the list, by going down it.
use Rattle.float.proofs.Words.{◌≡◌, refl, ap, Bool, true, false, ◌&&◌, ◌||◌, List, [], ◌∷◌, ◌++◌, map, ℕ, zero, suc, ◌+◌, ◌<◌, arith, eqb}
use Rattle.float.proofs.Words.{length, get_or, false≢true, eqb-true, eq-eqb}
use mathlib.Core.Bool.{or-true}
use Rattle.float.proofs.Choice.{by_either, either}
use Rattle.float.proofs.Finite.{both_true}
use Rattle.counts.specs.Known.{among}
use Rattle.counts.specs.Cells.{up_to}
use Rattle.counts.specs.Tally.{plus_of}

-- ---- tests

-- all of a list pass
abbrev pub every : {A : Type 0} → (A → Bool) → List A → Bool
every t [] = true
every t (a ∷ as') = t a && every t as'

-- one that is among them passes
pub passes : (t : ℕ → Bool) (n : ℕ) (ns : List ℕ) → every t ns ≡ true → among n ns ≡ true → t n ≡ true
passes t n [] e h = absurd (false≢true h)
passes t n (m ∷ ms) e h =
    let b = both_true (t m) (every t ms) e in
    by_either (eqb n m) (among n ms) h (λ q. rw (eqb-true n m q) b.0) (passes t n ms b.1)

-- ---- numbers up to one

among-append : (n : ℕ) (xs ys : List ℕ) → among n (xs ++ ys) ≡ (among n xs || among n ys)
among-append n [] ys = refl
among-append n (x ∷ xs) ys = by (eqb n x) (among-append n xs ys)
  where
    by : (t : Bool) → among n (xs ++ ys) ≡ (among n xs || among n ys) → (t || among n (xs ++ ys)) ≡ ((t || among n xs) || among n ys)
    by true e = refl
    by false e = e

pub up_to_lem : (n i : ℕ) → i < n → among i (up_to n) ≡ true
up_to_lem zero i h = absurd (omega arith)
up_to_lem (suc n) i h =
    either i n (λ l. rw (among-append i (up_to n) (n ∷ []), up_to_lem n i l))
    (λ l. rw (among-append i (up_to n) (n ∷ []), eq-eqb i n (omega arith)) (or-true (among i (up_to n))))

-- ---- the list of what a function gives

module _ {A : Type 0} where
  pub map_same : (t : A → Bool) (g h : A → ℕ) (l : List A) → every t l ≡ true → ((a : A) → t a ≡ true → g a ≡ h a) → map g l ≡ map h l
  map_same t g h [] e same = refl
  map_same t g h (a ∷ l) e same =
      let b = both_true (t a) (every t l) e in
      (rw (same a b.0, map_same t g h l b.1 same))

  pub map_each : (g h : A → ℕ) (l : List A) → ((a : A) → g a ≡ h a) → map g l ≡ map h l
  map_each g h [] same = refl
  map_each g h (a ∷ l) same = rw (same a, map_each g h l same)

  pub get_d_mapped : (g : A → ℕ) (l : List A) (d : A) (x : List ℕ) (i : ℕ) → i < length l → get_or (map g l ++ x) i 0 ≡ g (get_or l i d)
  get_d_mapped g [] d x i h = absurd (omega arith)
  get_d_mapped g (a ∷ l) d x zero h = refl
  get_d_mapped g (a ∷ l) d x (suc i) h = get_d_mapped g l d x i (omega arith)

  -- the sum of two, with a count behind each
  pub plus_mapped : (g h : A → ℕ) (l : List A) (x y : ℕ)
      → plus_of (map g l ++ (x ∷ [])) (map h l ++ (y ∷ [])) ≡ map (λ (a : A). g a + h a) l ++ ((x + y) ∷ [])
  unfolding plus_of
  plus_mapped g h [] x y = refl
  plus_mapped g h (a ∷ l) x y = ap (λ (r : List ℕ). (g a + h a) ∷ r) (plus_mapped g h l x y)
