-- A list of n numbers is the table of what stands at its places: by induction on n.
use Rattle.float.proofs.Words.{[], ◌≡◌, refl, sym, ap, ◌∙◌, true, List, ◌∷◌, ◌++◌, ℕ, zero, suc, ◌≤◌, ◌<◌, zero-add, le_of_suc-le-suc, arith, length, take}
use Rattle.float.proofs.Words.{map}
use Rattle.float.proofs.Words.{drop, take_all, sets, sets-eq, Float, Format, neg}
use Rattle.float.specs.Sign.{finite, all_finite}
use Rattle.float.proofs.Finite.{finite-neg, zero-finite}
use Rattle.float.proofs.Zeros.{zero_fits}
use Rattle.matrix.specs.Places.{zeros, at, tabulate, negated_of, Fit}

pub length-tabulate : (n : ℕ) (g : ℕ → Float) → length (tabulate n g) ≡ n
length-tabulate zero g = refl
length-tabulate (suc n) g = ap suc (length-tabulate n (λ (i : ℕ). g (suc i)))

pub at-tabulate : (n : ℕ) (g : ℕ → Float) (i : ℕ) → i < n → at (tabulate n g) i ≡ g i
at-tabulate zero g i h = absurd (omega arith)
at-tabulate (suc n) g zero h = refl
at-tabulate (suc n) g (suc i) h = at-tabulate n (λ (k : ℕ). g (suc k)) i (omega arith)

pub tabulate-same : (n : ℕ) (g h : ℕ → Float) → ((i : ℕ) → i < n → g i ≡ h i) → tabulate n g ≡ tabulate n h
tabulate-same zero g h same = refl
tabulate-same (suc n) g h same =
    ap (λ x. x ∷ tabulate n (λ (i : ℕ). g (suc i))) (same 0 (omega arith))
    ∙ ap (λ xs. h 0 ∷ xs) (tabulate-same n (λ (i : ℕ). g (suc i)) (λ (i : ℕ). h (suc i)) (λ i l. same (suc i) (omega arith)))

pub tabulate-take : (n : ℕ) (xs : List Float) → n ≤ length xs → tabulate n (at xs) ≡ take n xs
tabulate-take zero xs h = refl
tabulate-take (suc n) [] h = absurd (omega arith)
tabulate-take (suc n) (x ∷ xs) h = ap (λ ys. x ∷ ys) (tabulate-take n xs (omega arith))

pub tabulate_all : (n : ℕ) (xs : List Float) → length xs ≡ n → tabulate n (at xs) ≡ xs
tabulate_all n xs e = tabulate-take n xs (omega arith) ∙ take_all n xs (omega arith)

-- n numbers stored one by one from the first place on
pub stored : (n : ℕ) (v y : List Float) → length v ≡ n → n ≤ length y → sets y 0 (tabulate n (at v)) ≡ v ++ drop n y
stored n v y e h = rw (tabulate_all n v e, sets-eq v y 0 (omega arith), e, zero-add)

-- the first numbers of a table
pub take-tabulate : (n m : ℕ) (g : ℕ → Float) → n ≤ m → take n (tabulate m g) ≡ tabulate n g
take-tabulate zero m g h = refl
take-tabulate (suc n) zero g h = absurd (omega arith)
take-tabulate (suc n) (suc m) g h = ap (λ (l : List Float). g 0 ∷ l) (take-tabulate n m (λ (i : ℕ). g (suc i)) (le_of_suc-le-suc h))

pub first_tabulate : (n m : ℕ) (g : ℕ → Float) → n ≤ m → tabulate n (at (tabulate m g)) ≡ tabulate n g
first_tabulate n m g h = tabulate-take n (tabulate m g) (rw (length-tabulate m g) h) ∙ take-tabulate n m g h

pub map-tabulate : (n : ℕ) (g : Float → Float) (h : ℕ → Float) → tabulate n (λ (i : ℕ). g (h i)) ≡ map g (tabulate n h)
map-tabulate zero g h = refl
map-tabulate (suc n) g h = ap (λ (l : List Float). g (h 0) ∷ l) (map-tabulate n g (λ (i : ℕ). h (suc i)))

-- ---- finite numbers

pub table-finite : (n : ℕ) (g : ℕ → Float) → ((i : ℕ) → i < n → finite (g i) ≡ true) → all_finite (tabulate n g) ≡ true
unfolding all_finite
table-finite zero g h = refl
table-finite (suc n) g h = rw (h 0 (omega arith), table-finite n (λ (i : ℕ). g (suc i)) (λ i l. h (suc i) (omega arith)))

-- numbers that are finite together, place by place
pub tables_finite : (n : ℕ) (g h : ℕ → Float) → ((i : ℕ) → finite (g i) ≡ finite (h i)) → all_finite (tabulate n g) ≡ all_finite (tabulate n h)
unfolding all_finite
tables_finite zero g h e = refl
tables_finite (suc n) g h e = rw (e 0, tables_finite n (λ (i : ℕ). g (suc i)) (λ (i : ℕ). h (suc i)) (λ i. e (suc i)))

pub negated-finite : (n : ℕ) (xs : List Float) → length xs ≡ n → all_finite xs ≡ all_finite (negated_of n xs)
negated-finite n xs e =
    ap all_finite (sym (tabulate_all n xs e)) ∙ tables_finite n (at xs) (λ (i : ℕ). neg (at xs i)) (λ i. sym (finite-neg (at xs i)))

pub zeros-finite : (f : Format) (n : ℕ) → all_finite (zeros f n) ≡ true
unfolding all_finite
zeros-finite f zero = refl
zeros-finite f (suc n) = rw (zero-finite f, zeros-finite f n)

-- ---- values of the format

pub zeros_fit : (f : Format) (n : ℕ) → Fit f n (zeros f n)
zeros_fit f zero i l = absurd (omega arith)
zeros_fit f (suc n) zero l = zero_fits f
zeros_fit f (suc n) (suc i) l = zeros_fit f n i (omega arith)
