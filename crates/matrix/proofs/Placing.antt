-- A place that is answered lies in the list: the columns before column c leave n places for it, and the triangle grows by a column at a time.
use Rattle.float.proofs.Words.{◌≡◌, refl, min, max, ap, Bool, true, false, List, ⊎_elim, ℕ, zero, suc, ◌+◌, ◌*◌, ◌<◌}
use Rattle.float.proofs.Words.{suc-mul, mul-add, mul-le-mul_right}
use Rattle.float.proofs.Words.{eq-or-lt_of_le, arith, ltb, Float, Format, le-ltb}
use Rattle.float.specs.Choice.{pick}
use Rattle.float.proofs.Choice.{by_ltb}
use Rattle.matrix.specs.Answer.{done, refused}
use Rattle.matrix.specs.Places.{square_index, triangular, packed_index}
use Rattle.matrix.specs.Indexed.{inside, read_of}

-- ---- places below the size

pub square_below : {n r c : ℕ} → r < n → c < n → square_index n r c < n * n
square_below {n} {r} {c} h k = omega (arith, mul-le-mul_right {m = suc c} {n = n} n (omega arith), suc-mul c n)

triangular_next : (n : ℕ) → triangular (suc n) ≡ triangular n + suc n
triangular_next n = omega (arith, suc-mul n (suc n + 1), mul-add n n 2, mul-add n n 1)

-- the columns up to c
columns_within : (n c : ℕ) → c < n → triangular c + c < triangular n
columns_within zero c h = absurd (omega arith)
columns_within (suc n) c h =
    ⊎_elim (λ e. omega (arith, ap triangular e, triangular_next n)) (λ l. omega (arith, columns_within n c l, triangular_next n))
    (eq-or-lt_of_le {n = c} {m = n} (omega arith))

pub packed_below : {n r c : ℕ} → r < n → c < n → packed_index r c < triangular n
packed_below {n} {r} {c} h k =
    by_ltb (λ (i : ℕ). i < triangular n) r c (r + triangular c) (c + triangular r) (λ l. omega (arith, columns_within n c k))
    (λ l. omega (arith, columns_within n r h))

-- by the smaller and the larger of the two
pub packed_ordered : (r c : ℕ) → min r c + triangular (max r c) ≡ packed_index r c
packed_ordered r c =
    by_ltb (λ (i : ℕ). min r c + triangular (max r c) ≡ i) r c (r + triangular c) (c + triangular r)
    (λ l. let a : min r c ≡ r = omega arith in let b : max r c ≡ c = omega arith in rw (a, b))
    (λ l. let a : min r c ≡ c = omega arith in let b : max r c ≡ r = omega arith in rw (a, b))

-- ---- (r, c) and (c, r)

pub packed_symmetric : (r c : ℕ) → packed_index r c ≡ packed_index c r
packed_symmetric r c =
    by_ltb (λ (i : ℕ). i ≡ packed_index c r) r c (r + triangular c) (c + triangular r) (λ l. rw (le-ltb c r (omega arith)))
    (λ l. by_ltb (λ (i : ℕ). c + triangular r ≡ i) c r (c + triangular r) (r + triangular c) (λ k. refl) (λ k. let e : r ≡ c = omega arith in rw e))

pub inside_symmetric : {A : Type 0} (n r c : ℕ) (x z : A) → inside n r c x z ≡ inside n c r x z
unfolding inside
inside_symmetric n r c x z = go (ltb r n) (ltb c n)
  where
    go : (t u : Bool) → pick t (pick u (done x) (refused 8 z)) (refused 8 z) ≡ pick u (pick t (done x) (refused 8 z)) (refused 8 z)
    go true u = refl
    go false true = refl
    go false false = refl

pub read_symmetric : (f : Format) (n r c : ℕ) (xs : List Float) → read_of f n r c (packed_index r c) xs ≡ read_of f n c r (packed_index c r) xs
read_symmetric f n r c xs = rw (packed_symmetric r c) (inside_symmetric n r c _ _)
