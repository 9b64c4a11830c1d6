-- A place is answered exactly where its row and its column are below the size; what is read or written there goes by the same two tests.
use Rattle.float.proofs.Words.{◌≡◌, refl, sym, ap, ◌∙◌, Bool, true, false, ℕ, ◌*◌, ◌<◌, arith, ltb, ltb-true, lt-ltb}
use Rattle.float.specs.Choice.{pick}
use Rattle.float.proofs.Choice.{by_ltb}
use Rattle.std.specs.Prelude.{Option, Some, None}
use Rattle.matrix.specs.Answer.{Answer, done, refused, place}
use Rattle.matrix.specs.Places.{square_index, triangular, packed_index}
use Rattle.matrix.specs.Indexed.{inside, index_of}
use Rattle.matrix.proofs.Placing.{square_below, packed_below}

-- ---- what the answer says of its code and value

never : {A : Type 0} {x z : A} → done x ≡ refused 8 z → ⊥
never {A} e = let d : ◌≡◌ {A = ℕ} 0 8 = ap (λ (a : Answer A). a.code) e in omega arith

-- the place of a row and a column below the size
pub record Found (n r c i k : ℕ) : Type 0 where
  pub row : r < n
  pub column : c < n
  pub is : i ≡ k

module _ (n r c : ℕ) where
  -- ---- the two tests

  pub within : {A : Type 0} (x z : A) → r < n → c < n → done x ≡ inside n r c x z
  unfolding inside
  within x z h k = rw (lt-ltb r n h, lt-ltb c n k)

  pub outside : {A : Type 0} (x z : A) → ((r < n) × (c < n) → ⊥) → refused 8 z ≡ inside n r c x z
  unfolding inside
  outside x z h =
      by_ltb (λ (a : Answer _). refused 8 z ≡ a) r n (pick (ltb c n) (done x) (refused 8 z)) (refused 8 z)
      (λ l. by_ltb (λ (a : Answer _). refused 8 z ≡ a) c n (done x) (refused 8 z) (λ k. absurd (h (l, k))) (λ k. refl)) (λ l. refl)

  -- ---- a place that was answered

  pub found : {p : Option ℕ} {i : ℕ} (k : ℕ) → p ≡ Some i → place p ≡ index_of n r c k → Found n r c i k
  unfolding inside
  found {i = i} k a h = go (ltb r n) (ltb c n) refl refl (sym (ap place a) ∙ h)
    where
      go : (t u : Bool) → ltb r n ≡ t → ltb c n ≡ u → done i ≡ pick t (pick u (done k) (refused 8 0)) (refused 8 0) → Found n r c i k
      go true true d e h = record { row = ltb-true r n d; column = ltb-true c n e; is = ap (λ (a : Answer ℕ). a.value) h }
      go true false d e h = absurd (never h)
      go false u d e h = absurd (never h)

  pub found_square : {p : Option ℕ} {i : ℕ} → p ≡ Some i → place p ≡ index_of n r c (square_index n r c) → i < n * n
  found_square a h = let f = found (square_index n r c) a h in rw f.is (square_below f.row f.column)

  pub found_packed : {p : Option ℕ} {i : ℕ} → p ≡ Some i → place p ≡ index_of n r c (packed_index r c) → i < triangular n
  found_packed a h = let f = found (packed_index r c) a h in rw f.is (packed_below f.row f.column)

  -- ---- a place that was refused

  pub refused_too : {A : Type 0} {p : Option ℕ} (k : ℕ) (x z : A) → p ≡ None → place p ≡ index_of n r c k → refused 8 z ≡ inside n r c x z
  unfolding inside
  refused_too k x z o e = go (ltb r n) (ltb c n) (sym (ap place o) ∙ e)
    where
      go : (t u : Bool) → refused 8 0 ≡ pick t (pick u (done k) (refused 8 0)) (refused 8 0)
          → refused 8 z ≡ pick t (pick u (done x) (refused 8 z)) (refused 8 z)
      go true true h = absurd (never (sym h))
      go true false h = refl
      go false u h = refl

-- what is read or written at a place that was answered is the answer of the same tests
pub inside_is : {n r c i k : ℕ} → Found n r c i k → {A : Type 0} (x z : A) → inside n r c x z ≡ done x
inside_is {n} {r} {c} f x z = sym (within n r c x z f.row f.column)
