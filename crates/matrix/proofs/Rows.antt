-- The first row that holds gives the number: by going down the rows. A test that decides a row's condition takes its number or goes on.
use Rattle.float.proofs.Words.{◌≡◌, refl, sym, ◌∙◌, Bool, true, false, not, ◌&&◌, true≢false, false≢true, List, [], ◌∷◌, ◌⊎◌, inl, inr, ⊎_elim, ℕ, suc, ◌<◌}
use Rattle.float.proofs.Words.{arith, eqb, ltb, length, Float, eqb-true, eq-eqb, ltb-true, lt-ltb}
use Rattle.float.specs.Choice.{pick}
use Rattle.float.specs.Sign.{finite, all_finite}
use Rattle.float.proofs.Finite.{both_true, at-finite}
use Rattle.matrix.specs.Rows.{Row, on, Gives, WrongLength, Outside, NotFinite, kernel_rows}
use Rattle.matrix.specs.Places.{at}

-- ---- a test and its row

-- t decides X
abbrev pub Decides : Bool → Type 0 → Type 0
Decides t X = (t ≡ true → X) × (t ≡ false → X → ⊥)

pub decided : {X : Type 0} → X → Decides true X
decided x = ((λ _. x), (λ q. absurd (true≢false q)))

pub denied : {X : Type 0} → (X → ⊥) → Decides false X
denied n = ((λ q. absurd (false≢true q)), (λ _. n))

pub first_row : (t : Bool) (r : Row) (rs : List Row) (k : ℕ) → Decides t r.Holds → Gives rs k → Gives (r ∷ rs) (pick t r.number k)
first_row true r rs k d g = inl (d.0 refl, refl)
first_row false r rs k d g = inr (d.1 refl, g)

-- where the test tells that the row does not hold
pub last_row : (t : Bool) (r : Row) (rs : List Row) (k : ℕ) → Decides (not t) r.Holds → Gives rs k → Gives (r ∷ rs) (pick t k r.number)
last_row true r rs k d g = inr (d.1 refl, g)
last_row false r rs k d g = inl (d.0 refl, refl)

-- ---- going down the rows: a row's condition X and number n, and what the rows behind it say, R

pub taken_row : {X R : Type 0} {k n : ℕ} → (X × (k ≡ n)) ⊎ ((X → ⊥) × R) → X → k ≡ n
taken_row {X} {R} {k} {n} g h = ⊎_elim (λ (x : X × (k ≡ n)). x.1) (λ (x : (X → ⊥) × R). absurd (x.0 h)) g

pub passed_row : {X R : Type 0} {k n : ℕ} → (X × (k ≡ n)) ⊎ ((X → ⊥) × R) → (X → ⊥) → R
passed_row {X} {R} {k} {n} g h = ⊎_elim (λ (x : X × (k ≡ n)). absurd (h x.0)) (λ (x : (X → ⊥) × R). x.1) g

pub not_given : {X R : Type 0} {k n : ℕ} → (X × (k ≡ n)) ⊎ ((X → ⊥) × R) → (k ≡ n → ⊥) → (X → ⊥) × R
not_given {X} {R} {k} {n} g h = ⊎_elim (λ (x : X × (k ≡ n)). absurd (h x.1)) (λ (x : (X → ⊥) × R). x) g

-- ---- the rows leave one number

pub one_number : (rs : List Row) (k m : ℕ) → Gives rs k → Gives rs m → k ≡ m
one_number [] k m g h = g ∙ sym h
one_number (r ∷ rs) k m g h =
    ⊎_elim (λ (x : r.Holds × (k ≡ r.number)). x.1 ∙ sym (taken_row h x.0))
    (λ (x : (r.Holds → ⊥) × Gives rs k). one_number rs k m x.1 (passed_row h x.0)) g

-- ---- the tests of the code decide the conditions

-- a test that tells that X holds
pub by_not : (t : Bool) (X : Type 0) → (t ≡ true → X) → (X → t ≡ true) → Decides (not t) (X → ⊥)
by_not true X h k = denied (λ w. w (h refl))
by_not false X h k = decided (λ x. false≢true (k x))

pub by_length : {A : Type 0} (xs : List A) (n : ℕ) → Decides (not (eqb (length xs) n)) (WrongLength xs n)
by_length xs n = by_not (eqb (length xs) n) (length xs ≡ n) (eqb-true (length xs) n) (eq-eqb (length xs) n)

pub by_inside : (n r c : ℕ) → Decides (not (ltb r n && ltb c n)) (Outside n r c)
by_inside n r c =
    by_not (ltb r n && ltb c n) ((r < n) × (c < n)) (λ e. let b = both_true (ltb r n) (ltb c n) e in (ltb-true r n b.0, ltb-true c n b.1))
    (λ h. rw (lt-ltb r n h.0, lt-ltb c n h.1))

each_finite : (xs : List Float) → ((i : ℕ) → i < length xs → finite (at xs i) ≡ true) → all_finite xs ≡ true
unfolding all_finite
each_finite [] h = refl
each_finite (x ∷ xs) h = rw (h 0 (omega arith), each_finite xs (λ i l. h (suc i) (omega arith)))

pub by_finite : (xs : List Float) → Decides (not (all_finite xs)) (NotFinite xs)
by_finite xs = by_not (all_finite xs) ((i : ℕ) → i < length xs → finite (at xs i) ≡ true) (at-finite xs) (each_finite xs)

-- ---- a kernel whose code is known by its tests

pub kernel_codes : (used made : List Float) {k : ℕ} → k ≡ pick (all_finite used) (pick (all_finite made) 0 7) 5 → Gives (kernel_rows used made) k
kernel_codes used made e =
    let later : List Row = on 7 (NotFinite made) ∷ [] in
    rw e (last_row (all_finite used) (on 5 (NotFinite used)) later (pick (all_finite made) 0 7) (by_finite used)
    (last_row (all_finite made) (on 7 (NotFinite made)) [] 0 (by_finite made) refl))
