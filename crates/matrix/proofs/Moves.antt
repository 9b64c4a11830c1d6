-- A square list is the table of its entries, since i = i % n + (i / n) * n; so a move that is done twice is undone entry by entry.
use Rattle.float.proofs.Words.{◌≡◌, refl, sym, ap, ◌∙◌, subst, Bool, true, false, List, ℕ, zero, suc, ◌*◌, ◌/◌, ◌%◌, ◌<◌, mod-lt, div-add-mod'}
use Rattle.float.proofs.Words.{div-lt_iff_lt-mul, div-eq_of_lt, mod-eq_of_lt, add-mul-div_right, add-mul-mod_self_right, arith, eqb, length, Float, neg, eq-eqb}
use Rattle.float.proofs.Words.{ne_eqb}
use Rattle.float.specs.Choice.{pick}
use Rattle.float.specs.Sign.{finite, all_finite}
use Rattle.float.proofs.Finite.{at-finite, finite-neg}
use Rattle.float.proofs.Choice.{chosen, by_eqb}
use Rattle.float.proofs.Negation.{neg_twice}
use Rattle.matrix.specs.Places.{at, square_index}
use Rattle.matrix.specs.Square.{square_of, entry_of, transpose_of, exchanged, exchange_of, negate_of}
use Rattle.matrix.proofs.Tables.{at-tabulate, tabulate-same, tabulate_all, table-finite, tables_finite}
use Rattle.matrix.proofs.Placing.{square_below}

-- ---- tables of entries

-- a place in the list has a row and a column below the size
size_above : (n i : ℕ) → i < n * n → 0 < n
size_above zero i h = absurd (omega arith)
size_above (suc n) i h = omega arith

column_below : (n i : ℕ) → i < n * n → i / n < n
column_below n i h = (div-lt_iff_lt-mul (size_above n i h)).1 h

place_is : (n i : ℕ) → square_index n (i % n) (i / n) ≡ i
place_is n i = omega (arith, div-add-mod' i n)

row_of_lem : (n r c : ℕ) → r < n → square_index n r c % n ≡ r
row_of_lem n r c h = add-mul-mod_self_right r c n ∙ mod-eq_of_lt h

column_of_lem : (n r c : ℕ) → r < n → square_index n r c / n ≡ c
column_of_lem n r c h = omega (arith, add-mul-div_right r c {z = n} (omega arith), div-eq_of_lt h)

pub square_same : (n : ℕ) (g h : ℕ → ℕ → Float) → ((r c : ℕ) → r < n → c < n → g r c ≡ h r c) → square_of n g ≡ square_of n h
square_same n g h same =
    tabulate-same (n * n) (λ (i : ℕ). g (i % n) (i / n)) (λ (i : ℕ). h (i % n) (i / n))
    (λ i l. same (i % n) (i / n) (mod-lt i (size_above n i l)) (column_below n i l))

-- a list that has at each place the number g of its row and column
pub square_made : (n : ℕ) (g : ℕ → ℕ → Float) (xs : List Float) → length xs ≡ n * n
    → ((i : ℕ) → i < n * n → i % n < n → i / n < n → at xs i ≡ g (i % n) (i / n)) → xs ≡ square_of n g
square_made n g xs e same =
    sym (tabulate_all (n * n) xs e)
    ∙ tabulate-same (n * n) (at xs) (λ (i : ℕ). g (i % n) (i / n)) (λ i l. same i l (mod-lt i (size_above n i l)) (column_below n i l))

pub square_eta : (n : ℕ) (xs : List Float) → length xs ≡ n * n → square_of n (entry_of n xs) ≡ xs
square_eta n xs e =
    tabulate-same (n * n) (λ (i : ℕ). entry_of n xs (i % n) (i / n)) (at xs) (λ i l. ap (at xs) (place_is n i)) ∙ tabulate_all (n * n) xs e

pub entry_of_lem : (n : ℕ) (g : ℕ → ℕ → Float) (r c : ℕ) → r < n → c < n → entry_of n (square_of n g) r c ≡ g r c
entry_of_lem n g r c h k =
    at-tabulate (n * n) (λ (i : ℕ). g (i % n) (i / n)) (square_index n r c) (square_below h k)
    ∙ ap (λ (i : ℕ). g i (square_index n r c / n)) (row_of_lem n r c h)
    ∙ ap (g r) (column_of_lem n r c h)

-- a square list is finite exactly where its entries are
module _ (n : ℕ) (xs : List Float) (full : length xs ≡ n * n) where
  pub entry-finite : all_finite xs ≡ true → (r c : ℕ) → r < n → c < n → finite (entry_of n xs r c) ≡ true
  entry-finite e r c h k = at-finite xs e (square_index n r c) (rw full (square_below h k))

  pub entries_finite : ((r c : ℕ) → r < n → c < n → finite (entry_of n xs r c) ≡ true) → all_finite xs ≡ true
  entries_finite h =
      subst (λ (ys : List Float). all_finite ys ≡ true) (square_eta n xs full)
      (table-finite (n * n) (λ (i : ℕ). entry_of n xs (i % n) (i / n)) (λ i l. h (i % n) (i / n) (mod-lt i (size_above n i l)) (column_below n i l)))

-- the sign of a column changes no number's being finite
pub negate_finite : (n i : ℕ) (xs : List Float) → length xs ≡ n * n → all_finite (negate_of n i xs) ≡ all_finite xs
negate_finite n i xs e =
    tables_finite (n * n) (λ (k : ℕ). pick (eqb (k / n) i) (neg (entry_of n xs (k % n) (k / n))) (entry_of n xs (k % n) (k / n)))
    (λ (k : ℕ). entry_of n xs (k % n) (k / n))
    (λ k. let x = entry_of n xs (k % n) (k / n) in chosen (λ (v : Float). finite v ≡ finite x) (eqb (k / n) i) (neg x) x (finite-neg x) refl)
    ∙ ap all_finite (square_eta n xs e)

-- a move that gives back each entry gives back the list
undone : (n : ℕ) (g : ℕ → ℕ → Float) (xs : List Float) → length xs ≡ n * n → ((r c : ℕ) → r < n → c < n → g r c ≡ entry_of n xs r c) → square_of n g ≡ xs
undone n g xs e same = square_same n g (entry_of n xs) same ∙ square_eta n xs e

-- ---- moves

pub transpose_twice : (n : ℕ) (xs : List Float) → length xs ≡ n * n → transpose_of n (transpose_of n xs) ≡ xs
transpose_twice n xs e =
    undone n (λ (r c : ℕ). entry_of n (transpose_of n xs) c r) xs e (λ r c h k. entry_of_lem n (λ (r c : ℕ). entry_of n xs c r) c r k h)

-- the column that stands at c, by cases: c is i, or it is j, or neither
by_column : (P : ℕ → Type 0) (i j c : ℕ) → (c ≡ i → P j) → ((c ≡ i → ⊥) → c ≡ j → P i) → ((c ≡ i → ⊥) → (c ≡ j → ⊥) → P c) → P (exchanged i j c)
by_column P i j c at_i at_j other = by_eqb P c i j (pick (eqb c j) i c) at_i (λ n. by_eqb P c j i c (at_j n) (other n))

pub exchanged_below : {n : ℕ} (i j c : ℕ) → i < n → j < n → c < n → exchanged i j c < n
exchanged_below {n} i j c h k l = by_column (λ (d : ℕ). d < n) i j c (λ e. k) (λ m e. h) (λ m o. l)

pub at_first : (i j : ℕ) → exchanged i j i ≡ j
at_first i j = rw (eq-eqb i i refl)

pub at_second : (i j : ℕ) → exchanged i j j ≡ i
at_second i j = by_column (λ (d : ℕ). d ≡ i) i j j (λ e. e) (λ m e. refl) (λ m o. absurd (o refl))

pub exchanged_twice : (i j c : ℕ) → exchanged i j (exchanged i j c) ≡ c
exchanged_twice i j c =
    by_column (λ (d : ℕ). exchanged i j d ≡ c) i j c (λ e. at_second i j ∙ sym e) (λ m e. at_first i j ∙ sym e) (λ m o. rw (ne_eqb c i m, ne_eqb c j o))

pub exchange_twice : (n i j : ℕ) (xs : List Float) → i < n → j < n → length xs ≡ n * n → exchange_of n i j (exchange_of n i j xs) ≡ xs
exchange_twice n i j xs h k e =
    undone n (λ (r c : ℕ). entry_of n (exchange_of n i j xs) r (exchanged i j c)) xs e
    (λ r c l m.
    entry_of_lem n (λ (r c : ℕ). entry_of n xs r (exchanged i j c)) r (exchanged i j c) l (exchanged_below i j c h k m)
    ∙ ap (entry_of n xs r) (exchanged_twice i j c))

pub negate_twice : (n i : ℕ) (xs : List Float) → length xs ≡ n * n → negate_of n i (negate_of n i xs) ≡ xs
negate_twice n i xs e =
    undone n (λ (r c : ℕ). pick (eqb c i) (neg (entry_of n (negate_of n i xs) r c)) (entry_of n (negate_of n i xs) r c)) xs e
    (λ r c h k.
    ap (λ x. pick (eqb c i) (neg x) x) (entry_of_lem n (λ (r c : ℕ). pick (eqb c i) (neg (entry_of n xs r c)) (entry_of n xs r c)) r c h k)
    ∙ both (eqb c i) (entry_of n xs r c))
  where
    both : (t : Bool) (x : Float) → pick t (neg (pick t (neg x) x)) (pick t (neg x) x) ≡ x
    both true x = neg_twice x
    both false x = refl
