-- A row that is filled from the front: the first i places hold what a function gives for the matrices there, and the others what was found. Laws over any
-- function, and what they make of a row that is not refused.
use Rattle.float.proofs.Words.{◌≡◌, refl, sym, ap, ◌∙◌, List, [], ◌∷◌, ◌++◌, append-nil, map, ℕ, zero, suc, ◌≤◌, ◌<◌, min, arith, length, get_or, set}
use Rattle.float.proofs.Words.{take, drop, length-append, length-take, length-drop, take_all, drop-length, le_refl, leb, leb-true, eq-eqb, Format}
use lib.ListN.{length-map, drop_of_length-le as drop_all}
use Rattle.float.specs.Width.{F}
use Rattle.float.proofs.Choice.{by_test, by_eqb, either}
use Rattle.matrix.specs.Square.{Mat3}
use Rattle.svd.specs.Svd3x3.{SvdAnswer}
use Rattle.row.specs.Row.{most_places, row_code_of, single_of, svd_row_of, room_places, fill_of}

module _ {A B : Type 0} (g : A → B) where
  abbrev pub filled_to : ℕ → List A → List B → List B
  filled_to i xs found = map g (take i xs) ++ drop i found

  -- no place comes or goes
  pub filled-length : (i : ℕ) (xs : List A) (found : List B) → i ≤ length xs → i ≤ length found → length (filled_to i xs found) ≡ length found
  filled-length i xs found h k = simp (length-append, length-map, length-take, length-drop) (omega arith)

  -- one place more
  pub filled_next : (i : ℕ) (xs : List A) (found : List B) (d : A) → i < length xs → i < length found
      → set (filled_to i xs found) i (g (get_or xs i d)) ≡ filled_to (suc i) xs found
  filled_next i [] found d h k = absurd (omega arith)
  filled_next i (x ∷ xs) [] d h k = absurd (omega arith)
  filled_next zero (x ∷ xs) (y ∷ found) d h k = refl
  filled_next (suc i) (x ∷ xs) (y ∷ found) d h k = ap (λ (l : List B). g x ∷ l) (filled_next i xs found d (omega arith) (omega arith))

  -- all of them
  pub filled_all : (xs : List A) (found : List B) → length xs ≡ length found → filled_to (length xs) xs found ≡ map g xs
  filled_all xs found e = rw (take_all (length xs) xs (le_refl _), e, drop-length found) (append-nil (map g xs))

-- ---- the gate: the row is filled as a whole, or not at all

-- a row that is not refused has as many answers as matrices, and not too many
pub code_zero : (n m : ℕ) → row_code_of n m ≡ 0 → (n ≡ m) × (n ≤ most_places)
unfolding row_code_of
code_zero n m =
    let Zero : ℕ → Type 0 = λ (k : ℕ). k ≡ 0 → (n ≡ m) × (n ≤ most_places) in
    by_eqb Zero n m _ 10
    (λ e. by_test Zero (leb n most_places) 0 11 (λ t _. (e, leb-true n most_places t)) (λ _ k. absurd (omega (arith, k))))
    (λ _ k. absurd (omega (arith, k)))

-- once they are all filled, the row is that of the definition
pub filled_row : (f : Format) (ms : List Mat3) (found : List SvdAnswer) → row_code_of (length ms) (length found) ≡ 0
    → filled_to (single_of f) (length ms) ms found ≡ (svd_row_of f ms found).value
unfolding svd_row_of
filled_row f ms found e = rw (eq-eqb _ 0 e) (filled_all (single_of f) ms found (code_zero (length ms) (length found) e).0)

-- ---- the front of a row, where more may be asked for than there is

pub take_within : {D : Type 0} (n : ℕ) (xs : List D) → take (min n (length xs)) xs ≡ take n xs
take_within n xs =
    either n (length xs)
    (λ l. let e : min n (length xs) ≡ n = omega arith in rw e)
    (λ l. take_all (min n (length xs)) xs (omega arith) ∙ sym (take_all n xs l))

pub drop_within : {D : Type 0} (n : ℕ) (xs : List D) → drop (min n (length xs)) xs ≡ drop n xs
drop_within n xs =
    either n (length xs)
    (λ l. let e : min n (length xs) ≡ n = omega arith in rw e)
    (λ l. drop_all xs {i = min n (length xs)} (omega arith) ∙ sym (drop_all xs l))

-- so the call on copies may count a number above the arrays' length as this length
pub same_fronts : (ms : List Mat3) (n : ℕ) (ys : List SvdAnswer) (m : ℕ) → length ms ≡ room_places → length ys ≡ room_places
    → fill_of F ms (min n room_places) ys (min m room_places) ≡ fill_of F ms n ys m
unfolding fill_of
same_fronts ms n ys m h k = rw (← h, take_within n ms, h, ← k, take_within m ys, drop_within m ys)
