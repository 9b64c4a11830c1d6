-- The codes of the row call, by its rows: the two tests of the definition decide the two conditions, in this order.
use Rattle.float.proofs.Words.{◌≡◌, refl, not, List, [], ◌∷◌, ℕ, ◌≤◌, ◌<◌, arith, eqb, leb, length, Format, eqb-true, eq-eqb, leb-true, not-true}
use Rattle.float.proofs.Words.{not-false}
use borrow.Author.Tests.{leb-false}
use contract.Lifetimes.{Lfts}
use Rattle.std.specs.Prelude.{Result}
use Rattle.std.proofs.lemmas.List.{length-map}
use Rattle.float.specs.Width.{F}
use Rattle.matrix.specs.Codes.{code_of}
use Rattle.matrix.specs.Rows.{on, Gives}
use Rattle.matrix.specs.declared.codes.Refusal.{Refusal}
use Rattle.matrix.proofs.Rows.{Decides, last_row, by_not, taken_row, passed_row}
use Rattle.matrix.specs.Square.{Mat3}
use Rattle.svd.specs.Svd3x3.{SvdAnswer}
use Rattle.row.specs.Row.{most_places, row_code_of, svd_row_of, answer_in, answers_in}
use Rattle.row.specs.Codes.{length_rows}
use Rattle.row.proofs.rows.svd_row.Reads as svd-row

by_most : (n k : ℕ) → Decides (not (leb n k)) (k < n)
by_most n k = ((λ e. leb-false n k (not-true (leb n k) e)), (λ e h. omega (arith, leb-true n k (not-false (leb n k) e), h)))

pub length-codes : (n m : ℕ) → Gives (length_rows n m) (row_code_of n m)
unfolding row_code_of
length-codes n m =
    last_row (eqb n m) (on 10 (n ≡ m → ⊥)) (on 11 (64 < n) ∷ []) _ (by_not (eqb n m) (n ≡ m) (eqb-true n m) (eq-eqb n m))
    (last_row (leb n most_places) (on 11 (64 < n)) [] 0 (by_most n most_places) refl)

pub row-codes : (f : Format) (ms : List Mat3) (found : List SvdAnswer) → Gives (length_rows (length ms) (length found)) (svd_row_of f ms found).code
unfolding svd_row_of
row-codes f ms found = length-codes (length ms) (length found)

-- so of the code that a call gives
pub row_codes_call : (κs : Lfts 2) (a : _) (r : Result (Unit {0}) Refusal) (s : _) → svd-row.Post κs a r s
    → Gives (length_rows (length a.0.now) (length a.1.0.now)) (code_of r)
row_codes_call κs a r s p = rw (p.0, ← length-map a.1.0.now answer_in) (row-codes F a.0.now (answers_in a.1.0.now))

-- ---- what a code tells, of any number that the rows give

module _ (n m c : ℕ) (g : Gives (length_rows n m) c) where
  -- unequal rows give 10, however long they are
  pub ten_told : (n ≡ m → ⊥) → c ≡ 10
  ten_told h = taken_row g h

  pub eleven_told : n ≡ m → 64 < n → c ≡ 11
  eleven_told e h = taken_row (passed_row g (λ k. k e)) h

  pub zero_told : n ≡ m → n ≤ 64 → c ≡ 0
  zero_told e h = passed_row (passed_row g (λ k. k e)) (λ k. omega (arith, h, k))
