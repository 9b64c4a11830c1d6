-- What a column or two values leave that are moved at places below the size, where no move is refused.
use Rattle.std.specs.Prelude.{Result, Ok, Err}
use Rattle.std.specs.List.{swap}
use Rattle.std.specs.Result.{result_unwrap_or}
use Rattle.std.proofs.lemmas.List.{get_or-set_same, get_or-set_other}
use Rattle.std.proofs.lemmas.List.Edits.{swap_is}
use Rattle.float.proofs.Words.{◌≡◌, refl, sym, ap, ◌∙◌, List, ℕ, ◌<◌, arith, length, set, length-set, Float, nan}
use Rattle.float.proofs.Choice.{by_eqb, whether}
use Rattle.matrix.specs.Answer.{Answer, done}
use Rattle.matrix.specs.Indexed.{moved, swap_columns_of}
use Rattle.matrix.specs.Places.{IsSquare, at, tabulate}
use Rattle.matrix.specs.Square.{square_with, exchanged, exchange_of}
use Rattle.matrix.specs.declared.answers.Unchanged.{Unchanged}
use Rattle.matrix.specs.declared.shape.DenseMatrixN.{DenseMatrixN}
use Rattle.matrix.proofs.Answered.{within}
use Rattle.matrix.proofs.Refusals.{number_above}
use Rattle.matrix.proofs.Stored.{square_known}
use Rattle.svd.specs.declared.order.Decomposed.{Decomposed}
use Rattle.matrix.proofs.Tables.{tabulate-same, tabulate_all}

-- ---- a move that is done leaves its matrix

abbrev Moved : ℕ → ℕ → Type 0
Moved n s = Result (DenseMatrixN n s) (Unchanged (DenseMatrixN n s))

pub moved_to : {n s : ℕ} (ys : List Float) (r : Moved n s) (u : DenseMatrixN n s) (p : IsSquare n s) → moved r ≡ done ys
    → result_unwrap_or r u ≡ square_with p ys
moved_to ys (Ok m) u p e = square_known m.square p (ap (λ (a : Answer (List Float)). a.value) e)
moved_to ys (Err k) u p e = let z = ap (λ (a : Answer (List Float)). a.code) e in absurd (omega (arith, number_above k.why, z))

pub columns_swapped : {n s : ℕ} (i j : ℕ) (m u : DenseMatrixN n s) (r : Moved n s) (p : IsSquare n s)
    → moved r ≡ swap_columns_of n i j m.«data» → i < n → j < n → result_unwrap_or r u ≡ square_with p (exchange_of n i j m.«data»)
columns_swapped i j m u r p e h k = moved_to _ r u p (e ∙ sym (within _ _ _ _ _ h k))

-- a matrix is its numbers, whichever of the tests says that it is square
pub same_v : {n s : ℕ} (w : Decomposed n s) (p : IsSquare n s) → w ≡ record { values = w.values; u = w.u; v = square_with p w.v.«data» }
same_v {n} {s} w p = ap (λ (m : DenseMatrixN n s). record { values = w.values; u = w.u; v = m }) (square_known w.v.square p refl)

-- ---- two values in each other's place

module _ (xs : List Float) (i j : ℕ) (h : i < length xs) (k : j < length xs) where
  abbrev both : List Float
  both = set (set xs i (at xs j)) j (at xs i)

  value_at : (c : ℕ) → at both c ≡ at xs (exchanged i j c)
  value_at c =
      let first = set xs i (at xs j) in
      let room : j < length first = rw length-set k in
      by_eqb (λ (d : ℕ). at both c ≡ at xs d) c i j _
      (λ e.
      whether i j
      (λ s. rw (e, s) (get_or-set_same (set xs j (at xs j)) j (at xs j) nan (rw length-set k)))
      (λ s. rw e (get_or-set_other first j i (at xs i) nan s ∙ get_or-set_same xs i (at xs j) nan h)))
      (λ m.
      by_eqb (λ (d : ℕ). at both c ≡ at xs d) c j i c
      (λ e. rw e (get_or-set_same first j (at xs i) nan room))
      (λ o. get_or-set_other first j c (at xs i) nan o ∙ get_or-set_other xs i c (at xs j) nan m))

  pub values_swapped : swap xs i j ≡ tabulate (length xs) (λ (c : ℕ). at xs (exchanged i j c))
  values_swapped =
      let n : length both ≡ length xs = length-set (set xs i (at xs j)) j (at xs i) ∙ length-set xs i (at xs j) in
      sym (swap_is xs i j nan h k) ∙ sym (tabulate_all (length xs) both n) ∙ tabulate-same (length xs) (at both) _ (λ c l. value_at c)
