-- Every number of every place is finite: an answer that is refused has zeros, and one that is not owes it.
use Rattle.float.proofs.Words.{◌≡◌, refl, sym, ◌∙◌, List, ℕ, length, get_or, Format}
use contract.Lifetimes.{Lfts}
use Rattle.std.specs.Prelude.{Result}
use Rattle.float.specs.Width.{F}
use Rattle.float.proofs.Choice.{whether}
use Rattle.matrix.specs.Codes.{code_of}
use Rattle.matrix.specs.Owed.{AllFull}
use Rattle.matrix.specs.declared.codes.Refusal.{Refusal}
use Rattle.matrix.proofs.Tables.{zeros-finite}
use Rattle.matrix.specs.Square.{Mat3}
use Rattle.svd.specs.Owed.{svd3_parts}
use Rattle.svd.specs.Svd3x3.{SvdAnswer}
use Rattle.svd.proofs.Owed.{svd3_owed}
use Rattle.row.specs.Row.{single_of, svd_row_of, answers_in}
use Rattle.row.proofs.Places.{place-done}
use Rattle.row.proofs.rows.svd_row.Reads as svd-row

pub single_vouched : (f : Format) (m : Mat3) → length m.«data» ≡ 9 → AllFull (svd3_parts (single_of f m))
single_vouched f m n =
    let owed = svd3_owed f m.«data» n in
    whether (single_of f m).code 0 owed.full
    (λ k. rw (owed.clear k) (refl, zeros-finite f 3, (refl, zeros-finite f 9, (refl, zeros-finite f 9, (refl, zeros-finite f 9, tt)))))

-- a matrix of the source holds nine numbers
pub row_vouched : (f : Format) (ms : List Mat3) (found : List SvdAnswer) (i : ℕ) (d : Mat3)
    → (svd_row_of f ms found).code ≡ 0 → length (get_or ms i d).«data» ≡ 9
    → AllFull (svd3_parts (get_or (svd_row_of f ms found).value i (single_of f d)))
row_vouched f ms found i d e n = rw (place-done f ms found i d e) (single_vouched f (get_or ms i d) n)

pub row_vouched_call : (κs : Lfts 2) (a : _) (r : Result (Unit {0}) Refusal) (s : _) → svd-row.Post κs a r s
    → (i : ℕ) (d : Mat3) → code_of r ≡ 0 → length (get_or a.0.now i d).«data» ≡ 9
    → AllFull (svd3_parts (get_or (answers_in s.1.0.now) i (single_of F d)))
row_vouched_call κs a r s p i d e n = rw p.1 (row_vouched F a.0.now (answers_in a.1.0.now) i d (sym p.0 ∙ e) n)
