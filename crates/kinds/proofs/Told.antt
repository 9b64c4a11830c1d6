-- A kind is told by its row of the table, and what a kind answers by what is told of it.
use Rattle.float.proofs.Words.{◌≡◌, refl, sym, ap, ◌∙◌, Bool, true, false, [], ◌∷◌, ℕ, arith, eqb, eqb-false, ne_eqb, get_or}
use Rattle.std.specs.Prelude.{Option, Some, None, Result, Ok, Err}
use Rattle.float.specs.Choice.{pick}
use Rattle.float.specs.Width.{F}
use Rattle.matrix.specs.declared.codes.Refusal.{Refusal}
use Rattle.matrix.proofs.Refusals.{number_above, number_of_one}
use Rattle.jacobi.specs.Blind.{mark_of}
use Rattle.kinds.specs.Table.{unknown}
use Rattle.kinds.specs.Table.{Kind as TableKind}
use Rattle.kinds.specs.Work.{WorkedAnswer}
use Rattle.kinds.specs.Read.{row_of, columns, row_or_none, numbered_row, with_code, whole_worked, worked}
use Rattle.kinds.specs.declared.table.Kind.{Kind}
use Rattle.kinds.specs.declared.table.Kind.TheVariants.{Eigen2x2, Eigen3x3, Svd2x2, Svd3x3, Factor2x2, Factor3x3, Solve2x2, Solve3x3}
use Rattle.kinds.specs.declared.table.Numbered.{Numbered}
use Rattle.kinds.specs.declared.work.Worked.{Worked}
use Rattle.kinds.specs.declared.work.Refused.{Refused}
use Rattle.kinds.proofs.Named.{row_known}

-- ---- a kind, by its row's number

abbrev with_number : ℕ → Kind
with_number n = get_or (Eigen2x2 ∷ Eigen2x2 ∷ Eigen3x3 ∷ Svd2x2 ∷ Svd3x3 ∷ Factor2x2 ∷ Factor3x3 ∷ Solve2x2 ∷ []) n Solve3x3

told_by_row : (k : Kind) → with_number (row_of k).number ≡ k
told_by_row Eigen2x2 = refl
told_by_row Eigen3x3 = refl
told_by_row Svd2x2 = refl
told_by_row Svd3x3 = refl
told_by_row Factor2x2 = refl
told_by_row Factor3x3 = refl
told_by_row Solve2x2 = refl
told_by_row Solve3x3 = refl

pub row_one : (x y : Kind) → row_of x ≡ row_of y → x ≡ y
row_one x y e = sym (told_by_row x) ∙ ap (λ (k : TableKind). with_number k.number) e ∙ told_by_row y

pub row_some : (k : Kind) → row_of k ≡ unknown → ⊥
row_some k e = eqb-false (row_of k).number 0 (row_known k) (ap (λ (r : TableKind). r.number) e)

-- ---- the row of any number: its kind by its number, and the columns

abbrev with_number_or_none : ℕ → Option Kind
with_number_or_none n = pick (eqb n 0) None (Some (with_number n))

told_or_none : (o : Option Kind) → with_number_or_none (row_or_none o).number ≡ o
told_or_none (Some k) = rw (ne_eqb (row_of k).number 0 (eqb-false (row_of k).number 0 (row_known k)), told_by_row k) refl
told_or_none None = refl

abbrev unnumbered : TableKind → Numbered
unnumbered k = record { kind = with_number_or_none k.number; row = columns k }

unnumbered_is : (r : Numbered) → unnumbered (numbered_row r) ≡ r
unnumbered_is r = ap (λ (o : Option Kind). record { kind = o; row = r.row }) (told_or_none r.kind)

pub numbered_one : (r q : Numbered) → numbered_row r ≡ numbered_row q → r ≡ q
numbered_one r q e = sym (unnumbered_is r) ∙ ap unnumbered e ∙ unnumbered_is q

-- ---- what a kind answers

abbrev untold : WorkedAnswer → Worked
untold w = record { count = w.count; settled = eqb w.settled 1; values = w.values; left = w.left; right = w.right }

marked : (b : Bool) → eqb (mark_of b) 1 ≡ b
marked true = refl
marked false = refl

untold_is : (w : Worked) → untold (whole_worked w) ≡ w
untold_is w = ap (λ (b : Bool). record { count = w.count; settled = b; values = w.values; left = w.left; right = w.right }) (marked w.settled)

-- the rest of it names one answer, whatever code stands with it
answer_one : (c d : ℕ) (v w : Worked) → with_code c v ≡ with_code d w → v ≡ w
answer_one c d v w e = sym (untold_is v) ∙ ap untold e ∙ untold_is w

pub whole_worked_one : (v w : Worked) → whole_worked v ≡ whole_worked w → v ≡ w
whole_worked_one = answer_one 0 0

pub with_code_one : (r q : ℕ × Worked) → with_code r.0 r.1 ≡ with_code q.0 q.1 → r ≡ q
with_code_one r q e =
    ap (λ (k : ℕ). (k, r.1)) (ap (λ (w : WorkedAnswer). w.code) e) ∙ ap (λ (w : Worked). (q.0, w)) (answer_one r.0 q.0 r.1 q.1 e)

abbrev untold_refused : WorkedAnswer → Refusal → Refused
untold_refused w why = record { why = why; pivot = w.count }

pub worked_one : (r q : Result Worked Refused) → worked F r ≡ worked F q → r ≡ q
worked_one (Ok x) (Ok y) e = ap Ok (whole_worked_one x y e)
worked_one (Ok x) (Err e) h = let c = ap (λ (w : WorkedAnswer). w.code) h in let l = number_above e.why in absurd (omega arith)
worked_one (Err e) (Ok y) h = let c = ap (λ (w : WorkedAnswer). w.code) h in let l = number_above e.why in absurd (omega arith)
worked_one (Err e) (Err d) h =
    let why : e.why ≡ d.why = number_of_one (ap (λ (w : WorkedAnswer). w.code) h) in
    ap Err (ap (λ (w : WorkedAnswer). untold_refused w e.why) h ∙ ap (λ (r : Refusal). record { why = r; pivot = d.pivot }) why)
