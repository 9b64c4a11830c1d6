-- What `eigen_jacobi` answers to a matrix and to its negation differs only in the order of the axes: its promise names the answer, of which `reversed` says so.
-- The promise is read from the source, as a caller reads it.
use Rattle.std.specs.Prelude.{Result}
use Rattle.float.proofs.Words.{◌≡◌, sym, ap, ◌∙◌, subst₂, true, false, List, ℕ, ◌+◌, ◌*◌, ◌<◌, add-zero, length, Float, neg, eq}
use Rattle.float.specs.Width.{F}
use Rattle.matrix.specs.Codes.{told}
use Rattle.matrix.specs.Places.{at}
use Rattle.matrix.specs.declared.codes.Refusal.{Refusal}
use Rattle.matrix.specs.Symmetric.{Sym3}
use Rattle.matrix.proofs.Tables.{at-tabulate}
use Rattle.jacobi.specs.declared.made.Made.{Made}
use Rattle.eigen.specs.Eigen3x3.{EigenAnswer, whole_eigen, refused_eigen, eigen_of}
use Rattle.eigen.specs.Reversed.{negated, column_of, Reversed}
use Rattle.eigen.specs.declared.eigen3x3.Eigen3.{Eigen3}
use Rattle.eigen.proofs.Reversed.{reversed}
use Rattle.eigen.proofs.eigen3x3.eigen_jacobi.Reads as eigen-jacobi

-- A matrix of the source holds six numbers. Here its numbers are a list, so their count is a premise.
pub reversed_wiring : (a b : Sym3) → length a.«data» ≡ 6 → b.«data» ≡ negated a.«data»
    → (r q : Result Eigen3 Refusal) → eigen-jacobi.Post tt (a, tt) r (a, tt) → eigen-jacobi.Post tt (b, tt) q (b, tt)
    → Reversed (told (refused_eigen F) whole_eigen r) (told (refused_eigen F) whole_eigen q)
reversed_wiring a b h e r q p s = subst₂ Reversed (sym p) (sym (s ∙ ap (eigen_of F) e)) (reversed F a.«data» h)

-- ---- the places of the vectors, one by one: of nine numbers the first three are those of the last column of the other

-- equal columns are equal number by number
same_column : (v w : List Float) (c d : ℕ) → column_of v c ≡ column_of w d → (i : ℕ) → i < 3 → at v (i + c * 3) ≡ at w (i + d * 3)
same_column v w c d e i l =
    sym (at-tabulate 3 (λ (r : ℕ). at v (r + c * 3)) i l) ∙ ap (λ (x : List Float). at x i) e ∙ at-tabulate 3 (λ (r : ℕ). at w (r + d * 3)) i l

pub exchanged-places : (r q : EigenAnswer) → Reversed r q → r.code ≡ 0
    → let x = r.values in let y = q.values in let v = r.vectors.«data» in let w = q.vectors.«data» in
    (q.code ≡ 0) × (r.made.count ≡ q.made.count) × (r.settled ≡ q.settled)
    × (eq (at x 0) (neg (at y 2)) ≡ true) × (eq (at x 1) (neg (at y 1)) ≡ true) × (eq (at x 2) (neg (at y 0)) ≡ true)
    × (eq (at x 0) (at x 1) ≡ false → eq (at x 1) (at x 2) ≡ false
    → (i : ℕ) → i < 3 → (at v i ≡ at w (i + 6)) × (at v (i + 3) ≡ at w (i + 3)) × (at v (i + 6) ≡ at w i))
exchanged-places r q h e =
    let v = r.vectors.«data» in
    let w = q.vectors.«data» in
    let x = h.values e in (
      sym h.codes ∙ e,
      ap (λ (m : Made). m.count) h.made,
      h.marks,
      x.0,
      x.1,
      x.2,
      (λ d k i l.
          let c = h.columns e (d, k) in
          let first = ap (at v) (sym (add-zero i)) ∙ same_column v w 0 2 c.0 i l in
          let last = same_column v w 2 0 c.2 i l ∙ ap (at w) (add-zero i) in
          (first, same_column v w 1 1 c.1 i l, last)),
    )
