-- The values of an answer with code 0 are finite and put in order, so they ascend; two of them also where a tie changes their places.
use Rattle.std.specs.Prelude.{Ok}
use Rattle.float.proofs.Words.{◌≡◌, refl, true, List, ℕ, ◌<◌, arith, length, Float, Format}
use Rattle.float.specs.Width.{F}
use Rattle.float.specs.Sign.{finite, all_finite}
use Rattle.float.proofs.Finite.{at-finite, parts_finite}
use Rattle.matrix.specs.Places.{at}
use Rattle.matrix.specs.Square.{exchange_of}
use Rattle.matrix.specs.Symmetric.{Sym3, Sym2}
use Rattle.jacobi.proofs.Moves.{each_before}
use Rattle.jacobi.proofs.Sorted.{upward, upward_ties, sorts2, sorts3}
use Rattle.eigen.specs.Eigen3x3.{State, last_of, diagonal, ranked_of, EigenAnswer, eigen_of}
use Rattle.eigen.specs.EigVals.{bare_last_of, alone, nothing_swapped, EigValsAnswer, eigvals_of, EigVals2Answer, eigvals2_of}
use Rattle.eigen.specs.Eigen2x2.{axes_of, solved2, Eigen2Answer, eigen2_of}
use Rattle.eigen.specs.Ordered.{InOrder, ValuesInOrder, diagonal_axes, rotation_axes}
use Rattle.eigen.specs.declared.eigen2x2.Eigen2.{Eigen2}
use Rattle.eigen.specs.declared.eigen2x2.EigVals2.{EigVals2}
use Rattle.eigen.specs.declared.eigen3x3.Eigen3.{Eigen3}
use Rattle.eigen.specs.declared.eigen3x3.EigVals3.{EigVals3}
use Rattle.eigen.proofs.Told.{handed_out}
use Rattle.eigen.proofs.Answered.{answered, answered_values, answered2, answered_values2}
use Rattle.eigen.proofs.Moved.{same_permutation, same_permutation2, values_moved}
use Rattle.eigen.proofs.Full.{last_filled, bare-filled, diagonal-finite, solved_full}
use Rattle.eigen.proofs.eigen2x2.eigen.Reads as eigen2x2-eigen
use Rattle.eigen.proofs.eigen2x2.eigvals.Reads as eigen2x2-eigvals
use Rattle.eigen.proofs.eigen3x3.eigen_jacobi.Reads as eigen-jacobi
use Rattle.eigen.proofs.eigen3x3.eigvals_jacobi.Reads as eigvals-jacobi

-- ---- what is put in order is in order, where it is finite

ranked_in_order : (s : State) → ((c : ℕ) → c < 3 → finite (at (diagonal s.matrix) c) ≡ true) → InOrder 3 (diagonal_axes s) (ranked_of s)
unfolding ranked_of
ranked_in_order s h = record { moved = same_permutation s; values = sorts3 upward (exchange_of 3) (diagonal_axes s) h }

-- both values are finite where they are so in order
solved_in_order : (f : Format) (a : List Float) → all_finite (solved2 f a).values ≡ true → InOrder 2 (rotation_axes f a) (solved2 f a)
unfolding solved2 axes_of
solved_in_order f a e =
    let l = (solved_full f a).0 in
    let m = same_permutation2 f a in
    let fine = each_before m (λ (x : Float). finite x ≡ true) (λ c h. at-finite (solved2 f a).values e c (omega arith)) in
    record { moved = m; values = sorts2 upward_ties (exchange_of 2) (rotation_axes f a) fine }

-- ---- the answers with code 0

module _ (f : Format) (a : List Float) where
  -- A matrix of the source holds six numbers. Here its numbers are a list, so their count is a premise.
  pub in_order : length a ≡ 6 → (eigen_of f a).code ≡ 0
      → InOrder 3 (diagonal_axes (last_of f a)) (record { values = (eigen_of f a).values; carried = (eigen_of f a).vectors.«data» })
  in_order n e =
      let s = last_of f a in
      let d = answered f a e in
      rw d.answer
      (ranked_in_order s (diagonal-finite s.matrix (last_filled f a n).0 (parts_finite s.matrix (ranked_of s).carried d.numbers).0))

  pub values_in_order : length a ≡ 6 → (eigvals_of f a).code ≡ 0 → ValuesInOrder 3 (diagonal (bare_last_of f a).matrix) (eigvals_of f a).values
  values_in_order n e =
      let x = (bare_last_of f a).matrix in
      let d = answered_values f a e in
      rw d.answer
      (record {
        moved = values_moved (diagonal x);
        values = sorts3 upward nothing_swapped (alone (diagonal x)) (diagonal-finite x (bare-filled f a n) d.numbers);
      })

  pub in_order2 : (eigen2_of f a).code ≡ 0
      → InOrder 2 (rotation_axes f a) (record { values = (eigen2_of f a).values; carried = (eigen2_of f a).vectors.«data» })
  in_order2 e =
      let x = solved2 f a in
      let d = answered2 f a e in
      rw d.answer (solved_in_order f a (parts_finite x.values x.carried d.numbers).0)

  pub values_in_order2 : (eigvals2_of f a).code ≡ 0 → ValuesInOrder 2 (rotation_axes f a).values (eigvals2_of f a).values
  values_in_order2 e =
      let d = answered_values2 f a e in
      let o = solved_in_order f a d.numbers in
      rw d.answer (record { moved = record { by = o.moved.by; values = o.moved.values; carried = tt }; values = o.values })

-- ---- the calls: any answer within the promise that the source states

pub in_order_call : (a : Sym3) (x : Eigen3) → length a.«data» ≡ 6 → eigen-jacobi.Post tt (a, tt) (Ok x) (a, tt)
    → InOrder 3 (diagonal_axes (last_of F a.«data»)) (record { values = x.values; carried = x.vectors.«data» })
in_order_call a x n p =
    handed_out (λ (r : EigenAnswer). r.code)
    (λ (r : EigenAnswer). InOrder 3 (diagonal_axes (last_of F a.«data»)) (record { values = r.values; carried = r.vectors.«data» })) p refl
    (in_order F a.«data» n)

pub values_in_order_call : (a : Sym3) (x : EigVals3) → length a.«data» ≡ 6 → eigvals-jacobi.Post tt (a, tt) (Ok x) (a, tt)
    → ValuesInOrder 3 (diagonal (bare_last_of F a.«data»).matrix) x.values
values_in_order_call a x n p =
    handed_out (λ (r : EigValsAnswer). r.code) (λ (r : EigValsAnswer). ValuesInOrder 3 (diagonal (bare_last_of F a.«data»).matrix) r.values) p refl
    (values_in_order F a.«data» n)

pub in_order2_call : (a : Sym2) (x : Eigen2) → eigen2x2-eigen.Post tt (a, tt) (Ok x) (a, tt)
    → InOrder 2 (rotation_axes F a.«data») (record { values = x.values; carried = x.vectors.«data» })
in_order2_call a x p =
    handed_out (λ (r : Eigen2Answer). r.code)
    (λ (r : Eigen2Answer). InOrder 2 (rotation_axes F a.«data») (record { values = r.values; carried = r.vectors.«data» })) p refl (in_order2 F a.«data»)

pub values_in_order2_call : (a : Sym2) (x : EigVals2) → eigen2x2-eigvals.Post tt (a, tt) (Ok x) (a, tt)
    → ValuesInOrder 2 (rotation_axes F a.«data»).values x.values
values_in_order2_call a x p =
    handed_out (λ (r : EigVals2Answer). r.code) (λ (r : EigVals2Answer). ValuesInOrder 2 (rotation_axes F a.«data»).values r.values) p refl
    (values_in_order2 F a.«data»)
