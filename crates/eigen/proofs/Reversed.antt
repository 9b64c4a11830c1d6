-- Reversed wiring only exchanges the axes. The runs from A and from -A make the same rotations, so they end in matrices that are negations of each
-- other, place by place, and in the same vectors; and the values of one are the other's, negated, hence in the opposite order.
pub mod Steps
pub mod Order
pub mod Wiring
use Rattle.float.proofs.Words.{◌≡◌, refl, sym, ap, ◌∙◌, subst, true, List, ℕ, ◌<◌, arith, length, Float, Format}
use Rattle.float.specs.Sign.{all_finite}
use Rattle.float.proofs.Finite.{parts_finite, lists_finite}
use Rattle.float.proofs.Judged.{both_called}
use Rattle.float.proofs.Negation.{negation}
use Rattle.float.proofs.Keys.{Within, keyed}
use Rattle.matrix.specs.Places.{at}
use Rattle.matrix.proofs.Tables.{tabulate_all}
use Rattle.jacobi.specs.Blind.{Watched, sighted}
use Rattle.jacobi.proofs.Moves.{columns-finite}
use Rattle.jacobi.proofs.Sorted.{below3}
use Rattle.eigen.specs.Eigen3x3.{State, start_of, watched_last_of, diagonal, ranked_of, refused_eigen, numbers_of, answer_of, end_of, eigen_of}
use Rattle.eigen.specs.Reversed.{negated, Reversed}
use Rattle.eigen.specs.Ordered.{diagonal_axes}
use Rattle.eigen.proofs.Moved.{same_permutation}
use Rattle.eigen.proofs.Full.{Filled, watched_filled, ranked_full, diagonal-finite}
use Rattle.eigen.proofs.Reversed.Steps.{Related, six, diagonal_rel, all_finite-same, settled_same, BothWatched, run_alike}
use Rattle.eigen.proofs.Reversed.Order.{values_reversed, columns_reversed}

-- ---- a matrix of six numbers and its negation

of-six : (a : List Float) → length a ≡ 6 → Related true a (negated a)
of-six a h =
    subst (λ (x : List Float). Related true x (negated a)) (tabulate_all 6 a h)
    (six (negation (at a 0)) (negation (at a 1)) (negation (at a 2)) (negation (at a 3)) (negation (at a 4)) (negation (at a 5)))

refused_reversed : (f : Format) (k : ℕ) → 0 < k → Reversed (refused_eigen f k) (refused_eigen f k)
refused_reversed f k h = record { codes = refl; made = refl; marks = refl; values = (λ e. absurd (omega arith)); columns = (λ e. absurd (omega arith)) }

-- ---- the ends w and q of two runs: their vectors are finite together, and where their matrices are, their answers are reversed

record Ends (f : Format) (w q : Watched State) : Type 0 where
  vectors : all_finite (ranked_of w.state).carried ≡ all_finite (ranked_of q.state).carried
  answers : all_finite w.state.matrix ≡ true → Reversed (answer_of f w) (answer_of f q)

alike_ends : (f : Format) (w q : Watched State) → BothWatched true w q → Filled w.state → Filled q.state → Ends f w q
unfolding ranked_of
alike_ends f w q r h k = record {
  vectors =
      sym (columns-finite (same_permutation w.state) h.1 (ranked_full w.state h).1)
      ∙ ap all_finite r.states.vectors ∙ columns-finite (same_permutation q.state) k.1 (ranked_full q.state k).1;
  answers = (λ e.
      let fine = diagonal-finite w.state.matrix h.0 e in
      let g = keyed _ _ _ (fine 0 (omega arith)) (fine 1 (omega arith)) (fine 2 (omega arith)) in
      let x = below3 (λ (c : ℕ). Within g.L g.K (at (diagonal w.state.matrix) c)) g.one g.two g.three in
      let s = diagonal_axes w.state in
      let t = diagonal_axes q.state in
      record {
        codes = refl;
        made = r.states.made;
        marks = cc (r.blind, settled_same f r.states.matrices);
        values = (λ _. values_reversed g.L g.K s t x (diagonal_rel r.states.matrices));
        columns = (λ _. columns_reversed g.L g.K s t x (diagonal_rel r.states.matrices) r.states.vectors);
      });
}

-- ---- the whole call

-- for every matrix of six numbers, finite or not, and in either format
pub reversed : (f : Format) (a : List Float) → length a ≡ 6 → Reversed (eigen_of f a) (eigen_of f (negated a))
unfolding eigen_of end_of
reversed f a n =
    let r = of-six a n in
    let w = watched_last_of f a in
    let q = watched_last_of f (negated a) in
    let s = w.state in
    let t = q.state in
    let l = run_alike true f 25 (sighted (start_of f a)) (sighted (start_of f (negated a))) (record {
      states = record { matrices = r; vectors = refl; made = refl };
      blind = refl;
    }) in
    let e = alike_ends f w q l (watched_filled f a n) (watched_filled f (negated a) refl) in
    both_called Reversed (refused_eigen f) a (negated a) (numbers_of s) (numbers_of t) (answer_of f w) (answer_of f q) (all_finite-same r)
    (lists_finite s.matrix t.matrix (ranked_of s).carried (ranked_of t).carried (all_finite-same l.states.matrices) e.vectors)
    (λ h. e.answers (parts_finite s.matrix (ranked_of s).carried h).0) (refused_reversed f)
