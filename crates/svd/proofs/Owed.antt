-- Both calls owe what every kernel owes: they are judged, the lists of an answer are full, and its values are numbers that were judged or magnitudes of such.
use Rattle.float.proofs.Words.{◌≡◌, refl, true, List, ◌++◌, ℕ, arith, length, Float, Format}
use Rattle.float.specs.Choice.{pick}
use Rattle.float.specs.Sign.{finite, all_finite}
use Rattle.float.proofs.Finite.{at-finite, parts_finite, magnitude_finite}
use Rattle.matrix.specs.Owed.{AllFull, Owed}
use Rattle.matrix.specs.Places.{at}
use Rattle.matrix.proofs.Owed.{call_code, call_owed}
use Rattle.jacobi.specs.Blind.{Watched}
use Rattle.jacobi.proofs.Moves.{moved_finite}
use Rattle.jacobi.proofs.Sorted.{below3}
use Rattle.svd.specs.Polar.{blind_sides}
use Rattle.svd.specs.Pairs.{entry}
use Rattle.svd.specs.Order.{signed3_of}
use Rattle.svd.specs.Svd3x3.{State, last_of, refused_svd, factors_of, numbers_of, answer_of, end_of, svd_of, SvdAnswer}
use Rattle.svd.specs.Svd2x2.{sides2_of, factors2_of, refused_svd2, numbers2_of, answer2_of, end2_of, svd2_of, Svd2Answer}
use Rattle.svd.specs.Owed.{svd3_parts, svd2_parts}
use Rattle.svd.proofs.Watched.{ended_of, by_last}
use Rattle.svd.proofs.Sizes.{FullState, last_full, factors_full, factors2_full}
use Rattle.svd.proofs.Moved.{same_permutation}

-- ---- 3x3

values_finite : (s : State) → FullState s → all_finite s.matrix ≡ true → all_finite (factors_of s).values ≡ true
unfolding factors_of
values_finite s h e =
    let l = h.matrix in
    let x = entry s.matrix 0 0 in
    let y = entry s.matrix 1 1 in
    let z = entry s.matrix 2 2 in
    let g = at-finite s.matrix e in
    moved_finite (same_permutation x y z s.u s.v)
    (below3 (λ (c : ℕ). finite (at (signed3_of x y z s.u s.v).values c) ≡ true) (magnitude_finite x (g 0 (omega arith)))
    (magnitude_finite y (g 4 (omega arith))) (magnitude_finite z (g 8 (omega arith))))
    (factors_full s h).values

answer_full : (f : Format) (t : Watched State) → let s = t.state in FullState s → all_finite (numbers_of s) ≡ true → AllFull (svd3_parts (answer_of f t))
answer_full f t h e =
    let s = t.state in
    let w = factors_of s in
    let full = factors_full s h in
    let p = parts_finite s.matrix (w.carried.u ++ w.carried.v) e in
    let q = parts_finite w.carried.u w.carried.v p.1 in
    (full.values, values_finite s h p.0, (full.u, q.0, (full.v, q.1, (h.matrix, p.0, tt))))

module _ (f : Format) (a : List Float) where
  pub svd3_code : (svd_of f a).code ≡ pick (all_finite a) (pick (all_finite (numbers_of (last_of f a))) 0 7) 5
  unfolding end_of
  svd3_code =
      rw (by_last f a) (call_code (λ (r : SvdAnswer). r.code) (refused_svd f) (λ k. refl) a (numbers_of (last_of f a)) (answer_of f (ended_of f a)))

  -- a matrix of the source holds nine numbers
  pub svd3_owed : length a ≡ 9 → Owed (λ (r : SvdAnswer). r.code) (refused_svd f) svd3_parts a (svd_of f a)
  unfolding end_of
  svd3_owed n =
      let t = ended_of f a in
      rw (by_last f a)
      (call_owed (λ (r : SvdAnswer). r.code) (refused_svd f) (λ k. refl) a (numbers_of t.state) (answer_of f t) svd3_parts refl
      (λ _ e. answer_full f t (last_full f a n) e))

-- ---- 2x2

module _ (f : Format) (a : List Float) where
  pub svd2_code : (svd2_of f a).code ≡ pick (all_finite a) (pick (all_finite (numbers2_of (factors2_of (sides2_of f a)))) 0 7) 5
  unfolding svd2_of end2_of
  svd2_code =
      let t = sides2_of f a in
      call_code (λ (r : Svd2Answer). r.code) (refused_svd2 f) (λ k. refl) a (numbers2_of (factors2_of t)) (answer2_of (blind_sides f t) (factors2_of t))

  pub svd2_owed : Owed (λ (r : Svd2Answer). r.code) (refused_svd2 f) svd2_parts a (svd2_of f a)
  unfolding svd2_of end2_of
  svd2_owed =
      let w = factors2_of (sides2_of f a) in
      let full = factors2_full (sides2_of f a) in
      call_owed (λ (r : Svd2Answer). r.code) (refused_svd2 f) (λ k. refl) a (numbers2_of w) (answer2_of (blind_sides f (sides2_of f a)) w) svd2_parts refl
      (λ _ e.
      let p = parts_finite w.values (w.carried.u ++ w.carried.v) e in
      let q = parts_finite w.carried.u w.carried.v p.1 in
      (full.values, p.0, (full.u, q.0, (full.v, q.1, tt))))
