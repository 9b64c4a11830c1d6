-- Three finite values and their negations are put in opposite orders: as keys, which are natural numbers, values in order are the least, the middle and the
-- greatest, and those of the negations are their mirror images. Where no two are equal a key tells the one place where its value stood, so its column follows.
use Rattle.float.proofs.Words.{◌≡◌, refl, sym, ap, ◌∙◌, true, List, ℕ, ◌+◌, ◌-◌, ◌≤◌, ◌<◌, min, max, arith, Float}
use Rattle.float.proofs.Negation.{Rel}
use Rattle.float.proofs.Keys.{key, Within, key_rel, within_rel, opposite, differ}
use Rattle.matrix.specs.Places.{at}
use Rattle.matrix.specs.Square.{entry_of, exchange_of}
use Rattle.matrix.proofs.Tables.{tabulate-same}
use Rattle.jacobi.specs.Order.{Ranked}
use Rattle.jacobi.proofs.Moves.{each}
use Rattle.jacobi.proofs.Placed.{Placed3, least, middle, greatest, places3}
use Rattle.jacobi.proofs.Sorted.{upward, three_rise, below3}
use Rattle.eigen.specs.Eigen3x3.{rank_of}
use Rattle.eigen.specs.Reversed.{Opposite, AllDiffer, ValuesExchanged, column_of, ColumnsExchanged}
use Rattle.eigen.proofs.Moved.{rank_moves}

-- ---- mirror images: numbers a and a' at one distance either side of K

min-max : (K a b a' b' : ℕ) → a + a' ≡ K + K → b + b' ≡ K + K → min a b + max a' b' ≡ K + K
min-max K a b a' b' p q = omega arith

min_le_max : (a b : ℕ) → min a b ≤ max a b
min_le_max a b = omega arith

between : (K l h c l' h' c' : ℕ) → l ≤ h → l + h' ≡ K + K → l' + h ≡ K + K → c + c' ≡ K + K → min h (max l c) + min h' (max l' c') ≡ K + K
between K l h c l' h' c' o p q r = omega arith

module _ (K a b c a' b' c' : ℕ) (p : a + a' ≡ K + K) (q : b + b' ≡ K + K) (r : c + c' ≡ K + K) where
  low_high : least a b c + greatest a' b' c' ≡ K + K
  low_high = omega arith

  mid_mid : middle a b c + middle a' b' c' ≡ K + K
  mid_mid =
      between K (min a b) (max a b) c (min a' b') (max a' b') c' (min_le_max a b) (min-max K a b a' b' p q)
      (min-max K a' b' a b (omega arith) (omega arith)) r

  high_low : greatest a b c + least a' b' c' ≡ K + K
  high_low = omega arith

-- ---- of three numbers that climb each has one place

one_place : (k : ℕ → ℕ) → k 0 < k 1 → k 1 < k 2 → (c d : ℕ) → c < 3 → d < 3 → k c ≡ k d → c ≡ d
one_place k p q c d h l =
    below3 (λ (c : ℕ). k c ≡ k d → c ≡ d)
    (below3 (λ (d : ℕ). k 0 ≡ k d → 0 ≡ d) (λ e. refl) (λ e. absurd (omega arith)) (λ e. absurd (omega arith)) d l)
    (below3 (λ (d : ℕ). k 1 ≡ k d → 1 ≡ d) (λ e. absurd (omega arith)) (λ e. refl) (λ e. absurd (omega arith)) d l)
    (below3 (λ (d : ℕ). k 2 ≡ k d → 2 ≡ d) (λ e. absurd (omega arith)) (λ e. absurd (omega arith)) (λ e. refl) d l)
    c h

-- ---- three values, and how they are put in order

module _ (L K : ℕ) (w : Ranked (List Float)) (fine : (c : ℕ) → c < 3 → Within L K (at w.values c)) where
  sorted_fine : (c : ℕ) → c < 3 → Within L K (at (rank_of w).values c)
  sorted_fine = each (rank_moves w) (Within L K) fine

  ranks : Placed3 (upward L K) w.values (rank_of w).values
  ranks = places3 (upward L K) 3 (exchange_of 3) (omega arith) w fine

  -- where neighbours differ, keys in order tell the places
  place_of : AllDiffer (rank_of w).values → (c d : ℕ) → c < 3 → d < 3 → key L K (at (rank_of w).values c) ≡ key L K (at (rank_of w).values d) → c ≡ d
  unfolding upward
  place_of n =
      let v = (rank_of w).values in
      let rise = three_rise (upward L K) ranks in
      let p = differ L K (at v 0) (at v 1) (sorted_fine 0 (omega arith)) (sorted_fine 1 (omega arith)) n.0 in
      let q = differ L K (at v 1) (at v 2) (sorted_fine 1 (omega arith)) (sorted_fine 2 (omega arith)) n.1 in
      one_place (λ (c : ℕ). key L K (at v c)) (omega (arith, rise 0 (omega arith))) (omega (arith, rise 1 (omega arith)))

-- ---- the values of w' are those of w, negated

module _ (L K : ℕ) (w w' : Ranked (List Float)) (fine : (c : ℕ) → c < 3 → Within L K (at w.values c))
    (negated : (c : ℕ) → c < 3 → Rel true (at w.values c) (at w'.values c)) where
  fine' : (c : ℕ) → c < 3 → Within L K (at w'.values c)
  fine' c h = within_rel L K (negated c h) (fine c h)

  mirror : (c : ℕ) → c < 3 → key L K (at w.values c) + key L K (at w'.values c) ≡ K + K
  mirror c h = key_rel L K (negated c h) (fine c h)

  sorted_mirror : (c : ℕ) → c < 3 → key L K (at (rank_of w).values c) + key L K (at (rank_of w').values (2 - c)) ≡ K + K
  unfolding upward
  sorted_mirror =
      let p = ranks L K w fine in
      let q = ranks L K w' fine' in
      let i = mirror 0 (omega arith) in
      let j = mirror 1 (omega arith) in
      let k = mirror 2 (omega arith) in
      below3 (λ (c : ℕ). key L K (at (rank_of w).values c) + key L K (at (rank_of w').values (2 - c)) ≡ K + K)
      (cc (p.low, q.high, low_high K _ _ _ _ _ _ i j k))
      (cc (p.mid, q.mid, mid_mid K _ _ _ _ _ _ i j k))
      (cc (p.high, q.low, high_low K _ _ _ _ _ _ i j k))

  pub values_reversed : ValuesExchanged (rank_of w).values (rank_of w').values
  values_reversed = (opposed 0 (omega arith), opposed 1 (omega arith), opposed 2 (omega arith))
    where
      opposed : (c : ℕ) → c < 3 → Opposite (at (rank_of w).values c) (at (rank_of w').values (2 - c))
      opposed c h = opposite L K _ _ (sorted_fine L K w fine c h) (sorted_fine L K w' fine' (2 - c) (omega arith)) (sorted_mirror c h)

  -- With the same columns: the value at 2 - c of w' stood at d, and so did the value at c of w, whose key is the mirror image.
  column_same : w.carried ≡ w'.carried → AllDiffer (rank_of w).values → (c : ℕ) → c < 3
      → column_of (rank_of w).carried c ≡ column_of (rank_of w').carried (2 - c)
  column_same same n c h =
      let m = rank_moves w in
      let m' = rank_moves w' in
      let l : 2 - c < 3 = omega arith in
      let d = m'.by.to (2 - c) in
      let d-below = m'.by.to_below (2 - c) l in
      let b = m.by.back d in
      let b-below = m.by.back_below d d-below in
      let at_b = ap (key L K) (m.values b b-below ∙ ap (at w.values) (m.by.to_back d)) in
      let at-d = ap (key L K) (m'.values (2 - c) l) in
      let stood : m.by.to c ≡ d =
      ap m.by.to (place_of L K w fine n c b h b-below (omega (arith, sorted_mirror c h, mirror d d-below))) ∙ m.by.to_back d in
      tabulate-same 3 _ _
      (λ r k. m.carried r c k h ∙ ap (entry_of 3 w.carried r) stood ∙ ap (λ (v : List Float). entry_of 3 v r d) same ∙ sym (m'.carried r (2 - c) k l))

  pub columns_reversed : w.carried ≡ w'.carried → AllDiffer (rank_of w).values → ColumnsExchanged (rank_of w).carried (rank_of w').carried
  columns_reversed same n = (column_same same n 0 (omega arith), column_same same n 1 (omega arith), column_same same n 2 (omega arith))
