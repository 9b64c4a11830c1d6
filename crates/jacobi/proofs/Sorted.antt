-- Finite values put in order are in order, in either direction: upward a value ranks by its key, a natural number, and downward by the key of its negation; and
-- the least of two or three ranks comes first.
use Rattle.float.proofs.Words.{◌≡◌, Bool, true, not, List, ℕ, zero, suc, ◌≤◌, ◌<◌, arith, Float, neg, lt, le, not-true, not-false}
use Rattle.float.specs.Sign.{finite}
use Rattle.float.proofs.Keys.{key, Within, le-key, key_below, key-not_below, key_rel, keyed}
use Rattle.float.proofs.Negation.{negation}
use Rattle.matrix.specs.Places.{at}
use Rattle.jacobi.specs.Order.{Ranked, ordered, ordered3, ascending, descending}
use Rattle.jacobi.specs.Moved.{Sorted, at_least}
use Rattle.jacobi.proofs.Moves.{nothing_said, ordered_moves, ordered3_moves, each}
use Rattle.jacobi.proofs.Placed.{Ranking, Placed, Placed3, places, places3}

-- ---- the directions, for values with keys

abbrev pub Direction : (Float → Float → Bool) → (Float → Float → Bool) → Type 0
Direction wrong right = (L K : ℕ) → Ranking (Within L K) wrong right

-- the test is strict. Whoever needs the rank itself unfolds the direction.
unfoldable pub upward : Direction ascending le
upward L K = record {
  rank = key L K;
  falls = (λ x y p q e. let l = key_below L K y x q p e in omega arith);
  rises = (λ x y p q e. key-not_below L K y x q p e);
  tells = le-key L K;
}

-- equal values change places too
unfoldable pub upward_ties : Direction (λ (x y : Float). not (lt x y)) le
upward_ties L K = record {
  rank = key L K;
  falls = (λ x y p q e. key-not_below L K x y p q (not-true (lt x y) e));
  rises = (λ x y p q e. let l = key_below L K x y p q (not-false (lt x y) e) in omega arith);
  tells = le-key L K;
}

pub downward : Direction descending at_least
downward L K = record {
  rank = (λ x. key L K (neg x));
  falls = (λ x y p q e. omega (arith, key_below L K x y p q e, key_rel L K (negation x) p, key_rel L K (negation y) q));
  rises = (λ x y p q e. omega (arith, key-not_below L K x y p q e, key_rel L K (negation x) p, key_rel L K (negation y) q));
  tells = (λ x y p q l. le-key L K y x q p (omega (arith, key_rel L K (negation x) p, key_rel L K (negation y) q)));
}

-- ---- ranks that rise

module _ {P : Float → Type 0} {wrong right : Float → Float → Bool} (g : Ranking P wrong right) where
  abbrev pub Rises : ℕ → List Float → Type 0
  Rises n x = (c : ℕ) → suc c < n → g.rank (at x c) ≤ g.rank (at x (suc c))

  two_rise : {x y : List Float} → Placed g 0 1 x y → Rises 2 y
  two_rise p zero l = omega arith
  two_rise p (suc c) l = absurd (omega arith)

  pub three_rise : {x y : List Float} → Placed3 g x y → Rises 3 y
  three_rise p zero l = omega arith
  three_rise p (suc zero) l = omega arith
  three_rise p (suc (suc c)) l = absurd (omega arith)

  by_ranks : (n : ℕ) (x : List Float) → ((c : ℕ) → c < n → P (at x c)) → Rises n x → Sorted right n x
  by_ranks n x p r c l = g.tells (at x c) (at x (suc c)) (p c (omega arith)) (p (suc c) l) (r c l)

-- ---- finite values

pub below2 : (P : ℕ → Type 0) → P 0 → P 1 → (c : ℕ) → c < 2 → P c
below2 P p q zero h = p
below2 P p q (suc zero) h = q
below2 P p q (suc (suc c)) h = absurd (omega arith)

pub below3 : (P : ℕ → Type 0) → P 0 → P 1 → P 2 → (c : ℕ) → c < 3 → P c
below3 P p q r zero h = p
below3 P p q r (suc c) h = below2 (λ (c : ℕ). P (suc c)) q r c (omega arith)

module _ {C : Type 0} {wrong right : Float → Float → Bool} (direction : Direction wrong right) (swap : ℕ → ℕ → C → C) (w : Ranked C) where
  pub sorts2 : ((c : ℕ) → c < 2 → finite (at w.values c) ≡ true) → Sorted right 2 (ordered 2 wrong swap 0 1 w).values
  sorts2 h =
      let none : 0 < 2 = omega arith in
      let one : 1 < 2 = omega arith in
      let k = keyed (at w.values 0) (at w.values 1) (at w.values 1) (h 0 none) (h 1 one) (h 1 one) in
      let g = direction k.L k.K in
      let p = below2 (λ (c : ℕ). Within k.L k.K (at w.values c)) k.one k.two in
      by_ranks g 2 (ordered 2 wrong swap 0 1 w).values (each (ordered_moves (nothing_said 2 swap) wrong 0 1 none one w) (Within k.L k.K) p)
      (two_rise g (places g 2 swap 0 1 none one w k.one k.two))

  pub sorts3 : ((c : ℕ) → c < 3 → finite (at w.values c) ≡ true) → Sorted right 3 (ordered3 3 wrong swap w).values
  sorts3 h =
      let last : 2 < 3 = omega arith in
      let k = keyed (at w.values 0) (at w.values 1) (at w.values 2) (h 0 (omega arith)) (h 1 (omega arith)) (h 2 last) in
      let g = direction k.L k.K in
      let p = below3 (λ (c : ℕ). Within k.L k.K (at w.values c)) k.one k.two k.three in
      by_ranks g 3 (ordered3 3 wrong swap w).values (each (ordered3_moves (nothing_said 3 swap) wrong last w) (Within k.L k.K) p)
      (three_rise g (places3 g 3 swap last w p))
