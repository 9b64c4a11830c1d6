-- Where the test of the wrong order goes by a rank, an exchange of two places leaves the lower rank at the first and the higher at the second; so three
-- exchanges leave the least, the middle and the greatest of three ranks. No value depends on what is carried, since the tests read values alone.
use Rattle.float.proofs.Words.{◌≡◌, refl, sym, ap, ◌∙◌, Bool, true, false, List, ℕ, ◌≤◌, ◌<◌, min, max, arith, Float}
use Rattle.float.specs.Choice.{pick}
use Rattle.float.proofs.Choice.{chosen, by_test}
use Rattle.matrix.specs.Places.{at, tabulate}
use Rattle.matrix.specs.Square.{exchanged}
use Rattle.matrix.proofs.Tables.{at-tabulate}
use Rattle.matrix.proofs.Moves.{at_first, at_second}
use Rattle.jacobi.specs.Order.{Ranked, swapped, ordered, ordered3}
use Rattle.jacobi.proofs.Moves.{nothing_said, ordered_moves, each}

-- ---- what is carried does not matter

module _ (n : ℕ) (wrong : Float → Float → Bool) where
  abbrev ordered_values : ℕ → ℕ → List Float → List Float
  ordered_values i j x = pick (wrong (at x i) (at x j)) (tabulate n (λ (c : ℕ). at x (exchanged i j c))) x

  module _ {C : Type 0} (swap : ℕ → ℕ → C → C) where
    ordered_values_lem : (i j : ℕ) (w : Ranked C) → (ordered n wrong swap i j w).values ≡ ordered_values i j w.values
    unfolding ordered
    ordered_values_lem i j w =
        let test = wrong (at w.values i) (at w.values j) in
        by_test (λ (v : Ranked C). v.values ≡ ordered_values i j w.values) test (swapped n wrong swap i j w) w (λ e. rw e) (λ e. rw e)

    ordered3_values : (w : Ranked C) → (ordered3 n wrong swap w).values ≡ ordered_values 1 2 (ordered_values 0 2 (ordered_values 0 1 w.values))
    ordered3_values w = rw (ordered_values_lem 1 2, ordered_values_lem 0 2, ordered_values_lem 0 1)

  pub values_alone : {C D : Type 0} (swap : ℕ → ℕ → C → C) (swap' : ℕ → ℕ → D → D) (w : Ranked C) (w' : Ranked D) → w.values ≡ w'.values
      → (ordered3 n wrong swap w).values ≡ (ordered3 n wrong swap' w').values
  values_alone swap swap' w w' e =
      ordered3_values swap w ∙ ap (λ (x : List Float). ordered_values 1 2 (ordered_values 0 2 (ordered_values 0 1 x))) e ∙ sym (ordered3_values swap' w')

-- ---- a rank of the values of which P holds: `wrong` is told by it, and it tells what is right

pub record Ranking (P : Float → Type 0) (wrong right : Float → Float → Bool) : Type 0 where
  pub rank : Float → ℕ
  pub falls : (x y : Float) → P x → P y → wrong x y ≡ true → rank y ≤ rank x
  pub rises : (x y : Float) → P x → P y → wrong x y ≡ false → rank x ≤ rank y
  pub tells : (x y : Float) → P x → P y → rank x ≤ rank y → right x y ≡ true

-- of three numbers, in the order of the comparisons
abbrev pub least : ℕ → ℕ → ℕ → ℕ
least a b c = min (min a b) c

abbrev pub middle : ℕ → ℕ → ℕ → ℕ
middle a b c = min (max a b) (max (min a b) c)

abbrev pub greatest : ℕ → ℕ → ℕ → ℕ
greatest a b c = max (max a b) (max (min a b) c)

module _ {P : Float → Type 0} {wrong right : Float → Float → Bool} (g : Ranking P wrong right) where
  -- the lower rank at i, the higher at j
  pub record Placed (i j : ℕ) (x y : List Float) : Type 0 where
    pub lower : g.rank (at y i) ≡ min (g.rank (at x i)) (g.rank (at x j))
    pub higher : g.rank (at y j) ≡ max (g.rank (at x i)) (g.rank (at x j))

  -- the ranks of three values in order, from those before
  pub record Placed3 (x y : List Float) : Type 0 where
    pub low : g.rank (at y 0) ≡ least (g.rank (at x 0)) (g.rank (at x 1)) (g.rank (at x 2))
    pub mid : g.rank (at y 1) ≡ middle (g.rank (at x 0)) (g.rank (at x 1)) (g.rank (at x 2))
    pub high : g.rank (at y 2) ≡ greatest (g.rank (at x 0)) (g.rank (at x 1)) (g.rank (at x 2))

  module _ {C : Type 0} (n : ℕ) (swap : ℕ → ℕ → C → C) where
    module _ (i j : ℕ) (first : i < n) (second : j < n) (w : Ranked C) where
      -- what stands at c stood at d
      from : (c : ℕ) → c < n → {d : ℕ} → exchanged i j c ≡ d → at (swapped n wrong swap i j w).values c ≡ at w.values d
      from c h e = at-tabulate n (λ (c : ℕ). at w.values (exchanged i j c)) c h ∙ ap (at w.values) e

      pub places : P (at w.values i) → P (at w.values j) → Placed i j w.values (ordered n wrong swap i j w).values
      unfolding ordered
      places p q =
          let x = at w.values i in
          let y = at w.values j in
          by_test (λ (v : Ranked C). Placed i j w.values v.values) (wrong x y) (swapped n wrong swap i j w) w
          (λ e.
          let l = g.falls x y p q e in
          let a = ap g.rank (from i first (at_first i j)) in
          let b = ap g.rank (from j second (at_second i j)) in
          record { lower = omega arith; higher = omega arith })
          (λ e. let l = g.rises x y p q e in record { lower = omega arith; higher = omega arith })

      -- a third place keeps its value
      keeps : (c : ℕ) → c < n → exchanged i j c ≡ c → at (ordered n wrong swap i j w).values c ≡ at w.values c
      unfolding ordered
      keeps c h e =
          chosen (λ (v : Ranked C). at v.values c ≡ at w.values c) (wrong (at w.values i) (at w.values j)) (swapped n wrong swap i j w) w
          (from c h e) refl

    pub places3 : 2 < n → (w : Ranked C) → ((c : ℕ) → c < n → P (at w.values c)) → Placed3 w.values (ordered3 n wrong swap w).values
    places3 h w p =
        let s = nothing_said n swap in
        let one : 1 < n = omega arith in
        let none : 0 < n = omega arith in
        let x = ordered n wrong swap 0 1 w in
        let y = ordered n wrong swap 0 2 x in
        let q = each (ordered_moves s wrong 0 1 none one w) P p in
        let r = each (ordered_moves s wrong 0 2 none h x) P q in
        let a = places 0 1 none one w (p 0 none) (p 1 one) in
        let b = places 0 2 none h x (q 0 none) (q 2 h) in
        let c = places 1 2 one h y (r 1 one) (r 2 h) in
        let d = ap g.rank (keeps 0 1 none one w 2 h refl) in
        let e = ap g.rank (keeps 0 2 none h x 1 one refl) in
        let f = ap g.rank (keeps 1 2 one h y 0 none refl) in
        record {
          low = cc (a.lower, b.lower, d, f);
          mid = cc (a.lower, a.higher, b.higher, c.lower, d, e);
          high = cc (a.lower, a.higher, b.higher, c.higher, d, e);
        }
