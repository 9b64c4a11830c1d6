-- Putting values in order only moves them: an exchange of two places is undone by itself, what is carried makes the same exchange, and what two moves do is
-- again one.
use Rattle.float.proofs.Words.{◌≡◌, refl, ap, ◌∙◌, subst, subst⁻¹, Bool, true, List, ℕ, ◌*◌, ◌<◌, arith, length, Float}
use Rattle.float.specs.Sign.{finite, all_finite}
use Rattle.float.proofs.Choice.{chosen}
use Rattle.float.proofs.Finite.{at-finite, finite_together}
use Rattle.matrix.specs.Places.{at}
use Rattle.matrix.specs.Square.{entry_of, exchanged, exchange_of}
use Rattle.matrix.proofs.Tables.{at-tabulate, tabulate_all, table-finite}
use Rattle.matrix.proofs.Moves.{entry_of_lem, entry-finite, entries_finite, exchanged_below, exchanged_twice}
use Rattle.jacobi.specs.Order.{Ranked, swapped, ordered, ordered3}
use Rattle.jacobi.specs.Moved.{Permutation, Moved, ColumnsFollow}

-- ---- permutations: none, one after another, an exchange

abbrev pub same : (n : ℕ) → Permutation n
same n = record { to = (λ c. c); back = (λ c. c); to_below = (λ c h. h); back_below = (λ c h. h); to_back = (λ c. refl); back_to = (λ c. refl) }

abbrev pub composed : {n : ℕ} → Permutation n → Permutation n → Permutation n
composed g h = record {
  to = (λ c. g.to (h.to c));
  back = (λ c. h.back (g.back c));
  to_below = (λ c l. g.to_below (h.to c) (h.to_below c l));
  back_below = (λ c l. h.back_below (g.back c) (g.back_below c l));
  to_back = (λ c. ap g.to (h.to_back (g.back c)) ∙ g.to_back c);
  back_to = (λ c. ap h.back (g.back_to (h.to c)) ∙ h.back_to c);
}

abbrev pub exchange : {n : ℕ} (i j : ℕ) → i < n → j < n → Permutation n
exchange i j p q = record {
  to = exchanged i j;
  back = exchanged i j;
  to_below = (λ c l. exchanged_below i j c p q l);
  back_below = (λ c l. exchanged_below i j c p q l);
  to_back = exchanged_twice i j;
  back_to = exchanged_twice i j;
}

-- ---- what is carried follows each of them

pub record Carries {C : Type 0} (n : ℕ) (swap : ℕ → ℕ → C → C) (Follows : Permutation n → C → C → Type 0) : Type 0 where
  pub unmoved : (x : C) → Follows (same n) x x
  pub swaps : (i j : ℕ) (p : i < n) (q : j < n) (x : C) → Follows (exchange i j p q) x (swap i j x)
  pub then : (g h : Permutation n) (x y z : C) → Follows g x y → Follows h y z → Follows (composed g h) x z

pub columns_carried : (n : ℕ) → Carries n (exchange_of n) (ColumnsFollow n)
columns_carried n = record {
  unmoved = (λ x r c k l. refl);
  swaps = (λ i j p q x. entry_of_lem n (λ (r c : ℕ). entry_of n x r (exchanged i j c)));
  then = (λ g h x y z p q r c k l. q r c k l ∙ p r (h.to c) k (h.to_below c l));
}

-- nothing is said of what is carried
pub nothing_said : {C : Type 0} (n : ℕ) (swap : ℕ → ℕ → C → C) → Carries n swap (λ (g : Permutation n) (x y : C). Unit {0})
nothing_said n swap = record { unmoved = (λ x. tt); swaps = (λ i j p q x. tt); then = (λ g h x y z p q. tt) }

-- ---- the order, by any test, is a move

module _ {C : Type 0} {n : ℕ} {swap : ℕ → ℕ → C → C} {Follows : Permutation n → C → C → Type 0} (carries : Carries n swap Follows) where
  after : {x y z : Ranked C} → Moved n Follows x y → Moved n Follows y z → Moved n Follows x z
  after {x} {y} {z} p q =
      let h = q.by in
      record {
        by = composed p.by h;
        values = (λ c l. q.values c l ∙ p.values (h.to c) (h.to_below c l));
        carried = carries.then p.by h x.carried y.carried z.carried p.carried q.carried;
      }

  module _ (wrong : Float → Float → Bool) where
    pub ordered_moves : (i j : ℕ) → i < n → j < n → (w : Ranked C) → Moved n Follows w (ordered n wrong swap i j w)
    unfolding ordered
    ordered_moves i j p q w =
        chosen (Moved n Follows w) (wrong (at w.values i) (at w.values j)) (swapped n wrong swap i j w) w
        (record {
          by = exchange i j p q;
          values = at-tabulate n (λ (c : ℕ). at w.values (exchanged i j c));
          carried = carries.swaps i j p q w.carried;
        })
        (record { by = same n; values = (λ c l. refl); carried = carries.unmoved w.carried })

    pub ordered3_moves : 2 < n → (w : Ranked C) → Moved n Follows w (ordered3 n wrong swap w)
    ordered3_moves h w =
        after (after (ordered_moves 0 1 (omega arith) (omega arith) w) (ordered_moves 0 2 (omega arith) h _)) (ordered_moves 1 2 (omega arith) h _)

-- ---- what holds of each value holds of each after a move, and before it

module _ {C : Type 0} {n : ℕ} {Follows : Permutation n → C → C → Type 0} {x y : Ranked C} (m : Moved n Follows x y) (P : Float → Type 0) where
  pub each : ((c : ℕ) → c < n → P (at x.values c)) → (c : ℕ) → c < n → P (at y.values c)
  each h c l = subst⁻¹ P (m.values c l) (h (m.by.to c) (m.by.to_below c l))

  pub each_before : ((c : ℕ) → c < n → P (at y.values c)) → (c : ℕ) → c < n → P (at x.values c)
  each_before h c l =
      let b = m.by.back c in
      let k = m.by.back_below c l in
      subst P (m.values b k ∙ ap (at x.values) (m.by.to_back c)) (h b k)

-- ---- values that are all finite are so after a move

module _ {C : Type 0} {n : ℕ} {Follows : Permutation n → C → C → Type 0} {x y : Ranked C} (m : Moved n Follows x y) where
  pub moved_finite : ((c : ℕ) → c < n → finite (at x.values c) ≡ true) → length y.values ≡ n → all_finite y.values ≡ true
  moved_finite h e = rw (← tabulate_all n y.values e) (table-finite n (at y.values) (each m (λ (v : Float). finite v ≡ true) h))

  -- and where they were before, exactly
  pub values_finite : length x.values ≡ n → length y.values ≡ n → all_finite x.values ≡ all_finite y.values
  values_finite before after =
      finite_together x.values y.values (λ e. moved_finite (λ c l. at-finite x.values e c (rw before l)) after)
      (λ e. rw (← tabulate_all n x.values before)
      (table-finite n (at x.values) (each_before m (λ (v : Float). finite v ≡ true) (λ c l. at-finite y.values e c (rw after l)))))

-- ---- columns are finite after a move exactly where they were before

module _ {n : ℕ} {x y : Ranked (List Float)} (m : Moved n (ColumnsFollow n) x y)
    (before : length x.carried ≡ n * n) (after : length y.carried ≡ n * n) where
  pub columns-finite : all_finite x.carried ≡ all_finite y.carried
  columns-finite =
      finite_together x.carried y.carried
      (λ e. entries_finite n y.carried after (λ r c k l.
      subst⁻¹ (λ (v : Float). finite v ≡ true) (m.carried r c k l) (entry-finite n x.carried before e r (m.by.to c) k (m.by.to_below c l))))
      (λ e. entries_finite n x.carried before (λ r c k l.
      let b = m.by.back c in
      let h = m.by.back_below c l in
      subst (λ (v : Float). finite v ≡ true) (m.carried r b k h ∙ ap (entry_of n x.carried r) (m.by.to_back c))
      (entry-finite n y.carried after e r b k h)))

-- ---- what an exchange keeps the order keeps

module _ {C : Type 0} (n : ℕ) (wrong : Float → Float → Bool) (swap : ℕ → ℕ → C → C) (P : Ranked C → Type 0)
    (kept : (i j : ℕ) (w : Ranked C) → P w → P (swapped n wrong swap i j w)) where
  pub ordered_keeps : (i j : ℕ) (w : Ranked C) → P w → P (ordered n wrong swap i j w)
  unfolding ordered
  ordered_keeps i j w p = chosen P (wrong (at w.values i) (at w.values j)) (swapped n wrong swap i j w) w (kept i j w p) p

  pub ordered3_keeps : (w : Ranked C) → P w → P (ordered3 n wrong swap w)
  ordered3_keeps w p = ordered_keeps 1 2 _ (ordered_keeps 0 2 _ (ordered_keeps 0 1 w p))
