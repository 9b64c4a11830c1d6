-- The scaled way goes with negation: a matrix and its negation have the same largest magnitude and so the same power of two, what divides them leaves one the
-- negation of the other, and what multiplies the values back keeps equal numbers equal and is finite for a number and for its negation, or for neither.
use Rattle.float.proofs.Words.{◌≡◌, sym, ap, ◌∙◌, true, true≢false, List, map, ℕ, ◌≤◌, ◌<◌, ℤ}
use Rattle.float.proofs.Words.{Float, Format, neg, eq}
use Rattle.float.specs.Sign.{magnitude_of, finite}
use Rattle.float.specs.Scaled.{times_power, power_under, power_of}
use Rattle.float.proofs.Choice.{so_or_not}
use Rattle.float.proofs.Finite.{finite-neg}
use Rattle.float.proofs.Negation.{negation, magnitude_rel}
use Rattle.float.proofs.Scaling.{scaled_neg, scaled_eq, equal_together}
use Rattle.float.proofs.Power.{largest-same}
use Rattle.matrix.specs.Places.{at, negated_of}
use Rattle.matrix.proofs.Tables.{at-tabulate, tabulate-same, first_tabulate, map-tabulate}
use Rattle.eigen.specs.Reversed.{Opposite, Differ}
use Rattle.kinds.specs.Work.{first_of}
use Rattle.kinds.specs.Ways.{times_all}

-- ---- before: y has the first n numbers of x, negated

module _ (f : Format) (n : ℕ) (most : n ≤ 9) (x y : List Float) (minus : first_of n y ≡ negated_of n (first_of n x)) where
  at-minus : (i : ℕ) → i < n → at y i ≡ neg (at x i)
  at-minus i l =
      sym (at-tabulate n (at y) i l) ∙ ap (λ (z : List Float). at z i) minus ∙ at-tabulate n _ i l ∙ ap neg (at-tabulate n (at x) i l)

  same_sizes : map magnitude_of (first_of n y) ≡ map magnitude_of (first_of n x)
  same_sizes =
      sym (map-tabulate n magnitude_of (at y))
      ∙ tabulate-same n _ _ (λ i l. ap magnitude_of (at-minus i l) ∙ sym (magnitude_rel (negation (at x i))))
      ∙ map-tabulate n magnitude_of (at x)

  pub power-minus : power_of f (first_of n y) ≡ power_of f (first_of n x)
  power-minus = ap power_under (largest-same f (first_of n y) (first_of n x) same_sizes)

  pub times_minus : (k : ℤ) → first_of n (times_all f k 9 y) ≡ negated_of n (first_of n (times_all f k 9 x))
  times_minus k =
      first_tabulate n 9 (λ (i : ℕ). times_power f k (at y i)) most
      ∙ tabulate-same n _ _ (λ i l.
      ap (times_power f k) (at-minus i l) ∙ scaled_neg f k (at x i)
      ∙ ap neg (sym (at-tabulate n (λ (i : ℕ). times_power f k (at x i)) i l) ∙ ap (λ (z : List Float). at z i) (sym (first_tabulate n 9 _ most))))

-- ---- after: numbers that are equal, or opposite

module _ (f : Format) (k : ℤ) where
  pub opposite_together : (x y : Float) → finite x ≡ true → finite y ≡ true → Opposite x y → finite (times_power f k x) ≡ finite (times_power f k y)
  opposite_together x y p q e =
      equal_together f k x (neg y) p (finite-neg y ∙ q) e ∙ ap finite (scaled_neg f k y) ∙ finite-neg (times_power f k y)

  pub opposite_times : (x y : Float) → finite x ≡ true → finite (times_power f k x) ≡ true → Opposite x y → Opposite (times_power f k x) (times_power f k y)
  opposite_times x y p t e = rw (← scaled_neg f k y) (scaled_eq f k x (neg y) p t e)

  -- what differs after differed before
  pub differ_before : (x y : Float) → finite x ≡ true → finite (times_power f k x) ≡ true → Differ (times_power f k x) (times_power f k y) → Differ x y
  differ_before x y p t d = so_or_not (eq x y) (λ e. absurd (true≢false (sym (scaled_eq f k x y p t e) ∙ d))) (λ e. e)
