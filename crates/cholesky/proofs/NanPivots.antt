-- On finite numbers a NaN can only come of a zero times an infinity. A quotient by a root is a number; its square has no sign, and taken off a number it leaves
-- one below +infinity. If that is above zero the quotient is finite, since the square of an infinity leaves -infinity. So of all products only L21 * L31 can
-- have an infinity in it.
use Rattle.float.proofs.Words.{◌≡◌, refl, sym, ap, ◌∙◌, Bool, true, false, true≢false, ◌&&◌, ◌||◌, List, ⊎_elim, ℕ, ◌<◌, arith, length, T, Float, inf, Format}
use Rattle.float.proofs.Words.{sub, mul, eq, lt, le, is_nan, fits}
use lib.Ieee.Fits.{sub-fits}
use lib.Ieee.Positive.{positive}
use Rattle.float.specs.Constants.{zero_f}
use Rattle.float.specs.Exactly.{Exactly}
use Rattle.float.specs.Root.{root_of}
use Rattle.float.specs.Sign.{finite, infinite, all_finite}
use Rattle.float.proofs.Choice.{so_or_not, neither}
use Rattle.float.proofs.Finite.{both_true, at-finite}
use Rattle.float.proofs.Invalid.{nan_square, nan_taken_off, square_unsigned, square_infinite, sub_below, sub_infinity, minus_infinity_stays}
use Rattle.float.proofs.Invalid.{minus_infinity_low, below_infinity_number, above_zero, root_positive, positive_is_finite, finite_below, quotient_nan}
use Rattle.float.proofs.Invalid.{difference_nan, product_nan, number-finite, nan_not_at_most, one_of_three}
use Rattle.float.proofs.Under.{finite_no_nan}
use Rattle.matrix.specs.Places.{at, Fit}
use Rattle.cholesky.specs.Factor.{steps2_of, steps3_of}
use Rattle.cholesky.specs.Pivot.{pivot_of}
use Rattle.cholesky.specs.Pivots.{l11_of, l21_of, second_of, l22_of, l31_of, l32_of, third_of, pivots2_of, pivots3_of, one, one_at_most_zero, one_nan}
use Rattle.cholesky.specs.NanPivot.{NanThird}

-- ---- a square taken off x, which is below +infinity

module _ (f : Format) (x q : Float) (fit : T (fits f x)) (below : lt x (inf false) ≡ true) where
  abbrev left : Float
  left = sub f x (mul f q q)

  left_below : is_nan q ≡ false → lt left (inf false) ≡ true
  left_below n = let s = square_unsigned f q n in sub_below f x (mul f q q) fit below s.0 s.1

  left-nan : is_nan left ≡ is_nan q
  left-nan =
      so_or_not (is_nan q) (λ n. nan_taken_off f x (mul f q q) (nan_square f q n) ∙ sym n) (λ n. below_infinity_number left (left_below n) ∙ sym n)

  module _ (n : is_nan q ≡ false) (h : le left (zero_f f) ≡ false) where
    left_positive : T (positive left)
    left_positive = above_zero f left (left_below n) h

    not_low : left ≡ inf true → ⊥
    not_low e = true≢false (sym (ap (λ (y : Float). le y (zero_f f)) e ∙ minus_infinity_low f) ∙ h)

    -- q is finite, and x is no -infinity
    left-finite : finite q ≡ true
    left-finite =
        number-finite q n
        (so_or_not (infinite q) (λ i. absurd (not_low (ap (sub f x) (square_infinite f q i) ∙ sub_infinity f x below))) (λ i. i))

    left_of_lem : x ≡ inf true → ⊥
    left_of_lem e =
        let s = square_unsigned f q n in
        not_low (ap (λ (y : Float). sub f y (mul f q q)) e ∙ minus_infinity_stays f (mul f q q) s.0 s.1)

-- ---- finite numbers: the first column, and the second pivot

abbrev Finite : ℕ → List Float → Type 0
Finite n a = (i : ℕ) → i < n → finite (at a i) ≡ true

module _ (f : Format) (a : List Float) (fit : Fit f 3 a) (fin : Finite 3 a) where
  module _ (first : le (at a 0) (zero_f f) ≡ false) where
    l11_positive : T (positive (l11_of f a))
    l11_positive = root_positive f (at a 0) (fit 0 (omega arith)) (above_zero f (at a 0) (finite_below (at a 0) (fin 0 (omega arith))) first)

    pub l21_number : is_nan (l21_of f a) ≡ false
    l21_number = quotient_nan f (at a 1) (l11_of f a) l11_positive ∙ finite_no_nan (at a 1) (fin 1 (omega arith))

    pub second_number : is_nan (second_of f a) ≡ false
    second_number = left-nan f (at a 2) (l21_of f a) (fit 2 (omega arith)) (finite_below (at a 2) (fin 2 (omega arith))) ∙ l21_number

    module _ (second : le (second_of f a) (zero_f f) ≡ false) where
      l21_finite : finite (l21_of f a) ≡ true
      l21_finite = left-finite f (at a 2) (l21_of f a) (fit 2 (omega arith)) (finite_below (at a 2) (fin 2 (omega arith))) l21_number second

      l22_positive : T (positive (l22_of f a))
      l22_positive =
          root_positive f (second_of f a) (sub-fits f _ _)
          (left_positive f (at a 2) (l21_of f a) (fit 2 (omega arith)) (finite_below (at a 2) (fin 2 (omega arith))) l21_number second)

-- ---- the third pivot

module _ (f : Format) (a : List Float) (fit : Fit f 6 a) (fin : Finite 6 a)
    (first : le (at a 0) (zero_f f) ≡ false) (second : le (second_of f a) (zero_f f) ≡ false) where
  fit3 : Fit f 3 a
  fit3 i l = fit i (omega arith)

  fin3 : Finite 3 a
  fin3 i l = fin i (omega arith)

  pub l31_number : is_nan (l31_of f a) ≡ false
  l31_number = quotient_nan f (at a 3) (l11_of f a) (l11_positive f a fit3 fin3 first) ∙ finite_no_nan (at a 3) (fin 3 (omega arith))

  abbrev less : Float
  less = sub f (at a 5) (mul f (l31_of f a) (l31_of f a))

  less_below : lt less (inf false) ≡ true
  less_below = left_below f (at a 5) (l31_of f a) (fit 5 (omega arith)) (finite_below (at a 5) (fin 5 (omega arith))) l31_number

  pub l32_nan : is_nan (third_of f a) ≡ is_nan (l32_of f a)
  l32_nan = left-nan f less (l32_of f a) (sub-fits f _ _) less_below

  pub third_nan : is_nan (third_of f a) ≡ eq (l21_of f a) (zero_f f) && infinite (l31_of f a)
  third_nan =
      l32_nan ∙ quotient_nan f _ (l22_of f a) (l22_positive f a fit3 fin3 first second)
      ∙ difference_nan f (at a 4) (mul f (l21_of f a) (l31_of f a)) (fin 4 (omega arith))
      ∙ product_nan f (l21_of f a) (l31_of f a) (l21_finite f a fit3 fin3 first second) l31_number

  module _ (third : le (third_of f a) (zero_f f) ≡ false) (number : is_nan (third_of f a) ≡ false) where
    l32_number : is_nan (l32_of f a) ≡ false
    l32_number = sym l32_nan ∙ number

    l31_finite : finite (l31_of f a) ≡ true
    l31_finite =
        number-finite (l31_of f a) l31_number
        (so_or_not (infinite (l31_of f a))
        (λ i. absurd (left_of_lem f less (l32_of f a) (sub-fits f _ _) less_below l32_number third
        (ap (sub f (at a 5)) (square_infinite f (l31_of f a) i) ∙ sub_infinity f (at a 5) (finite_below (at a 5) (fin 5 (omega arith))))))
        (λ i. i))

    l32_finite : finite (l32_of f a) ≡ true
    l32_finite = left-finite f less (l32_of f a) (sub-fits f _ _) less_below l32_number third

    l33_positive : T (positive (root_of f (third_of f a)))
    l33_positive = root_positive f (third_of f a) (sub-fits f _ _) (left_positive f less (l32_of f a) (sub-fits f _ _) less_below l32_number third)

-- ---- where no pivot is at most zero

two_false : (a b : Bool) → a || (b || false) ≡ false → (a ≡ false) × (b ≡ false)
two_false a b e = let n = neither a (b || false) e in (n.0, (neither b false n.1).0)

three_false : (a b c : Bool) → a || (b || (c || false)) ≡ false → (a ≡ false) × (b ≡ false) × (c ≡ false)
three_false a b c e = let n = neither a (b || (c || false)) e in let m = two_false b c n.1 in (n.0, m.0, m.1)

last_one : (b : Bool) → b || false ≡ b
last_one true = refl
last_one false = refl

numbers : (n : ℕ) (a : List Float) → length a ≡ n → all_finite a ≡ true → Finite n a
numbers n a e h i l = at-finite a h i (omega arith)

-- of the 2x2: none is NaN, and the factor is finite
module _ (f : Format) (a : List Float) (fit : Fit f 3 a) (size : length a ≡ 3) (fin : all_finite a ≡ true) (low : one_at_most_zero f (pivots2_of f a) ≡ false)
  where
    none_low2 : (le (at a 0) (zero_f f) ≡ false) × (le (second_of f a) (zero_f f) ≡ false)
    unfolding one
    none_low2 = two_false (le (at a 0) (zero_f f)) (le (second_of f a) (zero_f f)) low

    each_number2 : (is_nan (at a 0) ≡ false) × (is_nan (second_of f a) ≡ false)
    each_number2 = let h = numbers 3 a size fin in (finite_no_nan (at a 0) (h 0 (omega arith)), second_number f a fit h none_low2.0)

    pub no_nan2 : one_nan (pivots2_of f a) ≡ false
    unfolding one
    no_nan2 = rw (each_number2.0, each_number2.1)

    pub whole2_finite : (l : List Float) → all_finite (steps2_of f l a).factor ≡ true
    unfolding steps2_of pivot_of all_finite
    whole2_finite l =
        let h = numbers 3 a size fin in
        let p = none_low2 in
        rw (p.0, each_number2.0, p.1, each_number2.1)
        (rw (
          positive_is_finite (l11_of f a) (l11_positive f a fit h p.0),
          l21_finite f a fit h p.0 p.1,
          positive_is_finite (l22_of f a) (l22_positive f a fit h p.0 p.1),
        ))

-- of the 3x3: the third alone can be NaN, and if it is not, the factor is finite
module _ (f : Format) (a : List Float) (fit : Fit f 6 a) (size : length a ≡ 6) (fin : all_finite a ≡ true) (low : one_at_most_zero f (pivots3_of f a) ≡ false)
  where
    none_low3 : (le (at a 0) (zero_f f) ≡ false) × (le (second_of f a) (zero_f f) ≡ false) × (le (third_of f a) (zero_f f) ≡ false)
    unfolding one
    none_low3 = three_false (le (at a 0) (zero_f f)) (le (second_of f a) (zero_f f)) (le (third_of f a) (zero_f f)) low

    each_number3 : (is_nan (at a 0) ≡ false) × (is_nan (second_of f a) ≡ false)
    each_number3 =
        let h = numbers 6 a size fin in
        (finite_no_nan (at a 0) (h 0 (omega arith)), second_number f a (λ i l. fit i (omega arith)) (λ i l. h i (omega arith)) none_low3.0)

    third_alone : one_nan (pivots3_of f a) ≡ is_nan (third_of f a)
    unfolding one
    third_alone = rw (each_number3.0, each_number3.1) (last_one (is_nan (third_of f a)))

    pub nan3 : one_nan (pivots3_of f a) ≡ eq (l21_of f a) (zero_f f) && infinite (l31_of f a)
    nan3 = third_alone ∙ third_nan f a fit (numbers 6 a size fin) none_low3.0 none_low3.1

    pub whole3_finite : one_nan (pivots3_of f a) ≡ false → (l : List Float) → all_finite (steps3_of f l a).factor ≡ true
    unfolding steps3_of pivot_of all_finite
    whole3_finite none l =
        let h = numbers 6 a size fin in
        let t = fit3 f a fit h none_low3.0 none_low3.1 in
        let j = fin3 f a fit h none_low3.0 none_low3.1 in
        let p = none_low3 in
        let n : is_nan (third_of f a) ≡ false = sym third_alone ∙ none in
        rw (p.0, each_number3.0, p.1, each_number3.1)
        (rw (p.2, n)
        (rw (
          positive_is_finite (l11_of f a) (l11_positive f a t j p.0),
          l21_finite f a t j p.0 p.1,
          positive_is_finite (l22_of f a) (l22_positive f a t j p.0 p.1),
          l31_finite f a fit h p.0 p.1 p.2 n,
          l32_finite f a fit h p.0 p.1 p.2 n,
          positive_is_finite (root_of f (third_of f a)) (l33_positive f a fit h p.0 p.1 p.2 n),
        )))

-- ---- a third pivot that is NaN

above : (f : Format) (x : Float) → le x (zero_f f) ≡ false → is_nan x ≡ false → lt (zero_f f) x ≡ true
above f x e n =
    ⊎_elim (λ h. h.0) (⊎_elim (λ h. absurd (true≢false (sym h.1 ∙ e))) (λ h. absurd (true≢false (sym h.2 ∙ n)))) (one_of_three f x)

pub not_at_most : (f : Format) (x : Float) → lt (zero_f f) x ≡ true → (le x (zero_f f) ≡ false) × (is_nan x ≡ false)
not_at_most f x e =
    ⊎_elim (λ h. (h.1, h.2)) (⊎_elim (λ h. absurd (true≢false (sym e ∙ h.0))) (λ h. absurd (true≢false (sym e ∙ h.0)))) (one_of_three f x)

module _ (f : Format) (a : List Float) (fit : Fit f 6 a) (size : length a ≡ 6) (fin : all_finite a ≡ true) where
  -- it is one
  pub third_is_nan : NanThird f a → is_nan (third_of f a) ≡ true
  third_is_nan h =
      third_nan f a fit (numbers 6 a size fin) (not_at_most f (at a 0) h.first).0 (not_at_most f (second_of f a) h.second).0
      ∙ (rw (h.zero, h.infinite))

  pub l32_is_nan : NanThird f a → is_nan (l32_of f a) ≡ true
  l32_is_nan h =
      sym (l32_nan f a fit (numbers 6 a size fin) (not_at_most f (at a 0) h.first).0 (not_at_most f (second_of f a) h.second).0) ∙ third_is_nan h

  none_low : NanThird f a → one_at_most_zero f (pivots3_of f a) ≡ false
  unfolding one
  none_low h =
      rw ((not_at_most f (at a 0) h.first).0, (not_at_most f (second_of f a) h.second).0, nan_not_at_most f (third_of f a) (third_is_nan h))

  -- exactly there the pivots have a NaN and none at most zero
  pub third_met : Exactly ((one_at_most_zero f (pivots3_of f a) ≡ false) × (one_nan (pivots3_of f a) ≡ true)) (NanThird f a)
  third_met = (there, (λ h. (none_low h, nan3 f a fit size fin (none_low h) ∙ (rw (h.zero, h.infinite)))))
    where
      there : (one_at_most_zero f (pivots3_of f a) ≡ false) × (one_nan (pivots3_of f a) ≡ true) → NanThird f a
      there h =
          let p = none_low3 f a fit size fin h.0 in
          let n = each_number3 f a fit size fin h.0 in
          let b = both_true (eq (l21_of f a) (zero_f f)) (infinite (l31_of f a)) (sym (nan3 f a fit size fin h.0) ∙ h.1) in
          record { first = above f (at a 0) p.0 n.0; second = above f (second_of f a) p.1 n.1; zero = b.0; infinite = b.1 }
