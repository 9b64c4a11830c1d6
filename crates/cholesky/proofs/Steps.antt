-- The steps as they are written into the factor l: each pivot step either hands its root on or stops the factor, as the definition has it.
use Rattle.std.proofs.Common.{Result, Ok, Err}
use Rattle.std.specs.Result.{IsErrAnd}
use Rattle.float.proofs.Words.{◌≡◌, refl, ap, List, [], ◌∷◌, ℕ, zero, suc, arith, length, set, Float, Format, sub, mul, div}
use Rattle.matrix.specs.Places.{at}
use Rattle.cholesky.specs.Error.{error_code, pivot_number}
use Rattle.cholesky.specs.Pivot.{with_root_of, without_root, pivot_of}
use Rattle.cholesky.specs.Factor.{factored, steps2_of, steps3_of}
use Rattle.cholesky.specs.declared.answers.FactorError.{FactorError}
use Rattle.cholesky.proofs.Told.{coded}

-- what a pivot step answered
abbrev Root : Format → Float → Float → ℕ → Type 0
Root f x t k = with_root_of x ≡ pivot_of f t k

abbrev Stop : Format → FactorError → Float → ℕ → Type 0
Stop f e t k = without_root f (error_code e) (pivot_number e) ≡ pivot_of f t k

-- the writes before the second pivot, and those of the 3x3 from there to the third
abbrev two : Format → List Float → List Float → Float → List Float
two f l a x = let m = set l 0 x in set m 1 (div f (at a 1) (at m 0))

abbrev five : Format → List Float → List Float → Float → List Float
five f l a y =
    let m = set l 2 y in
    let n = set m 3 (div f (at a 3) (at m 0)) in
    set n 4 (div f (sub f (at a 4) (mul f (at n 1) (at n 3))) (at n 2))

-- the pivots that are worked out of what is written
abbrev second : Format → List Float → List Float → Float
second f l a = sub f (at a 2) (mul f (at l 1) (at l 1))

abbrev third : Format → List Float → List Float → Float
third f l a = sub f (sub f (at a 5) (mul f (at l 3) (at l 3))) (mul f (at l 4) (at l 4))

-- what a `?` hands out
pub returned : {A : Type 0} (r : Result A FactorError) (e : FactorError) → IsErrAnd r (λ d. d ≡ e) → r ≡ Err e
returned (Ok x) e h = absurd h
returned (Err d) e h = ap Err h

module _ (f : Format) (a : List Float) where
  pub first2 : (l : List Float) (e : FactorError) → Stop f e (at a 0) 1 → factored (Err e) l ≡ steps2_of f l a
  unfolding steps2_of
  first2 l e h = rw (← h) (rw (coded e))

  pub second2 : (l : List Float) (x : Float) (e : FactorError) → length l ≡ 3 → Root f x (at a 0) 1
      → let n = two f l a x in Stop f e (second f n a) 2 → factored (Err e) n ≡ steps2_of f l a
  unfolding steps2_of
  second2 (p ∷ q ∷ r ∷ []) x e size g h = rw (← g) (rw (← h) (rw (coded e)))
  second2 l x e size g h = absurd (omega arith)

  pub whole2 : (l : List Float) (x y : Float) → length l ≡ 3 → Root f x (at a 0) 1
      → let n = two f l a x in Root f y (second f n a) 2 → factored (Ok tt) (set n 2 y) ≡ steps2_of f l a
  unfolding steps2_of
  whole2 (p ∷ q ∷ r ∷ []) x y size g h = rw (← g) (rw (← h))
  whole2 l x y size g h = absurd (omega arith)

  pub first3 : (l : List Float) (e : FactorError) → Stop f e (at a 0) 1 → factored (Err e) l ≡ steps3_of f l a
  unfolding steps3_of
  first3 l e h = rw (← h) (rw (coded e))

  pub second3 : (l : List Float) (x : Float) (e : FactorError) → length l ≡ 6 → Root f x (at a 0) 1
      → let n = two f l a x in Stop f e (second f n a) 2 → factored (Err e) n ≡ steps3_of f l a
  unfolding steps3_of
  second3 (p ∷ q ∷ r ∷ s ∷ t ∷ u ∷ []) x e size g h = rw (← g) (rw (← h) (rw (coded e)))
  second3 l x e size g h = absurd (omega arith)

  pub third3 : (l : List Float) (x y : Float) (e : FactorError) → length l ≡ 6 → Root f x (at a 0) 1
      → let n = two f l a x in Root f y (second f n a) 2
      → let m = five f n a y in Stop f e (third f m a) 3 → factored (Err e) m ≡ steps3_of f l a
  unfolding steps3_of
  third3 (p ∷ q ∷ r ∷ s ∷ t ∷ u ∷ []) x y e size g h i = rw (← g) (rw (← h) (rw (← i) (rw (coded e))))
  third3 l x y e size g h i = absurd (omega arith)

  pub whole3 : (l : List Float) (x y z : Float) → length l ≡ 6 → Root f x (at a 0) 1
      → let n = two f l a x in Root f y (second f n a) 2
      → let m = five f n a y in Root f z (third f m a) 3 → factored (Ok tt) (set m 5 z) ≡ steps3_of f l a
  unfolding steps3_of
  whole3 (p ∷ q ∷ r ∷ s ∷ t ∷ u ∷ []) x y z size g h i = rw (← g) (rw (← h) (rw (← i)))
  whole3 l x y z size g h i = absurd (omega arith)

-- a number written again where it stands
pub same : (l : List Float) (i : ℕ) (x : Float) → x ≡ at l i → set l i x ≡ l
same [] i x e = refl
same (y ∷ ys) zero x e = ap (λ (z : Float). z ∷ ys) e
same (y ∷ ys) (suc i) x e = ap (λ (zs : List Float). y ∷ zs) (same ys i x e)
