-- The factor L of a symmetric matrix A = L L', packed as A is, with the writes so far standing where a pivot step answers no root. Definitions only.
use Rattle.std.specs.Prelude.{List, [], ◌∷◌, ℕ, eqb, Float, Result}
use Rattle.std.specs.Float.{Format}
use Rattle.std.specs.Float.Ieee.{sub, mul, div}
use Rattle.float.specs.Choice.{pick}
use Rattle.float.specs.Judged.{judged}
use Rattle.matrix.specs.Places.{at}
use Rattle.cholesky.specs.Pivot.{PivotAnswer, pivot_of, has_root}
use Rattle.cholesky.specs.Error.{factor_code, factor_pivot}
use Rattle.cholesky.specs.declared.answers.FactorError.{FactorError}

pub record FactorAnswer : Type 0 where
  pub code : ℕ
  pub pivot : ℕ
  pub factor : List Float

-- what is told of a call: its code, the number of a refused pivot, and the factor that it left
abbrev pub factored : Result Unit FactorError → List Float → FactorAnswer
factored r left = record { code = factor_code r; pivot = factor_pivot r; factor = left }

abbrev pub plain : ℕ → List Float → FactorAnswer
plain code l = record { code = code; pivot = 0; factor = l }

-- ---- where a pivot step answers no root, the factor stops there with the early writes

abbrev pub stopped : PivotAnswer → List Float → FactorAnswer
stopped p early = record { code = p.code; pivot = p.pivot; factor = early }

abbrev pub with_root : PivotAnswer → List Float → (Float → FactorAnswer) → FactorAnswer
with_root p early go = pick (has_root p) (go p.root) (stopped p early)

-- ---- 2x2: places 11, 12, 22

abbrev pub second2_of : Format → List Float → List Float → Float → Float → FactorAnswer
second2_of f l a l11 l21 =
    with_root (pivot_of f (sub f (at a 2) (mul f l21 l21)) 2) (l11 ∷ l21 ∷ at l 2 ∷ [])
    (λ (l22 : Float). plain 0 (l11 ∷ l21 ∷ l22 ∷ []))

unfoldable pub steps2_of : Format → List Float → List Float → FactorAnswer
steps2_of f l a = with_root (pivot_of f (at a 0) 1) l (λ (l11 : Float). second2_of f l a l11 (div f (at a 1) l11))

-- ---- 3x3: places 11, 12, 22, 13, 23, 33

abbrev pub third3_of : Format → List Float → List Float → Float → Float → Float → Float → Float → FactorAnswer
third3_of f l a l11 l21 l22 l31 l32 =
    with_root (pivot_of f (sub f (sub f (at a 5) (mul f l31 l31)) (mul f l32 l32)) 3) (l11 ∷ l21 ∷ l22 ∷ l31 ∷ l32 ∷ at l 5 ∷ [])
    (λ (l33 : Float). plain 0 (l11 ∷ l21 ∷ l22 ∷ l31 ∷ l32 ∷ l33 ∷ []))

abbrev pub row_three_of : Format → List Float → List Float → Float → Float → Float → Float → FactorAnswer
row_three_of f l a l11 l21 l22 l31 = third3_of f l a l11 l21 l22 l31 (div f (sub f (at a 4) (mul f l21 l31)) l22)

abbrev pub second3_of : Format → List Float → List Float → Float → Float → FactorAnswer
second3_of f l a l11 l21 =
    with_root (pivot_of f (sub f (at a 2) (mul f l21 l21)) 2) (l11 ∷ l21 ∷ at l 2 ∷ at l 3 ∷ at l 4 ∷ at l 5 ∷ [])
    (λ (l22 : Float). row_three_of f l a l11 l21 l22 (div f (at a 3) l11))

unfoldable pub steps3_of : Format → List Float → List Float → FactorAnswer
steps3_of f l a = with_root (pivot_of f (at a 0) 1) l (λ (l11 : Float). second3_of f l a l11 (div f (at a 1) l11))

-- ---- judged: 5 before the steps r, and 7 after them; both leave the old factor l

abbrev pub refused_factor : List Float → ℕ → FactorAnswer
refused_factor l k = plain k l

-- what is judged with the steps r: the numbers xs where they are whole, and nothing where they stopped
abbrev pub if_whole : FactorAnswer → List Float → List Float
if_whole r xs = pick (eqb r.code 0) xs []

abbrev pub judged_factor : List Float → FactorAnswer → FactorAnswer
judged_factor l r = judged (refused_factor l) 7 (if_whole r r.factor) r

abbrev pub factor_of : List Float → List Float → FactorAnswer → FactorAnswer
factor_of l a r = judged (refused_factor l) 5 a (judged_factor l r)

unfoldable pub factor2_of : Format → List Float → List Float → FactorAnswer
factor2_of f l a = factor_of l a (steps2_of f l a)

unfoldable pub factor3_of : Format → List Float → List Float → FactorAnswer
factor3_of f l a = factor_of l a (steps3_of f l a)
