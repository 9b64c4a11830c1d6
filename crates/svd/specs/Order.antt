-- Singular values: signs go to the columns of U, then both U and V are put in descending order of the values. Definitions only.
use Rattle.std.specs.Prelude.{List, [], ◌∷◌, ℕ, set, Float}
use Rattle.float.specs.Choice.{pick}
use Rattle.float.specs.Sign.{magnitude_of, sign_bit_of}
use Rattle.matrix.specs.Places.{IsSquare, at}
use Rattle.matrix.specs.Square.{square_with, negate_of, exchange_of}
use Rattle.jacobi.specs.Order.{Ranked, ordered, ordered3, descending}
use Rattle.svd.specs.declared.order.Decomposed.{Decomposed}

-- the columns of U and V that belong to the values
pub record Columns : Type 0 where
  pub u : List Float
  pub v : List Float

abbrev pub Factors : Type 0
Factors = Ranked Columns

-- ---- the structs

abbrev pub Factors2 : Type 0
Factors2 = Decomposed 2 4

abbrev pub Factors3 : Type 0
Factors3 = Decomposed 3 9

abbrev pub factors_with : {n s : ℕ} → IsSquare n s → Factors → Decomposed n s
factors_with p w = record { values = w.values; u = square_with p w.carried.u; v = square_with p w.carried.v }

abbrev pub of_factors : {n s : ℕ} → Decomposed n s → Factors
of_factors w = record { values = w.values; carried = record { u = w.u.«data»; v = w.v.«data» } }

abbrev pub factors2 : Factors → Factors2
factors2 w = factors_with {n = 2} {s = 4} tt w

abbrev pub factors3 : Factors → Factors3
factors3 w = factors_with {n = 3} {s = 9} tt w

-- ---- signs: column i of a matrix of size n changes sign where x has its sign bit set, -0 too

unfoldable pub signed_column : ℕ → ℕ → Float → List Float → List Float
signed_column n i x u = pick (sign_bit_of x) (negate_of n i u) u

-- the value at i by its magnitude, and U with its sign
abbrev pub signed_at : {n s : ℕ} → IsSquare n s → ℕ → Factors → Decomposed n s
signed_at {n} p i w = factors_with p (record {
  values = set w.values i (magnitude_of (at w.values i));
  carried = record { u = signed_column n i (at w.values i) w.carried.u; v = w.carried.v };
})

-- the magnitudes, and U with their signs
abbrev pub signed3_of : Float → Float → Float → List Float → List Float → Factors
signed3_of a b c u v = record {
  values = magnitude_of a ∷ magnitude_of b ∷ magnitude_of c ∷ [];
  carried = record { u = signed_column 3 2 c (signed_column 3 1 b (signed_column 3 0 a u)); v = v };
}

abbrev pub signed2_of : Float → Float → List Float → List Float → Factors
signed2_of a b u v = record { values = magnitude_of a ∷ magnitude_of b ∷ []; carried = record { u = signed_column 2 1 b (signed_column 2 0 a u); v = v } }

-- ---- order: the columns of both at i and j change places

abbrev pub exchange_both : ℕ → ℕ → ℕ → Columns → Columns
exchange_both n i j w = record { u = exchange_of n i j w.u; v = exchange_of n i j w.v }

-- signs first, then the comparisons
unfoldable pub order_of : Float → Float → Float → List Float → List Float → Factors
order_of a b c u v = ordered3 3 descending (exchange_both 3) (signed3_of a b c u v)

unfoldable pub order2_of : Float → Float → List Float → List Float → Factors
order2_of a b u v = ordered 2 descending (exchange_both 2) 0 1 (signed2_of a b u v)
