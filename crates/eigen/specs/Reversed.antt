-- Reversed wiring only exchanges the axes: what the answers to a matrix and to its negation have to do with each other. Definitions only.
use Rattle.std.specs.Prelude.{◌≡◌, true, false, List, ℕ, Float}
use Rattle.std.specs.Float.Ieee.{neg, eq}
use Rattle.matrix.specs.Places.{at, tabulate, negated_of}
use Rattle.matrix.specs.Square.{entry_of}
use Rattle.eigen.specs.Eigen3x3.{EigenAnswer}

-- each number of the packed matrix negated
abbrev pub negated : List Float → List Float
negated a = negated_of 6 a

-- compared as numbers, so that both zeros are equal: x is -y
abbrev pub Opposite : Float → Float → Type 0
Opposite x y = eq x (neg y) ≡ true

-- compared as numbers
abbrev pub Differ : Float → Float → Type 0
Differ x y = eq x y ≡ false

-- of three values no two neighbours are equal
abbrev pub AllDiffer : List Float → Type 0
AllDiffer x = Differ (at x 0) (at x 1) × Differ (at x 1) (at x 2)

-- the values of one are those of the other in the opposite order, negated
abbrev pub ValuesExchanged : List Float → List Float → Type 0
ValuesExchanged x y = Opposite (at x 0) (at y 2) × Opposite (at x 1) (at y 1) × Opposite (at x 2) (at y 0)

-- a column of the vectors. Equal columns are equal as data, zeros with their signs: the same bits
abbrev pub column_of : List Float → ℕ → List Float
column_of v c = tabulate 3 (λ (r : ℕ). entry_of 3 v r c)

-- the columns of one are those of the other in the opposite order
abbrev pub ColumnsExchanged : List Float → List Float → Type 0
ColumnsExchanged v w = (column_of v 0 ≡ column_of w 2) × (column_of v 1 ≡ column_of w 1) × (column_of v 2 ≡ column_of w 0)

-- The codes, what the runs made, and the marks are the same. With code 0 the values are exchanged and negated; and if no two of them are equal, the columns are
-- exchanged.
pub record Reversed (r q : EigenAnswer) : Type 0 where
  pub codes : r.code ≡ q.code
  pub made : r.made ≡ q.made
  pub marks : r.settled ≡ q.settled
  pub values : r.code ≡ 0 → ValuesExchanged r.values q.values
  pub columns : r.code ≡ 0 → AllDiffer r.values → ColumnsExchanged r.vectors.«data» q.vectors.«data»
