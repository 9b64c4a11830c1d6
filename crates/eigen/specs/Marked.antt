-- What blind rotations change of an answer: its mark, and nothing else. Definitions only.
use Rattle.std.specs.Prelude.{◌≡◌, Bool, false, List, ℕ, ◌<◌, Float}
use Rattle.std.specs.Float.{Format}
use Rattle.std.specs.Float.Ieee.{lt}
use Rattle.float.specs.Constants.{epsilon_f}
use Rattle.float.specs.Sign.{magnitude_of}
use Rattle.jacobi.specs.Rotation.{tiny_diagonal}
use Rattle.jacobi.specs.Blind.{marked, sighted}
use Rattle.eigen.specs.Pairs.{entry, app, aqq, pair_of}
use Rattle.eigen.specs.Eigen3x3.{last_of, end_of, EigenAnswer}
use Rattle.eigen.specs.EigVals.{bare_last_of, bare_end_of, values_end2_of, EigVals2Answer, EigValsAnswer}
use Rattle.eigen.specs.Eigen2x2.{solved2, end2_of, Eigen2Answer}
use Rattle.eigen.specs.Counted.{state_after}

-- ---- the answers by the runs that are not watched: a 3x3 is marked by the test of its last matrix alone, and a 2x2 always

abbrev pub plain_of : Format → List Float → EigenAnswer
plain_of f a = end_of f a (sighted (last_of f a))

abbrev pub plain_values_of : Format → List Float → EigValsAnswer
plain_values_of f a = bare_end_of f a (sighted (bare_last_of f a))

abbrev pub plain2_of : Format → List Float → Eigen2Answer
plain2_of f a = end2_of f a false (solved2 f a)

abbrev pub plain_values2_of : Format → List Float → EigVals2Answer
plain_values2_of f a = values_end2_of f a false (solved2 f a).values

-- ---- where a mark is the same with both: no diagonal is tiny

-- of no pair that the first n rotations turn are both numbers on the diagonal under 2^-52 in magnitude
abbrev pub NeverTiny : Format → List Float → ℕ → Type 0
NeverTiny f a n = (j : ℕ) → j < n → let m = (state_after f a j).matrix in tiny_diagonal f (app (pair_of m) m) (aqq (pair_of m) m) ≡ false

-- no number on the diagonal of a matrix that is turned is
abbrev pub DiagonalStands : Format → List Float → ℕ → Type 0
DiagonalStands f a n = (j : ℕ) → j < n → (i : ℕ) → i < 3 → lt (magnitude_of (entry (state_after f a j).matrix i i)) (epsilon_f f) ≡ false

-- ---- an answer that keeps its mark only if no rotation was blind

abbrev pub remarked : Bool → EigenAnswer → EigenAnswer
remarked blind r =
    record { code = r.code; made = r.made; settled = marked blind r.settled; values = r.values; vectors = r.vectors; worked = r.worked }

abbrev pub remarked_values : Bool → EigValsAnswer → EigValsAnswer
remarked_values blind r = record { code = r.code; made = r.made; settled = marked blind r.settled; values = r.values; worked = r.worked }

abbrev pub remarked2 : Bool → Eigen2Answer → Eigen2Answer
remarked2 blind r = record { code = r.code; settled = marked blind r.settled; values = r.values; vectors = r.vectors }

abbrev pub remarked_values2 : Bool → EigVals2Answer → EigVals2Answer
remarked_values2 blind r = record { code = r.code; settled = marked blind r.settled; values = r.values }
