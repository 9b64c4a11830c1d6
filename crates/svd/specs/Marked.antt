-- What blind rotations change of an answer: its mark, and nothing else. Definitions only.
use Rattle.std.specs.Prelude.{◌≡◌, Bool, false, List, ℕ, ◌<◌, Float}
use Rattle.std.specs.Float.{Format}
use Rattle.jacobi.specs.Rotation.{tiny_diagonal}
use Rattle.jacobi.specs.Blind.{marked, sighted}
use Rattle.svd.specs.Pairs.{chosen_of}
use Rattle.svd.specs.Svd3x3.{last_of, end_of, SvdAnswer}
use Rattle.svd.specs.Svd2x2.{sides2_of, factors2_of, end2_of, Svd2Answer}
use Rattle.svd.specs.Counted.{state_after}

-- ---- the answers by the runs that are not watched: a 3x3 is marked by the test of its last matrix alone, and a 2x2 always

abbrev pub plain_of : Format → List Float → SvdAnswer
plain_of f a = end_of f a (sighted (last_of f a))

abbrev pub plain2_of : Format → List Float → Svd2Answer
plain2_of f a = end2_of f a false (factors2_of (sides2_of f a))

-- ---- where a mark is the same with both: of no pair that the first n rotations turn is the symmetrised diagonal tiny

abbrev pub NeverTiny : Format → List Float → ℕ → Type 0
NeverTiny f a n = (j : ℕ) → j < n → let r = chosen_of f (state_after f a j).matrix in tiny_diagonal f r.s11 r.s22 ≡ false

-- ---- an answer that keeps its mark only if no rotation was blind

abbrev pub remarked : Bool → SvdAnswer → SvdAnswer
remarked blind r =
    record { code = r.code; made = r.made; settled = marked blind r.settled; values = r.values; u = r.u; v = r.v; worked = r.worked }

abbrev pub remarked2 : Bool → Svd2Answer → Svd2Answer
remarked2 blind r = record { code = r.code; settled = marked blind r.settled; values = r.values; u = r.u; v = r.v }
