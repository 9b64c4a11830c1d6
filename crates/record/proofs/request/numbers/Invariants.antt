-- Each number that is read stands in its place.
use Rattle.float.proofs.Words.{◌≡◌, ℕ, ◌<◌, length}
use Rattle.float.specs.Width.{F}
use Rattle.matrix.specs.Places.{at}
use Rattle.wire.specs.Bytes.{place_of, number_at}
use Rattle.record.proofs.request.numbers.Given as goal

abbrev pub invariant-loop-i : goal.invariant-loop-i
invariant-loop-i g l = (length l.xs ≡ g.row.N) × ((k : ℕ) → k < l.i → at l.xs k ≡ number_at F (place_of F l.at k) l.s)
