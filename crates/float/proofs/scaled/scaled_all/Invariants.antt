-- Each number is worked on in its place.
use Rattle.float.proofs.Words.{Float, mul, div}
use Rattle.float.specs.Width.{F}
use Rattle.float.proofs.InPlace.{InPlace}
use Rattle.float.proofs.scaled.scaled_all.Given as goal

abbrev pub invariant-loop-v : goal.invariant-loop-v
invariant-loop-v g l = InPlace (λ (x : Float). mul F x l.p) g.row.N l.v-index l.fn.x l.v-items

abbrev pub invariant-loop-v-else-j-le-GREATEST : goal.invariant-loop-v-else-j-le-GREATEST
invariant-loop-v-else-j-le-GREATEST g l = InPlace (λ (x : Float). div F x l.p) g.row.N l.v-index l.fn.x l.v-items
