-- A code other than 0 leaves the slice, and a slice that is too short is refused whatever the code is.
use Rattle.float.proofs.Words.{refl, le-leb, lt-leb, ne_eqb}
use Rattle.matrix.specs.Answer.{put_of}
use Rattle.matrix.proofs.answers.put_coded.Goals as goal

pub returns-then-y : goal.returns-then-y
unfolding put_of
returns-then-y g c = rw (lt-leb _ _ c.if-y.true) (c.from.ensures, refl)

pub returns-else-y : goal.returns-else-y
unfolding put_of
returns-else-y g c = rw (le-leb _ _ c.if-y.false, ne_eqb _ _ c.if-code-eq-DONE.false) (refl, refl)
