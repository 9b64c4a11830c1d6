-- Stores from the first place on leave the numbers, and then what lay past them.
use Rattle.float.proofs.Words.{◌≡◌, refl, rules, le-leb, lt-leb}
use Rattle.matrix.specs.Answer.{put_of}
use Rattle.matrix.proofs.answers.put.Goals as goal

pub returns-then-y : goal.returns-then-y
unfolding put_of
returns-then-y g c = rw (lt-leb _ _ c.if-y.true) (refl, refl)

pub returns-in_err-values : goal.returns-in_err-values
unfolding put_of
returns-in_err-values g c = let e : c.args.p ≡ _ = c.in_err-values.was in rw (le-leb _ _ c.if-y.false, e) (search rules)

pub returns : goal.returns
unfolding put_of
returns g c = let e : c.args.p ≡ _ = c.in_ok-values.was in rw (le-leb _ _ c.if-y.false, e) (search rules)
