-- The iterator goes over the slice, and the closure is the test of one number.
use Rattle.float.proofs.Words.{sym, ◌∙◌}
use Rattle.std.proofs.Common.{rules, tests}
use Rattle.std.proofs.lemmas.Iterator.{YieldsList-from_slice}
use Rattle.std.proofs.lemmas.Iterator.Search.{all_from_yields_List}
use Rattle.float.specs.Sign.{finite}
use Rattle.float.proofs.Finite.{all_finite-list}
use Rattle.float.proofs.sign.all_finite.Goals as goal

pub returns : goal.returns
returns c = let xs = c.args.xs.now in
    all_from_yields_List finite _ _ _ c.all.ensures.ran (YieldsList-from_slice xs (cc)) (λ x b q k. search (rules, tests)) ∙ sym (all_finite-list xs)
