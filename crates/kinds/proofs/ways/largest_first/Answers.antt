-- The fold is the definition's, over as many of the numbers.
use Rattle.float.proofs.Words.{sym, ◌∙◌, ap, take, rules}
use Rattle.std.proofs.lemmas.Iterator.{YieldsList-from_slice}
use Rattle.std.proofs.lemmas.Iterator.Consumers.{fold_from_yields_List}
use Rattle.float.specs.Width.{F}
use Rattle.float.specs.Scaled.{larger_pattern, largest_pattern}
use Rattle.matrix.proofs.Tables.{tabulate-take}
use Rattle.kinds.proofs.Padding.{largest_folded}
use Rattle.kinds.proofs.ways.largest_first.Goals as goal

pub returns : goal.returns
returns c =
    let x = c.args.x in
    let n = c.args.n in
    let items = YieldsList-from_slice (take n x) c.iter.ensures.rest in
    let all = fold_from_yields_List _ (larger_pattern F) 0 c.fold.result c.fold.ensures.ran items (λ a x b q k. search rules) in
    all ∙ largest_folded F 0 (take n x) ∙ ap (largest_pattern F) (sym (tabulate-take n x (search rules)))
