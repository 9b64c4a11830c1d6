-- As many numbers as are wanted are the first ones.
use Rattle.float.proofs.Words.{sym, ◌∙◌}
use Rattle.matrix.proofs.Tables.{tabulate-take}
use Rattle.kinds.proofs.work.first.Goals as goal

pub returns : goal.returns
returns g c = c.copy_from_slice.ensures.after ∙ sym (tabulate-take g.row.N c.args.x.now c.requires)
