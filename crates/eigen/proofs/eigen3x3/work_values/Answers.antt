-- The run that carries nothing along is the definition's.
use Rattle.float.proofs.Words.{ap, ◌∙◌}
use Rattle.eigen.specs.EigVals.{of_bare}
use Rattle.eigen.proofs.Rounds.{worked_values}
use Rattle.eigen.proofs.eigen3x3.work_values.Goals as goal

pub returns : goal.returns
returns c = ap of_bare c.run.ensures ∙ worked_values c.args.a
