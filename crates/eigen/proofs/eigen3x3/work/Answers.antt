-- The run that carries the vectors along is the definition's.
use Rattle.float.proofs.Words.{ap, ◌∙◌}
use Rattle.eigen.specs.Eigen3x3.{of_working}
use Rattle.eigen.proofs.Rounds.{worked}
use Rattle.eigen.proofs.eigen3x3.work.Goals as goal

pub returns : goal.returns
returns c = ap of_working c.run.ensures ∙ worked c.args.a c.set_identity.result c.set_identity.ensures
