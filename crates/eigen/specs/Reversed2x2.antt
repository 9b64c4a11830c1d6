-- What the answers to a 2x2 matrix and to its negation have in common: the code and the mark. Definitions only.
use Rattle.std.specs.Prelude.{◌≡◌}
use Rattle.eigen.specs.Eigen2x2.{Eigen2Answer}
use Rattle.eigen.specs.EigVals.{EigVals2Answer}

pub record SameCodeAndMark (r q : Eigen2Answer) : Type 0 where
  pub codes : r.code ≡ q.code
  pub marks : r.settled ≡ q.settled

-- of the call without vectors
pub record SameValuesCodeAndMark (r q : EigVals2Answer) : Type 0 where
  pub codes : r.code ≡ q.code
  pub marks : r.settled ≡ q.settled
