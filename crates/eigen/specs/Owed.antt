-- The numbers of an answer, field by field, as every kernel owes them. Definitions only.
use Rattle.std.specs.Prelude.{List, [], ◌∷◌}
use Rattle.matrix.specs.Owed.{Part}
use Rattle.eigen.specs.EigVals.{EigVals2Answer, EigValsAnswer}
use Rattle.eigen.specs.Eigen2x2.{Eigen2Answer}
use Rattle.eigen.specs.Eigen3x3.{EigenAnswer}

abbrev pub eigen_parts : EigenAnswer → List Part
eigen_parts r =
    record { size = 3; numbers = r.values }
    ∷ record { size = 9; numbers = r.vectors.«data» }
    ∷ record { size = 6; numbers = r.worked.«data» }
    ∷ []

abbrev pub values_parts : EigValsAnswer → List Part
values_parts r = record { size = 3; numbers = r.values } ∷ record { size = 6; numbers = r.worked.«data» } ∷ []

abbrev pub eigen2_parts : Eigen2Answer → List Part
eigen2_parts r = record { size = 2; numbers = r.values } ∷ record { size = 4; numbers = r.vectors.«data» } ∷ []

abbrev pub values2_parts : EigVals2Answer → List Part
values2_parts r = record { size = 2; numbers = r.values } ∷ []
