-- The numbers of an answer, field by field, with how many each has. Definitions only.
use Rattle.std.specs.Prelude.{List, [], ◌∷◌}
use Rattle.matrix.specs.Owed.{Part}
use Rattle.svd.specs.Svd2x2.{Svd2Answer}
use Rattle.svd.specs.Svd3x3.{SvdAnswer}

abbrev pub svd3_parts : SvdAnswer → List Part
svd3_parts r =
    record { size = 3; numbers = r.values }
    ∷ record { size = 9; numbers = r.u.«data» }
    ∷ record { size = 9; numbers = r.v.«data» }
    ∷ record { size = 9; numbers = r.worked.«data» }
    ∷ []

abbrev pub svd2_parts : Svd2Answer → List Part
svd2_parts r = record { size = 2; numbers = r.values } ∷ record { size = 4; numbers = r.u.«data» } ∷ record { size = 4; numbers = r.v.«data» } ∷ []
