-- What the call without vectors has to do with the one that has them. Definitions only.
use Rattle.std.specs.Prelude.{◌≡◌, true, false, ◌⊎◌, List, Float}
use Rattle.std.specs.Float.{Format}
use Rattle.float.specs.Sign.{all_finite}
use Rattle.eigen.specs.Eigen3x3.{last_of, watched_last_of, ranked_of, refused_eigen, answer_of, eigen_of, EigenAnswer}
use Rattle.eigen.specs.EigVals.{eigvals_of, EigValsAnswer}

abbrev pub without_vectors : EigenAnswer → EigValsAnswer
without_vectors r = record { code = r.code; made = r.made; settled = r.settled; values = r.values; worked = r.worked }

-- input and matrix of the last state are finite, and a number of its vectors, in the order of the values, is not
pub record VectorsLost (f : Format) (a : List Float) : Type 0 where
  pub input : all_finite a ≡ true
  pub matrix : all_finite (last_of f a).matrix ≡ true
  pub vectors : all_finite (ranked_of (last_of f a)).carried ≡ false

-- For every input the two answers are the same but for the vectors, or the vectors are lost: then the call with vectors refuses with 7, and the
-- one without answers with what was worked out. So they are the same at each code but 7, and at 7 too if the matrix is what is not finite.
abbrev pub SameButVectors : Format → List Float → Type 0
SameButVectors f a = (without_vectors (eigen_of f a) ≡ eigvals_of f a)
    ⊎ (VectorsLost f a × (eigen_of f a ≡ refused_eigen f 7) × (eigvals_of f a ≡ without_vectors (answer_of f (watched_last_of f a))))
