-- Any two answers within the promise of a public function are equal. Each promise is read from the source, as a caller reads it.
use Rattle.float.proofs.Words.{Bool, Float}
use Rattle.float.specs.OneAnswer.{OneAnswer}
use Rattle.float.proofs.OneAnswer.{named}
use Rattle.matrix.specs.Square.{Mat3}
use Rattle.jacobi.specs.declared.rotation.Elements.{Elements}
use Rattle.jacobi.specs.declared.rotation.Rotation.{Rotation}
use Rattle.jacobi.specs.declared.pairs.Pair.{Pair}
use Rattle.jacobi.specs.declared.pairs.OffDiag.{OffDiag}
use Rattle.jacobi.proofs.rotation.Elements.is_blind.Reads as is-blind
use Rattle.jacobi.proofs.rotation.Elements.rotation.Reads as rotation
use Rattle.jacobi.proofs.pairs.largest.Reads as largest
use Rattle.jacobi.proofs.pairs.turn_columns.Reads as turn-columns

pub one_rotation : (n : Elements) → OneAnswer (λ (r : Rotation). rotation.Post tt (n, tt) r (n, tt))
one_rotation n = named _

pub one_is_blind : (n : Elements) → OneAnswer (λ (r : Bool). is-blind.Post tt (n, tt) r (n, tt))
one_is_blind n = named _

pub one_largest : (x12 x13 x23 : Float) → OneAnswer (λ (r : OffDiag). largest.Post tt (x12, (x13, (x23, tt))) r (x12, (x13, (x23, tt))))
one_largest x12 x13 x23 = named _

pub one_turn_columns : (v : Mat3) (p : Pair) (c s : Float) → OneAnswer (λ (r : Mat3). turn-columns.Post tt (v, (p, (c, (s, tt)))) r (v, (p, (c, (s, tt)))))
one_turn_columns v p c s = named _
