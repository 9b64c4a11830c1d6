-- What the answers to a 2x2 matrix and to its negation have in common: the code and the mark. Definitions only.
use Rattle.std.specs.Prelude.{◌≡◌}
use Rattle.svd.specs.Svd2x2.{Svd2Answer}

pub record SameCodeAndMark (r q : Svd2Answer) : Type 0 where
  pub codes : r.code ≡ q.code
  pub marks : r.settled ≡ q.settled
