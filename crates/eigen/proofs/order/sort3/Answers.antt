-- The order of the values does not depend on what is carried along.
use Rattle.float.proofs.Words.{refl, ap, ◌∙◌}
use Rattle.matrix.specs.Square.{exchange_of}
use Rattle.jacobi.specs.Order.{ascending}
use Rattle.jacobi.proofs.Placed.{values_alone}
use Rattle.eigen.specs.EigVals.{alone, nothing_swapped}
use Rattle.eigen.specs.declared.order.Sorted.{Sorted}
use Rattle.eigen.proofs.order.sort3.Goals as goal

pub returns : goal.returns
returns c =
    ap (λ (s : Sorted). s.values) c.sort3_with_columns.ensures ∙ values_alone 3 ascending (exchange_of 3) nothing_swapped _ (alone _) refl
