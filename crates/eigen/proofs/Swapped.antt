-- Three values of which those of a pair change places, for each of the three pairs.
use Rattle.float.proofs.Words.{◌≡◌, refl, subst, List, ℕ, length, Float}
use Rattle.std.specs.List.{swap}
use Rattle.matrix.specs.Places.{at, tabulate}
use Rattle.matrix.specs.Square.{exchanged}
use Rattle.matrix.proofs.Tables.{tabulate_all}
use Rattle.jacobi.specs.Pairs.{index_p, index_q}
use Rattle.jacobi.specs.declared.pairs.Pair.{Pair}
use Rattle.jacobi.specs.declared.pairs.Pair.TheVariants.{P12, P13, P23}

table_swapped : (x : Pair) (g : ℕ → Float) → let v = tabulate 3 g in
    swap v (index_p x) (index_q x) ≡ tabulate 3 (λ (c : ℕ). at v (exchanged (index_p x) (index_q x) c))
table_swapped P12 g = refl
table_swapped P13 g = refl
table_swapped P23 g = refl

pub values_swapped : (x : Pair) (v : List Float) → length v ≡ 3
    → swap v (index_p x) (index_q x) ≡ tabulate 3 (λ (c : ℕ). at v (exchanged (index_p x) (index_q x) c))
values_swapped x v n =
    subst (λ (v : List Float). swap v (index_p x) (index_q x) ≡ tabulate 3 (λ (c : ℕ). at v (exchanged (index_p x) (index_q x) c)))
    (tabulate_all 3 v n) (table_swapped x (at v))
