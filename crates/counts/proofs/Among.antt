-- Whether a list has a number, by the search for its place.
use Rattle.float.proofs.Words.{◌≡◌, refl, Bool, true, false, not, List, ℕ}
use Rattle.std.specs.Prelude.{Some, None, is_some}
use Rattle.float.specs.Choice.{pick}
use Rattle.counts.specs.Known.{among}
use Rattle.counts.specs.Cells.{place_in}
use Rattle.counts.specs.Adding.{found_in}

pub not_found : (n : ℕ) (ms : List ℕ) → not (is_some (found_in n ms)) ≡ not (among n ms)
not_found n ms = by (among n ms)
  where
    by : (t : Bool) → not (is_some (pick t (Some (place_in n ms)) None)) ≡ not t
    by true = refl
    by false = refl

pub swapped : (a b : Bool) → a ≡ not b → b ≡ not a
swapped true true e = e
swapped true false e = refl
swapped false true e = refl
swapped false false e = e
