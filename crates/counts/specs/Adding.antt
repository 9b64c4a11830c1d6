-- What the steps of an adding owe to each other. Definitions only.
use Rattle.std.specs.Prelude.{◌≡◌, Bool, true, Option, Some, None, List, [], ◌∷◌, ◌++◌, map, ℕ, eqb, length, set, replicate}
use Rattle.float.specs.Choice.{pick}
use Rattle.kinds.specs.Table.{kind_numbered}
use Rattle.counts.specs.Known.{among, foreign_of}
use Rattle.counts.specs.Cells.{Cell, coded, marked, turned, row_of, counted_in, cells, foreign_at, tally_size, place_in, place_of}
use Rattle.counts.specs.Tally.{one, plus_of, all_fit, Tally}
use Rattle.counts.specs.declared.known.Head.{Head}

-- the place of a number in a list, if it has one there
abbrev pub found_in : ℕ → List ℕ → Option ℕ
found_in n ms = pick (among n ms) (Some (place_in n ms)) None

-- `more` more at every place, where all fit; else some counts, as many as there were
abbrev pub Summed : List ℕ → List ℕ → Bool → List ℕ → Type 0
Summed counts more fits left = (fits ≡ all_fit (plus_of counts more)) × (length left ≡ length counts) × (fits ≡ true → left ≡ plus_of counts more)

-- n at one of so many places, and 0 at all others
abbrev pub only : ℕ → ℕ → ℕ → List ℕ
only size at n = set (replicate size 0) at n

-- one record in a cell
abbrev pub one_in : Cell → List ℕ
one_in c = only tally_size (place_of c) 1

-- ---- the tally of one record with this head

unfoldable pub head_tally : Head → List ℕ
head_tally h = map (λ (c : Cell). one (counted_in c h)) cells ++ (0 ∷ [])

-- by the cells that it is counted in: with code 0 those of its mark, and of its rotations
abbrev pub mark_parts : Head → List ℕ
mark_parts h =
    pick (kind_numbered h.kind).counts
    (plus_of (one_in (marked (row_of h) h.mark)) (one_in (turned (row_of h) h.turns)))
    (one_in (marked (row_of h) h.mark))

abbrev pub head_parts : Head → List ℕ
head_parts h =
    pick (foreign_of h) (only tally_size foreign_at 1)
    (pick (eqb h.code 0) (plus_of (one_in (coded (row_of h) h.code)) (mark_parts h)) (one_in (coded (row_of h) h.code)))

-- the end of an adding
unfoldable pub ended_of : Bool → List ℕ → Tally
ended_of fits counts = pick fits (record { code = 0; counts = counts }) (record { code = 14; counts = replicate (length counts) 0 })
