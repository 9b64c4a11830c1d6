-- The eight numbers of a matrix that a two-sided rotation of a pair changes, written one after the other: all nine are then those of the definition.
use Rattle.float.proofs.Words.{◌≡◌, refl, subst, List, ℕ, ◌+◌, ◌*◌, length, set, Float, Format}
use Rattle.float.specs.Constants.{zero_f}
use Rattle.matrix.specs.Places.{at, tabulate}
use Rattle.matrix.proofs.Tables.{tabulate_all}
use Rattle.jacobi.specs.Pairs.{index_p, index_q, index_k}
use Rattle.jacobi.specs.declared.pairs.Pair.{Pair}
use Rattle.jacobi.specs.declared.pairs.Pair.TheVariants.{P12, P13, P23}
use Rattle.svd.specs.Pairs.{less_of, more_of, applied_of}
use Rattle.svd.specs.declared.polar.TwoSided.{TwoSided}

module _ (f : Format) (r : TwoSided) where
  -- p and q are the pair's indices, and k is the third
  abbrev written : ℕ → ℕ → ℕ → List Float → List Float
  written p q k d =
      let row_p = at d (p + 3 * k) in
      let row_q = at d (q + 3 * k) in
      let column_p = at d (k + 3 * p) in
      let column_q = at d (k + 3 * q) in
      let pair = set (set (set (set d (p + 3 * p) r.d1) (q + 3 * p) (zero_f f)) (p + 3 * q) (zero_f f)) (q + 3 * q) r.d2 in
      let rows = set (set pair (p + 3 * k) (less_of f r.cl r.sl row_p row_q)) (q + 3 * k) (more_of f r.cl r.sl row_p row_q) in
      set (set rows (k + 3 * p) (less_of f r.cr r.sr column_p column_q)) (k + 3 * q) (more_of f r.cr r.sr column_p column_q)

  abbrev Written : Pair → List Float → Type 0
  Written x d = written (index_p x) (index_q x) (index_k x) d ≡ applied_of f x r d

  table_written : (x : Pair) (g : ℕ → Float) → Written x (tabulate 9 g)
  table_written P12 g = refl
  table_written P13 g = refl
  table_written P23 g = refl

  pub all_written : (x : Pair) (d : List Float) → length d ≡ 9 → Written x d
  all_written x d n = subst (Written x) (tabulate_all 9 d n) (table_written x (at d))
