-- One round of the loop makes the definition's test and step, since each of its calls answers by the definition's names.
use Rattle.float.proofs.Words.{◌≡◌, Bool, ◌||◌, List, Float, Format, lt}
use Rattle.float.specs.Constants.{limit_f}
use Rattle.matrix.specs.Square.{Mat3, mat3}
use Rattle.jacobi.specs.Pairs.{turned_of}
use Rattle.jacobi.specs.Run.{one_more}
use Rattle.jacobi.specs.Blind.{Watched, watched_step}
use Rattle.jacobi.specs.declared.made.Made.{Made}
use Rattle.jacobi.specs.declared.pairs.OffDiag.{OffDiag}
use Rattle.svd.specs.Polar.{blind_sides}
use Rattle.svd.specs.Pairs.{off_diag_of, sides_of, blind_at, applied_of}
use Rattle.svd.specs.Svd3x3.{State, settled_of, step_of}
use Rattle.svd.specs.declared.polar.TwoSided.{TwoSided}

-- ---- the rounds as a watched run has them

abbrev pub full_step : Format → Watched State → Watched State
full_step f = watched_step (step_of f) (λ (s : State). settled_of f s.matrix) (λ (s : State). blind_at f s.matrix)

abbrev pub full_done : Format → Watched State → Bool
full_done f w = settled_of f w.state.matrix

-- ---- one of them

module _ (f : Format) (a : List Float) {largest : OffDiag} (is : largest ≡ off_diag_of f a) where
  -- t is what was answered of the limit
  pub tested : {t : Bool} → t ≡ lt largest.size (limit_f f) → t ≡ settled_of f a
  unfolding settled_of
  tested e = simp (e, is)

  pub next_state : (u v : List Float) (made : Made) (blind : Bool) {r : TwoSided} {b p q : Mat3} {t : Bool} → r ≡ sides_of f largest.pair a
      → b ≡ mat3 (applied_of f largest.pair r a) → p ≡ mat3 (turned_of f largest.pair r.cl r.sl u)
      → q ≡ mat3 (turned_of f largest.pair r.cr r.sr v) → t ≡ blind_sides f r
      → ◌≡◌ {A = Watched State} (record { state = record { matrix = b.«data»; u = p.«data»; v = q.«data»; made = one_more made }; blind = blind || t })
      (full_step f (record { state = record { matrix = a; u = u; v = v; made = made }; blind = blind }))
  unfolding step_of blind_at
  next_state u v made blind sides applied left right seen = simp (seen, applied, left, right, sides, is)
