-- One round of the 3x3 loop makes the definition's test and step, since each of its calls answers by the definition's names; and the whole run, whatever is
-- carried along, is that of the definition.
use Rattle.float.proofs.Words.{◌≡◌, refl, ap, ◌∙◌, Bool, ◌||◌, List, Float, Format, lt}
use Rattle.float.specs.Width.{F}
use Rattle.float.specs.Constants.{limit_f}
use Rattle.matrix.specs.Symmetric.{Sym3}
use Rattle.matrix.specs.Square.{Mat3, mat3, identity_of}
use Rattle.jacobi.specs.Pairs.{turned_of}
use Rattle.jacobi.specs.Run.{one_more}
use Rattle.jacobi.specs.Blind.{Watched, watched_step}
use Rattle.jacobi.specs.declared.made.Made.{Made}
use Rattle.jacobi.specs.declared.pairs.Pair.{Pair}
use Rattle.jacobi.specs.declared.rotation.Rotation.{Rotation}
use Rattle.jacobi.specs.declared.pairs.OffDiag.{OffDiag}
use Rattle.jacobi.proofs.Run.{keeps}
use Rattle.eigen.specs.Pairs.{off_diag_of, blind_at, turned_pair, with_vectors, with_nothing}
use Rattle.eigen.specs.Eigen3x3.{State, of_working, settled_of, next_matrix, next_vectors, step_of, watched_of, watched_last_of}
use Rattle.eigen.specs.Eigen3x3.{carried_step, carried_done, run_carried}
use Rattle.eigen.specs.EigVals.{BareState, of_bare, bare_step_of, bare_watched_of, bare_watched_last_of}
use Rattle.eigen.specs.declared.eigen3x3.Working.{Working}
use Rattle.eigen.specs.declared.pairs.Turned.{Turned}

-- ---- the rounds as a watched run has them

abbrev pub full_step : Format → Watched State → Watched State
full_step f = watched_step (step_of f) (λ (s : State). settled_of f s.matrix) (λ (s : State). blind_at f s.matrix)

abbrev pub full_done : Format → Watched State → Bool
full_done f w = settled_of f w.state.matrix

abbrev pub bare_step : Format → Watched BareState → Watched BareState
bare_step f = watched_step (bare_step_of f) (λ (s : BareState). settled_of f s.matrix) (λ (s : BareState). blind_at f s.matrix)

abbrev pub bare_done : Format → Watched BareState → Bool
bare_done f w = settled_of f w.state.matrix

-- what a loop holds, as such a state
abbrev pub full_state : Sym3 → Mat3 → Made → Bool → Watched State
full_state b v m blind = record { state = record { matrix = b.«data»; vectors = v.«data»; made = m }; blind = blind }

abbrev pub bare_state : Sym3 → Made → Bool → Watched BareState
bare_state b m blind = record { state = record { matrix = b.«data»; made = m }; blind = blind }

-- ---- one of them

module _ (f : Format) (a : List Float) {largest : OffDiag} (is : largest ≡ off_diag_of a) where
  pub tested : {t : Bool} → t ≡ lt largest.size (limit_f f) → t ≡ settled_of f a
  unfolding settled_of
  tested e = e ∙ ap (λ (o : OffDiag). lt o.size (limit_f f)) is

  module _ (m : Made) (b : Bool) {t : Turned} (turned : t ≡ turned_pair f largest.pair a) where
    pub next_bare :
        ◌≡◌ {A = Watched BareState} (record { state = record { matrix = t.a.«data»; made = one_more m }; blind = b || t.blind })
        (bare_step f (record { state = record { matrix = a; made = m }; blind = b }))
    unfolding bare_step_of next_matrix blind_at
    next_bare = rw (turned, is)

    pub next_state : (v : List Float) {w : Mat3} → w ≡ mat3 (turned_of f largest.pair t.r.c t.r.s v) →
        ◌≡◌ {A = Watched State} (record { state = record { matrix = t.a.«data»; vectors = w.«data»; made = one_more m }; blind = b || t.blind })
        (full_step f (record { state = record { matrix = a; vectors = v; made = m }; blind = b }))
    unfolding step_of next_matrix next_vectors blind_at
    next_state v e = rw (e, turned, is)

pub next_carried : {V : Type 0} (turn : Pair → Rotation → V → V) (w : Working V) {o : OffDiag} → o ≡ off_diag_of w.a.«data»
    → {t : Turned} → t ≡ turned_pair F o.pair w.a.«data» → {v : V} → v ≡ turn o.pair t.r w.v
    → record { a = t.a; v = v; made = one_more w.made; blind = w.blind || t.blind } ≡ carried_step turn w
unfolding next_matrix blind_at
next_carried turn w is turned e = rw (e, turned, is)

-- ---- the whole run, with vectors and without

pub worked : (a : Sym3) (v : Mat3) → v ≡ mat3 (identity_of F 3) → of_working (run_carried with_vectors a v) ≡ watched_last_of F a.«data»
unfolding run_carried watched_of step_of next_vectors
worked a v e = rw e (keeps (carried_step with_vectors) carried_done (full_step F) (full_done F) of_working (λ w. refl) (λ w. refl) 25 _)

pub worked_values : (a : Sym3) → of_bare (run_carried with_nothing a tt) ≡ bare_watched_last_of F a.«data»
unfolding run_carried bare_watched_of bare_step_of
worked_values a = keeps (carried_step with_nothing) carried_done (bare_step F) (bare_done F) of_bare (λ w. refl) (λ w. refl) 25 _
