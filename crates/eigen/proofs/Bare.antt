-- Without vectors the same is worked out: neither a state's matrix nor what the run made looks at the vectors, nor does the order of the values.
use Rattle.std.specs.Prelude.{Result}
use Rattle.float.proofs.Words.{◌≡◌, refl, sym, ap, ◌∙◌, Bool, true, false, List, ◌⊎◌, inl, inr, ⊎_elim, ℕ, Float, Format}
use Rattle.float.specs.Width.{F}
use Rattle.float.specs.Sign.{all_finite}
use Rattle.float.specs.Judged.{judged, judged_call}
use Rattle.float.proofs.Finite.{append_passes, append_fails}
use Rattle.matrix.specs.Codes.{told, code_of}
use Rattle.matrix.specs.Square.{exchange_of}
use Rattle.matrix.specs.declared.codes.Refusal.{Refusal}
use Rattle.matrix.specs.Symmetric.{Sym3}
use Rattle.jacobi.specs.Order.{ascending}
use Rattle.jacobi.specs.Blind.{Watched, sighted}
use Rattle.jacobi.proofs.Run.{keeps}
use Rattle.jacobi.proofs.Placed.{values_alone}
use Rattle.eigen.specs.Eigen3x3.{State, settled_of, step_of, run_of, start_of, last_of, watched_of, diagonal, ranked_of, refused_eigen}
use Rattle.eigen.specs.Eigen3x3.{EigenAnswer, whole_eigen, answer_of, end_of}
use Rattle.eigen.specs.EigVals.{BareState, bare_step_of, bare_run_of, bare_watched_of, alone, nothing_swapped, sort3_of, refused_values, bare_end_of}
use Rattle.eigen.specs.EigVals.{EigValsAnswer, whole_eig_vals, eigvals_of}
use Rattle.eigen.specs.Ordered.{diagonal_axes}
use Rattle.eigen.specs.Bare.{without_vectors, VectorsLost, SameButVectors}
use Rattle.eigen.specs.declared.eigen3x3.Eigen3.{Eigen3}
use Rattle.eigen.specs.declared.eigen3x3.EigVals3.{EigVals3}
use Rattle.eigen.proofs.Rounds.{full_step, full_done, bare_step, bare_done}
use Rattle.eigen.proofs.Told.{code_told, values_code_told}
use Rattle.eigen.proofs.Watched.{ended_of, watched_ends, by_last}
use Rattle.eigen.proofs.eigen3x3.eigen_jacobi.Reads as eigen-jacobi
use Rattle.eigen.proofs.eigen3x3.eigvals_jacobi.Reads as eigvals-jacobi

-- ---- the run

abbrev pub bared : State → BareState
bared s = record { matrix = s.matrix; made = s.made }

pub same_run : (f : Format) (k : ℕ) (s : State) → bared (run_of f k s) ≡ bare_run_of f k (bared s)
unfolding run_of bare_run_of step_of bare_step_of
same_run f k s =
    keeps (step_of f) (λ (s : State). settled_of f s.matrix) (bare_step_of f) (λ (s : BareState). settled_of f s.matrix) bared (λ s. refl) (λ s. refl) k s

abbrev bared_watched : Watched State → Watched BareState
bared_watched w = record { state = bared w.state; blind = w.blind }

pub same_watched : (f : Format) (k : ℕ) (w : Watched State) → bared_watched (watched_of f k w) ≡ bare_watched_of f k (bared_watched w)
unfolding watched_of bare_watched_of step_of bare_step_of
same_watched f k w = keeps (full_step f) (full_done f) (bare_step f) (bare_done f) bared_watched (λ w. refl) (λ w. refl) k w

-- ---- the order

ranked_values : (s : State) → (ranked_of s).values ≡ sort3_of (diagonal s.matrix)
unfolding ranked_of
ranked_values s = values_alone 3 ascending (exchange_of 3) nothing_swapped (diagonal_axes s) (alone (diagonal s.matrix)) refl

-- ---- the answer

module _ (f : Format) (a : List Float) where
  -- the answer without vectors by the state with them
  from_state : eigvals_of f a ≡ judged_call (refused_values f) a (last_of f a).matrix (without_vectors (answer_of f (ended_of f a)))
  unfolding eigvals_of bare_end_of
  from_state =
      ap (bare_end_of f a) (sym (same_watched f 25 (sighted (start_of f a))) ∙ ap bared_watched (watched_ends f a))
      ∙ (rw (ranked_values (last_of f a)))

  by_tests : (x y z : Bool) → all_finite a ≡ x → all_finite (last_of f a).matrix ≡ y → all_finite (ranked_of (last_of f a)).carried ≡ z → SameButVectors f a
  unfolding end_of judged
  by_tests false y z i m v = inl (rw (by_last f a, from_state, i))
  by_tests true false z i m v =
      let n = append_fails (last_of f a).matrix (ranked_of (last_of f a)).carried m in
      inl (rw (by_last f a, from_state, i, m, n))
  by_tests true true true i m v =
      let n = append_passes (last_of f a).matrix (ranked_of (last_of f a)).carried m in
      inl (rw (by_last f a, from_state, i, m, n, v))
  by_tests true true false i m v =
      let n = append_passes (last_of f a).matrix (ranked_of (last_of f a)).carried m in
      inr (record { input = i; matrix = m; vectors = v }, rw (by_last f a, i, n, v), rw (watched_ends f a, from_state, i, m))

  pub same_but_vectors : SameButVectors f a
  same_but_vectors = by_tests _ _ _ refl refl refl

-- ---- the calls: any two answers within the promises that the source states

pub same_calls : (a : Sym3) (r : Result Eigen3 Refusal) (q : Result EigVals3 Refusal)
    → eigen-jacobi.Post tt (a, tt) r (a, tt) → eigvals-jacobi.Post tt (a, tt) q (a, tt)
    → (without_vectors (told (refused_eigen F) whole_eigen r) ≡ told (refused_values F) whole_eig_vals q)
    ⊎ (VectorsLost F a.«data» × (code_of r ≡ 7) × (code_of q ≡ 0))
same_calls a r q p s =
    rw (p, s)
    (⊎_elim (λ e. inl e)
    (λ l. inr (l.0, code_told r ∙ ap (λ (r : EigenAnswer). r.code) (p ∙ l.1), values_code_told q ∙ ap (λ (q : EigValsAnswer). q.code) (s ∙ l.2)))
    (same_but_vectors F a.«data»))
