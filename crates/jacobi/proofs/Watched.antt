-- What a blind rotation is, and the laws of a run that is watched, for any step and any tests: its state is that of the run itself, and it is blind exactly if
-- one of the rotations made is.
use Rattle.float.proofs.Words.{◌≡◌, refl, sym, ap, ◌∙◌, Bool, true, false, not, ◌&&◌, true≢false, false≢true, ℕ, zero, suc, arith, Float, Format, eq}
use Rattle.float.specs.Exactly.{Exactly}
use Rattle.float.proofs.Choice.{neither}
use Rattle.float.proofs.Finite.{both_true}
use Rattle.jacobi.specs.Rotation.{is_gone, tiny_diagonal, even_turn, rotation_of}
use Rattle.jacobi.specs.Run.{run, after, Ran}
use Rattle.jacobi.specs.Blind.{blind_of, marked, Watched, watched_step, watched_run, NoneBlind}
use Rattle.jacobi.proofs.Run.{one_more_lem, ran, ran_one, keeps}

-- ---- one rotation

-- the mark of a 2x2: it is set exactly if its rotation is not blind
pub not_means : (b : Bool) → Exactly (not b ≡ true) (b ≡ false)
not_means true = ((λ e. absurd (false≢true e)), (λ e. absurd (true≢false e)))
not_means false = ((λ _. refl), (λ _. refl))

module _ (f : Format) (apq app aqq : Float) where
  -- a blind one turns by 45 degrees
  pub even_if_blind : blind_of f apq app aqq ≡ true → rotation_of f apq app aqq ≡ even_turn f
  unfolding rotation_of
  even_if_blind e =
      let p = both_true (not (is_gone f apq)) (tiny_diagonal f app aqq && not (eq app aqq)) e in
      let q = both_true (tiny_diagonal f app aqq) (not (eq app aqq)) p.1 in
      rw ((not_means (is_gone f apq)).0 p.0, q.0)

  -- where the diagonal is not tiny, none is
  pub tiny_if_blind : tiny_diagonal f app aqq ≡ false → blind_of f apq app aqq ≡ false
  tiny_if_blind e = rw e (go (is_gone f apq))
    where
      go : (t : Bool) → not t && (false && not (eq app aqq)) ≡ false
      go true = refl
      go false = refl

-- ---- the run

module _ {S : Type 0} (step : S → S) (done : S → Bool) (blind : S → Bool) where
  abbrev stepped : Watched S → Watched S
  stepped = watched_step step done blind

  abbrev ended : Watched S → Bool
  ended w = done w.state

  pub watched_state : (k : ℕ) (w : Watched S) → (watched_run step done blind k w).state ≡ run step done k w.state
  watched_state = keeps stepped ended step done (λ (w : Watched S). w.state) (λ w. refl) (λ w. refl)

  pub watched_apart : (k : ℕ) (w : Watched S)
      → watched_run step done blind k w ≡ record { state = run step done k w.state; blind = (watched_run step done blind k w).blind }
  watched_apart k w = ap (λ (s : S). record { state = s; blind = (watched_run step done blind k w).blind }) (watched_state k w)

  state-after : (n : ℕ) (w : Watched S) → (after stepped ended n w).state ≡ after step done n w.state
  unfolding after
  state-after zero w = refl
  state-after (suc n) w = state-after n (stepped w)

  -- ---- the watched state after n steps, and the n rotations made

  none_blind : (n : ℕ) (w : Watched S) → (after stepped ended n w).blind ≡ false → (w.blind ≡ false) × NoneBlind step done blind n w.state
  unfolding after
  none_blind zero w e = (e, λ j l. absurd (omega arith))
  none_blind (suc n) w e =
      let later = none_blind n (stepped w) e in
      let first = neither w.blind (blind w.state) later.0 in
      (first.0, one_more_lem step done blind n w.state first.1 later.1)

  not_blind : (n : ℕ) (w : Watched S) → w.blind ≡ false → NoneBlind step done blind n w.state → (after stepped ended n w).blind ≡ false
  unfolding after
  not_blind zero w e h = e
  not_blind (suc n) w e h = not_blind n (stepped w) (rw e (h 0 (omega arith))) (λ j l. h (suc j) (omega arith))

  -- ---- the whole run: it makes as many steps as the run that is not watched

  unwatched : {k n : ℕ} {w r : Watched S} → Ran stepped ended k w r n → Ran step done k w.state r.state n
  unwatched {k} {n} {w} {r} x = record {
    within = x.within;
    stands = ap (λ (w : Watched S). w.state) x.stands ∙ state-after n w;
    earlier = (λ j l. ap done (sym (state-after j w)) ∙ x.earlier j l);
    ended = x.ended;
  }

  pub watched_blind : (k n : ℕ) (w : Watched S) {r : S} → w.blind ≡ false → Ran step done k w.state r n
      → Exactly ((watched_run step done blind k w).blind ≡ false) (NoneBlind step done blind n w.state)
  watched_blind k n w e x =
      let y = ran stepped ended k w in
      let same = (ran_one step done (unwatched y.1) x).0 in
      let left : (watched_run step done blind k w).blind ≡ (after stepped ended n w).blind =
      ap (λ (w : Watched S). w.blind) y.1.stands ∙ ap (λ (j : ℕ). (after stepped ended j w).blind) same in
      ((λ h. (none_blind n w (sym left ∙ h)).1), (λ h. left ∙ not_blind n w e h))

-- ---- the mark of a run: it is set exactly if the end is settled (t) and no rotation was blind (b), whatever each is known by

pub mark_means : {U N : Type 0} (b t : Bool) → Exactly (t ≡ true) U → Exactly (b ≡ false) N → Exactly (marked b t ≡ true) (U × N)
mark_means true t u h = ((λ e. absurd (false≢true e)), (λ n. absurd (true≢false (h.1 n.1))))
mark_means false t u h = ((λ e. (u.0 e, h.0 refl)), (λ n. u.1 n.0))
