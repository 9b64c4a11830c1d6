-- What a code tells, in the scope's words, of any number that the rows give: a row that said less would not be enough. Each follows by going down the rows.
use Rattle.float.proofs.Words.{◌≡◌, refl, sym, ◌∙◌, Bool, true, false, true≢false, false≢true, List, ◌⊎◌, ⊎_elim, ℕ, ◌≤◌, ◌<◌, arith, length, get_or, drop}
use Rattle.float.proofs.Words.{Float}
use Rattle.float.proofs.Words.{Format, le, is_nan}
use Rattle.float.specs.Constants.{zero_f}
use Rattle.float.specs.Sign.{finite}
use Rattle.float.proofs.Choice.{not_below_lem, whether}
use Rattle.matrix.specs.Places.{at}
use Rattle.matrix.specs.Rows.{Gives}
use Rattle.matrix.proofs.Rows.{taken_row, passed_row, not_given}
use Rattle.promises.specs.Scope.{request_length, answer_length, last_way, kind_in, way_in}
use Rattle.promises.specs.Conditions.{HasWay, Unused, Zeros, used_in, pivots_in, made_in, rows}

-- ---- what is not refuted, of numbers and of tests

same_number : (m n : ℕ) → ((m ≡ n → ⊥) → ⊥) → m ≡ n
same_number m n h = whether m n (λ e. e) (λ k. absurd (h k))

so : (t : Bool) → ((t ≡ true → ⊥) → ⊥) → t ≡ true
so true h = refl
so false h = absurd (h false≢true)

not_so : (t : Bool) → ((t ≡ false → ⊥) → ⊥) → t ≡ false
not_so true h = absurd (h true≢false)
not_so false h = refl

-- ---- a request and an answer slice, and the code that the rows give

module _ (f : Format) (s a : List ℕ) (c : ℕ) (g : Gives (rows f s a) c) where
  abbrev pub Sizes : Type 0
  Sizes = (length a ≡ answer_length f) × (length s ≡ request_length f)

  abbrev pub Listed : Type 0
  Listed = (1 ≤ kind_in s) × (kind_in s ≤ 8)

  -- the way is one of the kind's, and what is to be zero is zero
  abbrev pub Rest : Type 0
  Rest = HasWay s × Zeros f s

  abbrev pub AllFinite : List Float → Type 0
  AllFinite xs = (i : ℕ) → i < length xs → finite (at xs i) ≡ true

  abbrev pub NoneAtMostZero : List Float → Type 0
  NoneAtMostZero xs = (i : ℕ) → i < length xs → le (at xs i) (zero_f f) ≡ false

  abbrev pub NoneNan : List Float → Type 0
  NoneNan xs = (i : ℕ) → i < length xs → is_nan (at xs i) ≡ false

  past_sizes : Sizes → Gives (drop 2 (rows f s a)) c
  past_sizes z = passed_row (passed_row g (λ w. w z.0)) (λ w. w z.1)

  past_kind : Sizes → Listed → Gives (drop 3 (rows f s a)) c
  past_kind z k = passed_row (past_sizes z) (λ w. w k)

  past_rest : Sizes → Listed → Rest → Gives (drop 4 (rows f s a)) c
  past_rest z k u = passed_row (past_kind z k) (λ w. w u)

  past_used : Sizes → Listed → Rest → AllFinite (used_in f s) → Gives (drop 5 (rows f s a)) c
  past_used z k u n = passed_row (past_rest z k u) (λ w. w n)

  past_low : Sizes → Listed → Rest → AllFinite (used_in f s) → NoneAtMostZero (pivots_in f s) → Gives (drop 6 (rows f s a)) c
  past_low z k u n p = passed_row (past_used z k u n) (λ w. w p)

  past_pivots : Sizes → Listed → Rest → AllFinite (used_in f s) → NoneAtMostZero (pivots_in f s) → NoneNan (pivots_in f s) → Gives (drop 7 (rows f s a)) c
  past_pivots z k u n p m = passed_row (past_low z k u n p) (λ w. w m)

  pub two_told : (length a ≡ answer_length f → ⊥) → c ≡ 2
  two_told h = taken_row g h

  pub one_told : length a ≡ answer_length f → (length s ≡ request_length f → ⊥) → c ≡ 1
  one_told e h = taken_row (passed_row g (λ w. w e)) h

  pub three_told : Sizes → (kind_in s ≡ 0) ⊎ (8 < kind_in s) → c ≡ 3
  three_told z h = taken_row (past_sizes z) (λ k. ⊎_elim (λ (e : kind_in s ≡ 0). omega (arith, k.0)) (λ (l : 8 < kind_in s). omega (arith, k.1)) h)

  pub four_told : Sizes → Listed → (i : ℕ) → Unused f (kind_in s) i → (get_or s i 0 ≡ 0 → ⊥) → c ≡ 4
  four_told z k i u h = taken_row (past_kind z k) (λ w. h (w.1 i u))

  pub way_told : Sizes → Listed → last_way (kind_in s) < way_in s → c ≡ 4
  way_told z k h = taken_row (past_kind z k) (λ w. omega (arith, w.0))

  pub five_told : Sizes → Listed → Rest → (i : ℕ) → i < length (used_in f s) → finite (at (used_in f s) i) ≡ false → c ≡ 5
  five_told z k u i l h = taken_row (past_rest z k u) (λ w. true≢false (sym (w i l) ∙ h))

  pub six_told : Sizes → Listed → Rest → AllFinite (used_in f s) → (i : ℕ) → i < length (pivots_in f s) → le (at (pivots_in f s) i) (zero_f f) ≡ true → c ≡ 6
  six_told z k u n i l h = taken_row (past_used z k u n) (λ w. false≢true (sym (w i l) ∙ h))

  pub nine_told : Sizes → Listed → Rest → AllFinite (used_in f s) → NoneAtMostZero (pivots_in f s)
      → (i : ℕ) → i < length (pivots_in f s) → is_nan (at (pivots_in f s) i) ≡ true → c ≡ 9
  nine_told z k u n p i l h = taken_row (past_low z k u n p) (λ w. false≢true (sym (w i l) ∙ h))

  pub seven_told : Sizes → Listed → Rest → AllFinite (used_in f s) → NoneAtMostZero (pivots_in f s) → NoneNan (pivots_in f s)
      → (i : ℕ) → i < length (made_in f s) → finite (at (made_in f s) i) ≡ false → c ≡ 7
  seven_told z k u n p m i l h = taken_row (past_pivots z k u n p m) (λ w. true≢false (sym (w i l) ∙ h))

  -- none of the rest: the sizes, the kind and the way are right, what is to be zero is zero, and every number, given or made, is finite
  pub zero_told : c ≡ 0
      → Sizes × Listed × Rest × AllFinite (used_in f s) × NoneAtMostZero (pivots_in f s) × NoneNan (pivots_in f s) × AllFinite (made_in f s)
  zero_told e =
      let r2 = not_given g (λ q. omega (arith, e)) in
      let r1 = not_given r2.1 (λ q. omega (arith, e)) in
      let r3 = not_given r1.1 (λ q. omega (arith, e)) in
      let r4 = not_given r3.1 (λ q. omega (arith, e)) in
      let r5 = not_given r4.1 (λ q. omega (arith, e)) in
      let r6 = not_given r5.1 (λ q. omega (arith, e)) in
      let r9 = not_given r6.1 (λ q. omega (arith, e)) in
      let r7 = not_given r9.1 (λ q. omega (arith, e)) in (
        (same_number _ _ r2.0, same_number _ _ r1.0),
        kind r3.0,
        (not_below_lem (last_way (kind_in s)) (way_in s) (λ l. r4.0 (λ w. omega (arith, w.0))), (λ i u. same_number _ _ (λ k. r4.0 (λ w. k (w.1 i u))))),
        (λ i l. so _ (λ k. r5.0 (λ w. k (w i l)))),
        (λ i l. not_so _ (λ k. r6.0 (λ w. k (w i l)))),
        (λ i l. not_so _ (λ k. r9.0 (λ w. k (w i l)))),
        (λ i l. so _ (λ k. r7.0 (λ w. k (w i l)))),
      )
    where
      kind : ((Listed → ⊥) → ⊥) → Listed
      kind h = (not_below_lem (kind_in s) 1 (λ l. h (λ k. omega (arith, k.0))), not_below_lem 8 (kind_in s) (λ l. h (λ k. omega (arith, k.1))))
