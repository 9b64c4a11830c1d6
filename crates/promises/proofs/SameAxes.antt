-- What two answers that are one answer of the kernel, multiplied back by two powers of two, have in common: all but the values. And these differ by 2 ^ j: a
-- product that stays above the smallest normal number is exact, so that a second one does what one by both powers does.
use Rattle.float.proofs.Words.{◌≡◌, refl, sym, ap, ◌∙◌, true, false, true≢false, false≢true, List, ◌∷◌, ◌++◌, append_assoc, ℕ, ◌+◌, ◌*◌, ◌<◌}
use Rattle.matrix.specs.Codes.{code_of}
use Rattle.matrix.specs.declared.codes.Refusal.{Refusal}
use Rattle.std.specs.Prelude.{Result}
use Rattle.float.proofs.Words.{arith, ℤ, ◌+ℤ◌, length, get_or, take, drop, length-append, drop_at, Float, nan, inf, fin, Format, binary32}
use Rattle.float.proofs.Words.{binary64}
use Rattle.float.proofs.Words.{eq, lt, le, of_bits}
use contract.Lifetimes.{Lfts}
use Rattle.float.specs.Width.{F}
use Rattle.float.specs.Constants.{smallest_f, largest_f, zero_f}
use Rattle.float.specs.Sign.{magnitude_of, finite, all_finite}
use Rattle.float.specs.Scaled.{times_power, shifted, zero_or_normal}
use Rattle.float.proofs.Choice.{by_either, whether}
use Rattle.float.proofs.Finite.{both_true, at-finite}
use Rattle.float.proofs.Zeros.{zero_is}
use Rattle.float.proofs.Scaling.{scaled_shifted, shifted-shifted}
use Rattle.float.proofs.Unrounded.{scaled_exact, scaled_above}
use Rattle.matrix.specs.Places.{at}
use Rattle.matrix.proofs.Tables.{at-tabulate, table-finite}
use Rattle.kinds.specs.Ways.{times_all, revalued, multiplied_back}
use Rattle.kinds.proofs.Works.{Sized}
use Rattle.kinds.proofs.BothWays.{by_back}
use Rattle.wire.specs.Bytes.{number_bytes, number_bytes_of}
use Rattle.wire.proofs.Numbers.{numbers_length}
use Rattle.record.specs.Layout.{event_bytes, answer_size}
use Rattle.record.specs.Request.{kind_of, judged_of}
use Rattle.record.specs.Answer.{record_of, answered_of, Step}
use Rattle.record.proofs.Answers.{judged-sized, event_length, with_room}
use Rattle.record.proofs.answer.zanikory_answer_record.Reads as answer-record
use Rattle.promises.specs.Scope.{power_in}
use Rattle.promises.specs.Conditions.{value_in}
use Rattle.promises.specs.Units.{OtherUnits, SameWork, SameAxes, StayNormal, TimesExactly}
use Rattle.promises.proofs.Scope.{number-length}
use Rattle.promises.proofs.Wiring.{count_of, mark_of_lem, stands}
use Rattle.promises.proofs.Units.{size_of, size_of', same_work}
use Rattle.kinds.specs.Work.{WorkedAnswer}

-- ---- with code 0 an answer that is multiplied back is the kernel's, with values that are finite

pub record Done (f : Format) (k : ℤ) (w x : WorkedAnswer) : Type 0 where
  pub is : x ≡ revalued (times_all f k 3 w.values) w
  pub fine : all_finite (times_all f k 3 w.values) ≡ true

back_done : (f : Format) (k : ℤ) (w : WorkedAnswer) → (multiplied_back f k w).code ≡ 0 → Done f k w (multiplied_back f k w)
back_done f k w =
    by_back f k w (λ (x : WorkedAnswer). x.code ≡ 0 → Done f k w x) (λ t _. record { is = refl; fine = t }) (λ _ c. absurd (omega arith))

done : (f : Format) (k : ℤ) (w x : WorkedAnswer) → x ≡ multiplied_back f k w → x.code ≡ 0 → Done f k w x
done f k w x e c =
    let h = back_done f k w (sym (ap (λ (x : WorkedAnswer). x.code) e) ∙ c) in
    record { is = e ∙ h.is; fine = h.fine }

-- each value
value_of : (f : Format) (k : ℤ) (w x : WorkedAnswer) → Done f k w x → (i : ℕ) → i < 3 → at x.values i ≡ times_power f k (at w.values i)
value_of f k w x h i l = ap (λ (x : WorkedAnswer). at x.values i) h.is ∙ at-tabulate 3 (λ (i : ℕ). times_power f k (at w.values i)) i l

-- ---- an answer as bytes, behind its values

behind_values : (f : Format) (event : List ℕ) (kind : ℕ) (w : WorkedAnswer) → length event ≡ event_bytes → Sized w
    → drop (8 + number_bytes f * 3) (record_of f event kind w) ≡ number_bytes_of f w.left ++ number_bytes_of f w.right
unfolding record_of
behind_values f event kind w e n =
    let values = number_bytes_of f w.values in
    let rest = number_bytes_of f w.left ++ number_bytes_of f w.right in
    let front = kind ∷ w.code ∷ w.count ∷ w.settled ∷ values in
    let size : length values ≡ number_bytes f * 3 = numbers_length f w.values ∙ ap (λ (k : ℕ). number_bytes f * k) n.0 in
    ap (drop (8 + number_bytes f * 3)) (sym (append_assoc event front rest))
    ∙ drop_at (event ++ front) rest (8 + number_bytes f * 3) (length-append event front ∙ omega arith)

-- ---- a number that is zero or normal is finite

infinity_high : (f : Format) → le (inf false) (largest_f f) ≡ false
unfolding le lt eq of_bits
infinity_high binary32 = refl
infinity_high binary64 = refl

normal_finite : (f : Format) (x : Float) → zero_or_normal f x ≡ true → finite x ≡ true
unfolding finite magnitude_of le lt eq
normal_finite f nan h =
    by_either (eq nan (zero_f f)) _ h (λ e. absurd (false≢true e)) (λ e. (both_true (le (smallest_f f) nan) (le nan (largest_f f)) e).1)
normal_finite f (inf s) h =
    by_either (eq (inf s) (zero_f f)) _ h (λ e. absurd (false≢true (ap (eq (inf s)) (sym (zero_is f)) ∙ e)))
    (λ e. absurd (true≢false (sym (both_true (le (smallest_f f) (inf false)) (le (inf false) (largest_f f)) e).1 ∙ infinity_high f)))
normal_finite f (fin s m e) h = refl

-- ---- two answers

module _ (f : Format) (j : ℤ) (s t : List ℕ) (o : OtherUnits f j s t) where
  abbrev h : SameWork f j s (judged_of f s) (judged_of f t)
  h = same_work f j s t o

  -- the kernel's answer to both
  abbrev answer : WorkedAnswer
  answer = h.work

  abbrev k : ℤ
  k = power_in f s

  -- ---- both answered

  module _ (c : (judged_of f s).code ≡ 0) (d : (judged_of f t).code ≡ 0) where
    done_s : Done f k (answer) (judged_of f s)
    done_s = done f k (answer) (judged_of f s) h.this c

    done_t : Done f (k +ℤ j) (answer) (judged_of f t)
    done_t = done f (k +ℤ j) (answer) (judged_of f t) h.that d

    -- what is not a value
    same : {A : Type 0} (part : WorkedAnswer → A)
        → part (revalued (times_all f k 3 answer.values) (answer)) ≡ part (revalued (times_all f (k +ℤ j) 3 answer.values) (answer))
        → part (judged_of f s) ≡ part (judged_of f t)
    same part e = ap part done_s.is ∙ e ∙ sym (ap part done_t.is)

    value_times : (i : ℕ) → i < 3 → lt (smallest_f f) (magnitude_of (at (judged_of f s).values i)) ≡ true
        → at (judged_of f t).values i ≡ times_power f j (at (judged_of f s).values i)
    value_times i l above =
        let v = at answer.values i in
        let is = value_of f k (answer) (judged_of f s) done_s i l in
        let fine : finite (times_power f k v) ≡ true =
        sym (ap finite (at-tabulate 3 (λ (i : ℕ). times_power f k (at answer.values i)) i l))
        ∙ at-finite (times_all f k 3 answer.values) done_s.fine i l in
        let exact : times_power f k v ≡ shifted k v =
        scaled_above f k v (h.fit i l) fine (ap (λ (z : Float). lt (smallest_f f) (magnitude_of z)) (sym is) ∙ above) in
        value_of f (k +ℤ j) (answer) (judged_of f t) done_t i l ∙ sym (scaled_shifted f k j v) ∙ ap (times_power f j) (sym exact ∙ sym is)

    byte_of : (i : ℕ) → 5 < i → i < 8 → get_or (answered_of f s) i 0 ≡ get_or (answered_of f t) i 0
    byte_of i low high =
        whether i 6
        (λ e. rw e (count_of f s (size_of f j s t o) ∙ same (λ (w : WorkedAnswer). w.count) refl ∙ sym (count_of f t (size_of' f j s t o))))
        (λ n. let e : i ≡ 7 = omega arith in
        rw e (mark_of_lem f s (size_of f j s t o) ∙ same (λ (w : WorkedAnswer). w.settled) refl ∙ sym (mark_of_lem f t (size_of' f j s t o))))

    pub same_axes : SameAxes f j s t
    same_axes = record {
      counts = same (λ (w : WorkedAnswer). w.count) refl;
      marks = same (λ (w : WorkedAnswer). w.settled) refl;
      left = same (λ (w : WorkedAnswer). w.left) refl;
      right = same (λ (w : WorkedAnswer). w.right) refl;
      values = value_times;
      head = byte_of;
      vectors = rw (number-length f)
          (behind_values f (take event_bytes s) (kind_of s) (judged_of f s) (event_length f s (size_of f j s t o)) (judged-sized f s)
          ∙ same (λ (w : WorkedAnswer). number_bytes_of f w.left ++ number_bytes_of f w.right) refl
          ∙ sym (behind_values f (take event_bytes t) (kind_of t) (judged_of f t) (event_length f t (size_of' f j s t o)) (judged-sized f t)));
    }

  -- ---- where all of it stays normal

  module _ (normal : StayNormal f j s) where
    -- the kernel's values are the ones that stay normal
    module _ (c : answer.code ≡ 0) where
      value_is : (i : ℕ) → at answer.values i ≡ value_in f s i
      value_is i = ap (λ (v : List Float). at v i) (h.values c)

      -- multiplied back by one power or by the other, exactly
      exact : (p : ℤ) (i : ℕ) → i < 3 → zero_or_normal f (shifted p (value_in f s i)) ≡ true
          → times_power f p (at answer.values i) ≡ shifted p (at answer.values i)
      exact p i l z = scaled_exact f p (at answer.values i) (h.fit i l) (ap (λ (v : Float). zero_or_normal f (shifted p v)) (value_is i) ∙ z)

      fine : (p : ℤ) → ((i : ℕ) → i < 3 → zero_or_normal f (shifted p (value_in f s i)) ≡ true) → (multiplied_back f p answer).code ≡ 0
      fine p z =
          let all : all_finite (times_all f p 3 answer.values) ≡ true =
          table-finite 3 (λ (i : ℕ). times_power f p (at answer.values i)) (λ i l.
          ap finite (exact p i l (z i l) ∙ ap (shifted p) (value_is i)) ∙ normal_finite f (shifted p (value_in f s i)) (z i l)) in
          by_back f p answer (λ (x : WorkedAnswer). x.code ≡ 0) (λ _. c) (λ e. absurd (true≢false (sym all ∙ e)))

    code_s : answer.code ≡ 0 → (judged_of f s).code ≡ 0
    code_s c = ap (λ (x : WorkedAnswer). x.code) h.this ∙ fine c k (λ i l. (normal i l).0)

    code_t : answer.code ≡ 0 → (judged_of f t).code ≡ 0
    code_t c = ap (λ (x : WorkedAnswer). x.code) h.that ∙ fine c (k +ℤ j) (λ i l. (normal i l).1)

    same_code : (judged_of f s).code ≡ (judged_of f t).code
    same_code =
        whether answer.code 0 (λ c. code_s c ∙ sym (code_t c))
        (λ n. ap (λ (x : WorkedAnswer). x.code) (h.refused n).0 ∙ sym (ap (λ (x : WorkedAnswer). x.code) (h.refused n).1))

    -- an answer with code 0 is no refusal of the kernel
    kernel_done : (judged_of f s).code ≡ 0 → answer.code ≡ 0
    kernel_done c = whether answer.code 0 (λ e. e) (λ n. absurd (n (sym (ap (λ (x : WorkedAnswer). x.code) (h.refused n).0) ∙ c)))

    pub times_exactly : TimesExactly f j s t
    times_exactly = record {
      codes = same_code;
      axes = (λ c. same_axes c (sym same_code ∙ c));
      values = (λ c i l.
          let e = kernel_done c in
          let v = at answer.values i in
          value_of f (k +ℤ j) answer (judged_of f t) (done_t c (sym same_code ∙ c)) i l ∙ exact e (k +ℤ j) i l (normal i l).1
          ∙ sym (shifted-shifted j k v)
          ∙ ap (shifted j) (sym (value_of f k answer (judged_of f s) (done_s c (sym same_code ∙ c)) i l ∙ exact e k i l (normal i l).0)));
    }

-- ---- any two answers within the promise of the record step, of which the second is in other units. In bytes of doubles the vectors stand from 32 on

module _ (κs : Lfts 2) (a b : _) (r q : Result (Unit {0}) Refusal) (x y : _) (p : answer-record.Post κs a r x) (w : answer-record.Post κs b q y)
    (u : length a.1.0.now ≡ answer_size F) (v : length b.1.0.now ≡ answer_size F) (j : ℤ) (o : OtherUnits F j a.0.now b.0.now) where
  code_a : code_of r ≡ (judged_of F a.0.now).code
  code_a = p.0 ∙ ap (λ (t : Step). t.code) (with_room F a.0.now a.1.0.now u o.size)

  code_b : code_of q ≡ (judged_of F b.0.now).code
  code_b = w.0 ∙ ap (λ (t : Step). t.code) (with_room F b.0.now b.1.0.now v o.size')

  pub axes_by_calls : code_of r ≡ 0 → code_of q ≡ 0 → let this = x.1.0.now in let that = y.1.0.now in
      (get_or this 6 0 ≡ get_or that 6 0) × (get_or this 7 0 ≡ get_or that 7 0) × (drop 32 this ≡ drop 32 that) × SameAxes F j a.0.now b.0.now
  axes_by_calls c d =
      let h = same_axes F j a.0.now b.0.now o (sym code_a ∙ c) (sym code_b ∙ d) in
      let e = stands κs a b r q x y p w u v o.size o.size' in
      rw (e.0, e.1) (h.head 6 (omega arith) (omega arith), h.head 7 (omega arith) (omega arith), h.vectors, h)

  pub exactly_by_calls : StayNormal F j a.0.now
      → (code_of r ≡ code_of q) × (x.1.0.now ≡ answered_of F a.0.now) × (y.1.0.now ≡ answered_of F b.0.now) × TimesExactly F j a.0.now b.0.now
  exactly_by_calls n =
      let h = times_exactly F j a.0.now b.0.now o n in
      let e = stands κs a b r q x y p w u v o.size o.size' in
      (code_a ∙ h.codes ∙ sym code_b, e.0, e.1, h)
