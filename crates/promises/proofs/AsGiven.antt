-- The old way hands its numbers to the kernel as they are. Where the largest magnitude is from 1 up to 2, and where all numbers are zero, the power of two is
-- 2 ^ 0, a product with it is the number itself, and so both ways answer the same.
use Rattle.float.proofs.Words.{◌≡◌, refl, sym, ap, ◌∙◌, Bool, true, false, ◌&&◌, true≢false, List, ℕ, ◌≤◌, arith, ℤ, pos}
use Rattle.float.proofs.Words.{eqb, length, get_or, take, drop, get_or-take, of_bits, Float, Format, ne_eqb, eqb-true}
use lib.Seq.{take-take}
use Rattle.float.specs.Choice.{pick}
use Rattle.float.specs.Sign.{all_finite}
use Rattle.float.specs.Constants.{zero_f}
use Rattle.float.specs.Scaled.{times_power, power_under, largest_magnitude}
use Rattle.float.proofs.Finite.{both_true}
use Rattle.float.proofs.Scaling.{scaled_itself}
use Rattle.float.proofs.Zeros.{zero_is}
use Rattle.float.proofs.Power.{power_range}
use Rattle.matrix.specs.Places.{at, Fit}
use Rattle.matrix.proofs.Tables.{tabulate-same, tabulate_all, length-tabulate}
use Rattle.kinds.specs.Table.{Kind, kind_numbered}
use Rattle.kinds.specs.Work.{WorkedAnswer, Asked, refused_kind, used_finite, answered_by, plain_of}
use Rattle.kinds.specs.Ways.{is_scaled, times_all, power_for, divided, revalued, multiplied_back, work_of}
use Rattle.kinds.proofs.Rows.{each_kind}
use Rattle.kinds.proofs.Works.{plain-sized}
use Rattle.kinds.proofs.BothWays.{by_back}
use Rattle.wire.specs.Bytes.{number_bytes, place_of, word_of, number_at, numbers_from}
use Rattle.record.specs.Layout.{event_bytes, nine_at, three_at}
use Rattle.record.specs.Request.{kind_of, way_of, asked_of, form_of, judged_of}
use Rattle.record.specs.Answer.{answered_of}
use Rattle.promises.specs.Scope.{used_nine, kind_in, numbers_in, power_in}
use Rattle.promises.specs.AsGiven.{FromOneToTwo, InTheOldWay}
use Rattle.promises.proofs.Scope.{scaled_in_lem, power_in_lem}
use Rattle.promises.proofs.Vouched.{plain_vouched}
use Rattle.promises.proofs.NanPivots.{asked_fit}
use Rattle.promises.proofs.Bodies.{further}
use Rattle.promises.proofs.Units.{plain_fit}

-- ---- a kind

-- any way but 0 is the old one
pub old_way : (f : Format) (a : Asked) → (a.way ≡ 0 → ⊥) → work_of f a ≡ plain_of f a
old_way f a n = rw (ne_eqb a.way 0 n, and-false (kind_numbered a.kind).scales)
  where
    and-false : (b : Bool) → b && false ≡ false
    and-false true = refl
    and-false false = refl

-- the kernel does not see the way
way_unseen : (f : Format) (a : Asked) (way : ℕ) → plain_of f (record { kind = a.kind; way = way; nine = a.nine; three = a.three }) ≡ plain_of f a
unfolding answered_by
way_unseen f a way =
    let b : Asked = record { kind = a.kind; way = way; nine = a.nine; three = a.three } in
    each_kind (λ (k : Kind). answered_by f k.kernel b ≡ answered_by f k.kernel a) refl refl refl refl refl refl refl refl refl a.kind

-- times 2 ^ 0
times_itself : (f : Format) (n : ℕ) (xs : List Float) → length xs ≡ n → Fit f n xs → times_all f (pos 0) n xs ≡ xs
times_itself f n xs e h =
    tabulate-same n (λ (i : ℕ). times_power f (pos 0) (at xs i)) (at xs) (λ i l. scaled_itself f (at xs i) (h i l)) ∙ tabulate_all n xs e

module _ (f : Format) (a : Asked) (scaled : is_scaled a ≡ true) (size : length a.nine ≡ 9) (fit : Fit f 9 a.nine) (none : power_for f a ≡ pos 0) where
  scales : (kind_numbered a.kind).scales ≡ true
  scales = (both_true (kind_numbered a.kind).scales (eqb a.way 0) scaled).0

  given : divided f (pos 0) a ≡ a
  given = ap (λ (nine : List Float). record { kind = a.kind; way = a.way; nine = nine; three = a.three }) (times_itself f 9 a.nine size fit)

  back : multiplied_back f (pos 0) (plain_of f a) ≡ plain_of f a
  back =
      let w = plain_of f a in
      let same : times_all f (pos 0) 3 w.values ≡ w.values = times_itself f 3 w.values (plain-sized f a).0 (plain_fit f a scales fit) in
      by_back f (pos 0) w (λ (x : WorkedAnswer). x ≡ w) (λ _. ap (λ (v : List Float). revalued v w) same)
      (λ e. absurd (true≢false (sym (ap all_finite same ∙ (plain_vouched f a).0) ∙ e)))

  pub unchanged : work_of f a ≡ plain_of f a
  unchanged =
      ap (λ (t : Bool). pick t (multiplied_back f (power_for f a) (plain_of f (divided f (power_for f a) a))) (plain_of f a)) scaled
      ∙ ap (λ (k : ℤ). multiplied_back f k (plain_of f (divided f k a))) none ∙ ap (λ (b : Asked). multiplied_back f (pos 0) (plain_of f b)) given ∙ back

-- ---- a request

-- where the power of two is 2 ^ 0: the largest magnitude is from 1 up to 2, or all is zero
pub from_one_to_two : (f : Format) (s : List ℕ) → FromOneToTwo f s → power_in f s ≡ pos 0
from_one_to_two f s r = power_range f (largest_magnitude f (numbers_in f 8 (used_nine (kind_in s)) s)) r.from_one r.to_two

pub zeros-alone : (f : Format) (s : List ℕ) → largest_magnitude f (numbers_in f 8 (used_nine (kind_in s)) s) ≡ zero_f f → power_in f s ≡ pos 0
unfolding power_under
zeros-alone f s e = ap power_under (e ∙ zero_is f)

module _ (f : Format) (s t : List ℕ) (o : InTheOldWay f s t) (unit : power_in f s ≡ pos 0) where
  abbrev asked : Asked
  asked = asked_of f s

  is_scaled_lem : is_scaled asked ≡ true
  is_scaled_lem = sym (scaled_in_lem f s) ∙ o.scaled

  way_zero : way_of s ≡ 0
  way_zero = eqb-true (way_of s) 0 (both_true (kind_numbered (kind_of s)).scales (eqb (way_of s) 0) is_scaled_lem).1

  kind_same : kind_of t ≡ kind_of s
  kind_same =
      sym (get_or-take 5 t 4 0 (omega arith)) ∙ ap (λ (h : List ℕ). get_or h 4 0) o.head ∙ get_or-take 5 s 4 0 (omega arith)

  behind-same : (m : ℕ) → 6 ≤ m → drop m t ≡ drop m s
  behind-same m h = further 6 m s t h o.rest

  numbers_same : (n a : ℕ) → 6 ≤ a → numbers_from f n a t ≡ numbers_from f n a s
  numbers_same n a h =
      tabulate-same n (λ (i : ℕ). number_at f (place_of f a i) t) (λ (i : ℕ). number_at f (place_of f a i) s)
      (λ i _. ap (λ (y : List ℕ). of_bits f (word_of (take (number_bytes f) y))) (behind-same (place_of f a i) (omega arith)))

  form_same : form_of f t ≡ form_of f s
  unfolding form_of
  form_same =
      let scales = (both_true (kind_numbered (kind_of s)).scales (eqb (way_of s) 0) is_scaled_lem).0 in
      rw (
        kind_same,
        o.old,
        way_zero,
        scales,
        behind-same 6 (omega arith),
        behind-same (place_of f nine_at (kind_numbered (kind_of s)).nine) (omega arith),
        behind-same (place_of f (three_at f) (kind_numbered (kind_of s)).three) (omega arith),
      )

  -- what t asks: the same, in the old way
  abbrev other : Asked
  other = record { kind = kind_of s; way = 1; nine = asked.nine; three = asked.three }

  asked_other : asked_of f t ≡ other
  asked_other =
      ap (λ (k : ℕ). record { kind = k; way = way_of t; nine = (asked_of f t).nine; three = (asked_of f t).three }) kind_same
      ∙ ap (λ (w : ℕ). record { kind = kind_of s; way = w; nine = (asked_of f t).nine; three = (asked_of f t).three }) o.old
      ∙ ap (λ (x : List Float). record { kind = kind_of s; way = 1; nine = x; three = (asked_of f t).three }) (numbers_same 9 nine_at (omega arith))
      ∙ ap (λ (x : List Float). record { kind = kind_of s; way = 1; nine = asked.nine; three = x }) (numbers_same 3 (three_at f) (omega arith))

  work_same : work_of f (asked_of f t) ≡ work_of f asked
  work_same =
      let none : power_for f asked ≡ pos 0 = sym (power_in_lem f s) ∙ unit in
      ap (work_of f) asked_other ∙ old_way f other (λ e. absurd (omega arith)) ∙ way_unseen f asked 1
      ∙ sym (unchanged f asked is_scaled_lem (length-tabulate 9 (λ (i : ℕ). number_at f (place_of f nine_at i) s)) (asked_fit f s) none)

  pub as_before : judged_of f t ≡ judged_of f s
  unfolding judged_of
  as_before =
      let k = form_of f s in
      rw (form_same, work_same)
      (ap (λ (u : Bool). pick (eqb k 0) (pick u (work_of f asked) (refused_kind f 5 0)) (refused_kind f k 0)) (ap used_finite asked_other))

  -- byte for byte
  pub answers_as_before : answered_of f t ≡ answered_of f s
  answers_as_before =
      let event : take event_bytes t ≡ take event_bytes s =
      sym (take-take event_bytes 5 t (omega arith)) ∙ ap (take event_bytes) o.head ∙ take-take event_bytes 5 s (omega arith) in
      rw (event, kind_same, as_before)
