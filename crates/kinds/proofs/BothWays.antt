-- Both ways keep what each kernel owes of its answer: multiplying back changes the values alone, and gives 7 where one of them is not finite any more. The
-- numbers that are divided stay finite, so that no finite number is refused with 5, and a refusal's zeros stay zeros.
use Rattle.float.proofs.Words.{◌≡◌, refl, sym, ap, ◌∙◌, subst⁻¹, Bool, true, false, List, map, ℕ, ◌≤◌, arith, T, ℤ, neg_ℤ, Float, Format, eq, lt, le, fits}
use Rattle.std.specs.Prelude.{Option, Some, None, MatchOption}
use Rattle.float.specs.Choice.{pick}
use Rattle.float.specs.Constants.{zero_f, one_f, two_f}
use Rattle.float.specs.Judged.{judged}
use Rattle.float.specs.Sign.{all_finite}
use Rattle.float.specs.Scaled.{times_power, largest_magnitude}
use Rattle.float.proofs.Choice.{by_test}
use Rattle.float.proofs.Finite.{both_true}
use Rattle.float.proofs.Scaling.{scaled_zero}
use Rattle.float.proofs.Divided.{divided-finite, divided_range}
use Rattle.matrix.specs.Places.{zeros, at, Fit}
use Rattle.matrix.proofs.Tables.{length-tabulate, at-tabulate, first_tabulate, map-tabulate, zeros-finite}
use Rattle.kinds.specs.Table.{kind_numbered}
use Rattle.kinds.specs.Work.{Asked, WorkedAnswer, first_of, refused_kind, used_finite, plain_of}
use Rattle.kinds.specs.Ways.{is_scaled, times_all, power_for, divided, revalued, multiplied_back, work_of}
use Rattle.kinds.proofs.Rows.{nine_most}
use Rattle.kinds.proofs.Works.{Sized, plain-sized, Clear, plain_clear, Uncounted, plain_uncounted, plain_mark, NotFive, plain-five}

-- ---- the numbers before

-- the first numbers of those times 2 ^ k are the first numbers, times 2 ^ k
pub first_times : (f : Format) (k : ℤ) (n : ℕ) (xs : List Float) → n ≤ 9 → first_of n (times_all f k 9 xs) ≡ map (times_power f k) (first_of n xs)
first_times f k n xs h = first_tabulate n 9 (λ (i : ℕ). times_power f k (at xs i)) h ∙ map-tabulate n (times_power f k) (at xs)

pub divided_used : (f : Format) (a : Asked) → used_finite a ≡ true → used_finite (divided f (power_for f a) a) ≡ true
divided_used f a h =
    let n = (kind_numbered a.kind).nine in
    let xs = first_of n a.nine in
    let t = both_true (all_finite xs) (all_finite (first_of (kind_numbered a.kind).three a.three)) h in
    rw (first_times f (neg_ℤ (power_for f a)) n a.nine (nine_most a.kind), divided-finite f xs t.0, t.1)

-- the largest magnitude is then from 1 up to 2, if it was not zero
pub divided_between : (f : Format) (a : Asked) → used_finite a ≡ true → Fit f 9 a.nine
    → eq (largest_magnitude f (first_of (kind_numbered a.kind).nine a.nine)) (zero_f f) ≡ false
    → let y = largest_magnitude f (first_of (kind_numbered a.kind).nine (divided f (power_for f a) a).nine) in (le (one_f f) y ≡ true) × (lt y (two_f f) ≡ true)
divided_between f a h fit some =
    let n = (kind_numbered a.kind).nine in
    let xs = first_of n a.nine in
    let most = nine_most a.kind in
    let size = length-tabulate n (at a.nine) in
    let all = (both_true (all_finite xs) (all_finite (first_of (kind_numbered a.kind).three a.three)) h).0 in
    rw (first_times f (neg_ℤ (power_for f a)) n a.nine most)
    (divided_range f xs all (λ i l. subst⁻¹ (λ (x : Float). T (fits f x)) (at-tabulate n (at a.nine) i (omega arith)) (fit i (omega arith))) some)

-- ---- multiplying back

-- its two ends
pub by_back : (f : Format) (k : ℤ) (w : WorkedAnswer) (P : WorkedAnswer → Type 0)
    → (all_finite (times_all f k 3 w.values) ≡ true → P (revalued (times_all f k 3 w.values) w))
    → (all_finite (times_all f k 3 w.values) ≡ false → P (refused_kind f 7 0))
    → P (multiplied_back f k w)
unfolding multiplied_back judged
by_back f k w P = by_test P (all_finite (times_all f k 3 w.values)) (revalued (times_all f k 3 w.values) w) (refused_kind f 7 0)

times_zeros : (f : Format) (k : ℤ) → times_all f k 3 (zeros f 3) ≡ zeros f 3
times_zeros f k = rw (scaled_zero f k)

-- what is refused stays as it is
pub back_refused : (f : Format) (k : ℤ) (code pivot : ℕ) → multiplied_back f k (refused_kind f code pivot) ≡ refused_kind f code pivot
unfolding multiplied_back judged
back_refused f k code pivot = rw (times_zeros f k, zeros-finite f 3)

-- m is what is worked, k the power that it is divided by if it is, and P and Q say what is known in each case
pub refused_either : (f : Format) (a m : Asked) (k : Option ℤ) (P : Type 0) (Q : ℤ → Type 0) (code pivot : ℕ)
    → k ≡ pick (is_scaled a) (Some (power_for f a)) None → MatchOption k P Q → (P → m ≡ a) → ((x : ℤ) → Q x → m ≡ divided f x a)
    → refused_kind f code pivot ≡ plain_of f m → refused_kind f code pivot ≡ work_of f a
refused_either f a m k P Q code pivot e h p q r = by (is_scaled a) refl
  where
    by : (t : Bool) → is_scaled a ≡ t → refused_kind f code pivot ≡ work_of f a
    by true s =
        let x = power_for f a in
        let d = q x (rw (e, s) at h) in
        rw s (sym (back_refused f x code pivot) ∙ ap (multiplied_back f x) (r ∙ ap (plain_of f) d))
    by false s = rw s (r ∙ ap (plain_of f) (p (rw (e, s) at h)))

pub back_kept : (f : Format) (k : ℤ) (w : WorkedAnswer) → Clear f w → (w.code ≡ 0 → ⊥) → multiplied_back f k w ≡ w
back_kept f k w h n = ap (multiplied_back f k) (h n) ∙ back_refused f k w.code w.count ∙ sym (h n)

back_sized : (f : Format) (k : ℤ) (w : WorkedAnswer) → Sized w → Sized (multiplied_back f k w)
back_sized f k w h = by_back f k w Sized (λ _. (refl, h.1, h.2)) (λ _. (refl, refl, refl))

back_clear : (f : Format) (k : ℤ) (w : WorkedAnswer) → Clear f w → Clear f (multiplied_back f k w)
back_clear f k w h =
    by_back f k w (Clear f)
    (λ _ n. subst⁻¹ (λ (w : WorkedAnswer). revalued (times_all f k 3 w.values) w ≡ refused_kind f w.code w.count) (h n) (rw (times_zeros f k)))
    (λ _ _. refl)

back_uncounted : (f : Format) (k : ℤ) (w : WorkedAnswer) (counts : Bool) → Uncounted counts w → Uncounted counts (multiplied_back f k w)
back_uncounted f k w counts h = by_back f k w (Uncounted counts) (λ _. h) (λ _ _ _. refl)

back_mark : (f : Format) (k : ℤ) (w : WorkedAnswer) → w.settled ≤ 1 → (multiplied_back f k w).settled ≤ 1
back_mark f k w h = by_back f k w (λ (w : WorkedAnswer). w.settled ≤ 1) (λ _. h) (λ _. omega arith)

back_five : (f : Format) (k : ℤ) (w : WorkedAnswer) → NotFive w → NotFive (multiplied_back f k w)
back_five f k w h = by_back f k w NotFive (λ _. h) (λ _ e. omega arith)

-- ---- either way

module _ (f : Format) (a : Asked) where
  abbrev within : Asked
  within = divided f (power_for f a) a

  -- what holds of a kernel's answer and is kept by multiplying back holds of both
  pub by_way : (P : WorkedAnswer → Type 0) → (is_scaled a ≡ true → P (multiplied_back f (power_for f a) (plain_of f within)))
      → (is_scaled a ≡ false → P (plain_of f a))
      → P (work_of f a)
  by_way P = by_test P (is_scaled a) (multiplied_back f (power_for f a) (plain_of f within)) (plain_of f a)

  pub work_sized : Sized (work_of f a)
  work_sized = by_way Sized (λ _. back_sized f (power_for f a) (plain_of f within) (plain-sized f within)) (λ _. plain-sized f a)

  pub work_clear : Clear f (work_of f a)
  work_clear = by_way (Clear f) (λ _. back_clear f (power_for f a) (plain_of f within) (plain_clear f within)) (λ _. plain_clear f a)

  pub work_uncounted : Uncounted (kind_numbered a.kind).counts (work_of f a)
  work_uncounted =
      let counts = (kind_numbered a.kind).counts in
      by_way (Uncounted counts) (λ _. back_uncounted f (power_for f a) (plain_of f within) counts (plain_uncounted f within)) (λ _. plain_uncounted f a)

  pub work_mark : (work_of f a).settled ≤ 1
  work_mark =
      by_way (λ (w : WorkedAnswer). w.settled ≤ 1) (λ _. back_mark f (power_for f a) (plain_of f within) (plain_mark f within)) (λ _. plain_mark f a)

  pub work_five : used_finite a ≡ true → NotFive (work_of f a)
  work_five h =
      by_way NotFive (λ _. back_five f (power_for f a) (plain_of f within) (plain-five f within (divided_used f a h))) (λ _. plain-five f a h)
