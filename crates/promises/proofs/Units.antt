-- A matrix in other units has a largest magnitude 2 ^ j times as large, and so a power of two that is more by j. Divided by it, both matrices are the same
-- numbers, rounded alike: the kernel sees no difference. Its values are multiplied back by one power or by the other.
use Rattle.float.proofs.Words.{◌≡◌, refl, sym, ap, ◌∙◌, subst, subst⁻¹, Bool, true, false, ◌&&◌, false≢true, List, map, ℕ, ◌≤◌, ◌<◌}
use Rattle.float.proofs.Words.{arith}
use Rattle.float.proofs.Words.{ℤ, pos, neg_ℤ, ◌+ℤ◌, T, eqb, ltb, length, drop, Float, nan, inf, fin, Format, eq, fits, zero, suc}
use lib.IntN.{+ℤ_assoc, +ℤ_comm, +ℤ_idr, +ℤ_invr, neg_ℤ-+ℤ}
use Rattle.float.specs.Choice.{pick}
use Rattle.float.specs.Constants.{zero_f}
use Rattle.float.specs.Sign.{finite, all_finite}
use Rattle.float.specs.Scaled.{times_power, shifted, largest_magnitude, power_under, power_of}
use Rattle.float.proofs.Choice.{by_ltb}
use Rattle.float.proofs.Finite.{both_true}
use Rattle.float.proofs.Zeros.{zero_fits}
use Rattle.float.proofs.Scaling.{scaled_fits, scaled_shifted}
use Rattle.float.proofs.Power.{largest-finite, largest-shifted, power-shifted}
use Rattle.matrix.specs.Places.{at, Fit}
use Rattle.matrix.proofs.Tables.{at-tabulate, tabulate-same, first_tabulate, map-tabulate, tables_finite, zeros_fit}
use Rattle.eigen.specs.Eigen2x2.{eigen2_of}
use Rattle.eigen.specs.Eigen3x3.{eigen_of}
use Rattle.eigen.proofs.Fits as eigen
use Rattle.svd.specs.Svd2x2.{svd2_of}
use Rattle.svd.specs.Svd3x3.{svd_of}
use Rattle.svd.proofs.Fits as svd
use Rattle.kinds.specs.Table.{Kernel, Kind, kind_numbered}
use Rattle.kinds.specs.Work.{Asked, first_of, padded, refused_kind, from_eigen2, from_eigen3, from_svd2, from_svd3, used_finite, answered_by, plain_of}
use Rattle.kinds.specs.Work.{WorkedAnswer}
use Rattle.kinds.specs.Ways.{is_scaled, times_all, power_for, divided, multiplied_back, work_of}
use Rattle.kinds.proofs.Rows.{each_kind, nine_most}
use Rattle.kinds.proofs.Works.{Clear, plain_clear}
use Rattle.kinds.proofs.BothWays.{back_refused, back_kept}
use Rattle.wire.specs.Bytes.{place_of}
use Rattle.record.specs.Layout.{nine_at, request_size}
use Rattle.record.specs.Request.{kind_of, way_of, asked_of, judged_of}
use Rattle.promises.specs.Scope.{divided_in}
use Rattle.promises.specs.Conditions.{values_of}
use Rattle.promises.specs.Units.{OtherUnits, SameWork}
use Rattle.promises.proofs.Scope.{number-length, request_length_lem, in_table, numbers_in_lem, used_nine_lem, scaled_in_lem, power_in_lem, divided_in_lem}
use Rattle.promises.proofs.Kernels.{values_made}
use Rattle.promises.proofs.Bodies.{kind_same, way_same, kept}

-- ---- one number

finite-shifted : (j : ℤ) (x : Float) → finite (shifted j x) ≡ finite x
unfolding finite
finite-shifted j nan = refl
finite-shifted j (inf s) = refl
finite-shifted j (fin s zero e) = refl
finite-shifted j (fin s (suc m) e) = refl

-- j more, and k + j less
less_power : (j k : ℤ) → j +ℤ neg_ℤ (k +ℤ j) ≡ neg_ℤ k
less_power j k =
    ap (λ (z : ℤ). j +ℤ z) (neg_ℤ-+ℤ k j ∙ +ℤ_comm (neg_ℤ k) (neg_ℤ j)) ∙ sym (+ℤ_assoc j (neg_ℤ j) (neg_ℤ k)) ∙ ap (λ (z : ℤ). z +ℤ neg_ℤ k) (+ℤ_invr j)
    ∙ +ℤ_comm (pos 0) (neg_ℤ k) ∙ +ℤ_idr (neg_ℤ k)

-- ---- the numbers of a matrix: the first n of y are those of x, times 2 ^ j

module _ (f : Format) (j : ℤ) (n : ℕ) (x y : List Float) (more : (i : ℕ) → i < n → at y i ≡ shifted j (at x i)) where
  firsts : first_of n y ≡ map (shifted j) (first_of n x)
  firsts = tabulate-same n (at y) (λ (i : ℕ). shifted j (at x i)) more ∙ map-tabulate n (shifted j) (at x)

  firsts_finite : all_finite (first_of n y) ≡ all_finite (first_of n x)
  firsts_finite =
      ap all_finite (tabulate-same n (at y) (λ (i : ℕ). shifted j (at x i)) more)
      ∙ tables_finite n (λ (i : ℕ). shifted j (at x i)) (at x) (λ i. finite-shifted j (at x i))

  module _ (all : all_finite (first_of n x) ≡ true) (some : eq (largest_magnitude f (first_of n x)) (zero_f f) ≡ false) where
    power_more : power_of f (first_of n y) ≡ power_of f (first_of n x) +ℤ j
    power_more =
        ap (power_of f) firsts ∙ ap power_under (largest-shifted f j (first_of n x))
        ∙ power-shifted f j (largest_magnitude f (first_of n x)) (largest-finite f (first_of n x) all) some

    -- divided, both are the same
    divided-same : n ≤ 9 → let k = power_of f (first_of n x) in first_of n (times_all f (neg_ℤ (k +ℤ j)) 9 y) ≡ first_of n (times_all f (neg_ℤ k) 9 x)
    divided-same most =
        let k = power_of f (first_of n x) in
        first_tabulate n 9 (λ (i : ℕ). times_power f (neg_ℤ (k +ℤ j)) (at y i)) most
        ∙ tabulate-same n _ (λ (i : ℕ). times_power f (neg_ℤ k) (at x i)) (λ i l.
        ap (times_power f (neg_ℤ (k +ℤ j))) (more i l) ∙ scaled_shifted f j (neg_ℤ (k +ℤ j)) (at x i)
        ∙ ap (λ (z : ℤ). times_power f z (at x i)) (less_power j k))
        ∙ sym (first_tabulate n 9 (λ (i : ℕ). times_power f (neg_ℤ k) (at x i)) most)

-- ---- a kind whose matrix is scaled: its kernel sees the numbers that it uses, and its values fit

plain_by_used : (f : Format) (a b : Asked) → a.kind ≡ b.kind → (kind_numbered a.kind).scales ≡ true
    → first_of (kind_numbered a.kind).nine a.nine ≡ first_of (kind_numbered a.kind).nine b.nine → plain_of f a ≡ plain_of f b
unfolding answered_by
plain_by_used f a b e =
    let n = (kind_numbered a.kind).nine in
    subst (λ (k : ℕ). (kind_numbered a.kind).scales ≡ true → first_of n a.nine ≡ first_of n b.nine
    → plain_of f a ≡ answered_by f (kind_numbered k).kernel b) e
    (each_kind (λ (k : Kind). k.scales ≡ true → first_of k.nine a.nine ≡ first_of k.nine b.nine
    → answered_by f k.kernel a ≡ answered_by f k.kernel b) (λ s _. absurd (false≢true s))
    (λ _ e. ap (λ (x : List Float). from_eigen2 f (eigen2_of f x)) e)
    (λ _ e. ap (λ (x : List Float). from_eigen3 f (eigen_of f x)) e)
    (λ _ e. ap (λ (x : List Float). from_svd2 f (svd2_of f x)) e)
    (λ _ e. ap (λ (x : List Float). from_svd3 f (svd_of f x)) e)
    (λ s _. absurd (false≢true s)) (λ s _. absurd (false≢true s)) (λ s _. absurd (false≢true s)) (λ s _. absurd (false≢true s)) a.kind)

padded_fit : (f : Format) (n : ℕ) (xs : List Float) → Fit f n xs → Fit f 3 (padded f 3 n xs)
padded_fit f n xs h i l =
    subst⁻¹ (λ (x : Float). T (fits f x)) (at-tabulate 3 (λ (i : ℕ). pick (ltb i n) (at xs i) (zero_f f)) i l)
    (by_ltb (λ (x : Float). T (fits f x)) i n (at xs i) (zero_f f) (h i) (λ _. zero_fits f))

pub plain_fit : (f : Format) (a : Asked) → (kind_numbered a.kind).scales ≡ true → Fit f 9 a.nine → Fit f 3 (plain_of f a).values
unfolding answered_by
plain_fit f a s h =
    let nine = a.nine in
    let first : (n : ℕ) → n ≤ 9 → Fit f n (first_of n nine) =
    λ (n : ℕ) most i l. subst⁻¹ (λ (x : Float). T (fits f x)) (at-tabulate n (at nine) i l) (h i (omega arith)) in
    each_kind (λ (k : Kind). k.scales ≡ true → Fit f 3 (answered_by f k.kernel a).values) (λ s. absurd (false≢true s))
    (λ _. padded_fit f 2 (eigen2_of f (first_of 3 nine)).values (eigen.values2_fit f (first_of 3 nine)))
    (λ _. padded_fit f 3 (eigen_of f (first_of 6 nine)).values (eigen.values_fit f (first_of 6 nine) refl (first 6 (omega arith))))
    (λ _. padded_fit f 2 (svd2_of f (first_of 4 nine)).values (svd.values2_fit f (first_of 4 nine)))
    (λ _. padded_fit f 3 (svd_of f (first_of 9 nine)).values (svd.values_fit f (first_of 9 nine) refl (first 9 (omega arith))))
    (λ s. absurd (false≢true s)) (λ s. absurd (false≢true s)) (λ s. absurd (false≢true s)) (λ s. absurd (false≢true s)) a.kind s

-- ---- what a kind answers: b is a with other numbers

record Twice (f : Format) (j k : ℤ) (p : WorkedAnswer) (v : List Float) (x y : WorkedAnswer) : Type 0 where
  work : WorkedAnswer
  this : x ≡ multiplied_back f k work
  that : y ≡ multiplied_back f (k +ℤ j) work
  clear : Clear f work
  kernel : work.code ≡ 0 → work ≡ p
  values : work.code ≡ 0 → work.values ≡ v
  fit : Fit f 3 work.values

module _ (f : Format) (j : ℤ) (a : Asked) (y q : List Float) (scaled : is_scaled a ≡ true) (used : used_finite a ≡ true)
    (more : (i : ℕ) → i < (kind_numbered a.kind).nine → at y i ≡ shifted j (at a.nine i))
    (some : eq (largest_magnitude f (first_of (kind_numbered a.kind).nine a.nine)) (zero_f f) ≡ false) where
  abbrev b : Asked
  b = record { kind = a.kind; way = a.way; nine = y; three = q }

  abbrev n : ℕ
  n = (kind_numbered a.kind).nine

  scales : (kind_numbered a.kind).scales ≡ true
  scales = (both_true (kind_numbered a.kind).scales (eqb a.way 0) scaled).0

  all : all_finite (first_of n a.nine) ≡ true
  all = (both_true (all_finite (first_of n a.nine)) (all_finite (first_of (kind_numbered a.kind).three a.three)) used).0

  work_same : let d = divided f (power_for f a) a in
      Twice f j (power_for f a) (plain_of f d) (values_of f (kind_numbered a.kind).kernel d) (work_of f a) (work_of f b)
  work_same =
      let k = power_for f a in
      let w = plain_of f (divided f k a) in
      let power : power_for f b ≡ k +ℤ j = power_more f j n a.nine y more all some in
      let same : plain_of f (divided f (k +ℤ j) b) ≡ w =
      plain_by_used f (divided f (k +ℤ j) b) (divided f k a) refl scales (divided-same f j n a.nine y more all some (nine_most a.kind)) in
      record {
        work = w;
        clear = plain_clear f (divided f k a);
        kernel = (λ _. refl);
        values = values_made f (divided f k a) scales;
        fit = plain_fit f (divided f k a) scales
            (λ i l. subst⁻¹ (λ (x : Float). T (fits f x)) (at-tabulate 9 (λ (i : ℕ). times_power f (neg_ℤ k) (at a.nine i)) i l) (scaled_fits f (neg_ℤ k) _));
        this = ap (λ (t : Bool). pick t (multiplied_back f k w) (plain_of f a)) scaled;
        that = ap (λ (t : Bool). pick t (multiplied_back f (power_for f b) (plain_of f (divided f (power_for f b) b))) (plain_of f b)) scaled
            ∙ ap (λ (p : ℤ). multiplied_back f p (plain_of f (divided f p b))) power ∙ ap (multiplied_back f (k +ℤ j)) same;
      }

refused_twice : (f : Format) (j k : ℤ) (p : WorkedAnswer) (v : List Float) (code : ℕ) → (code ≡ 0 → ⊥)
    → Twice f j k p v (refused_kind f code 0) (refused_kind f code 0)
refused_twice f j k p v code n = record {
  work = refused_kind f code 0;
  this = sym (back_refused f k code 0);
  that = sym (back_refused f (k +ℤ j) code 0);
  clear = (λ _. refl);
  kernel = (λ e. absurd (n e));
  values = (λ e. absurd (n e));
  fit = zeros_fit f 3;
}

-- ---- two requests

scales_alone : (n : ℕ) → (kind_numbered n).scales ≡ true → (kind_numbered n).three ≡ 0
scales_alone =
    each_kind (λ (k : Kind). k.scales ≡ true → k.three ≡ 0) (λ _. refl) (λ _. refl) (λ _. refl) (λ _. refl) (λ _. refl) (λ _. refl) (λ _. refl)
    (λ s. absurd (false≢true s)) (λ s. absurd (false≢true s))

module _ (f : Format) (j : ℤ) (s t : List ℕ) (o : OtherUnits f j s t) where
  abbrev asked : Asked
  asked = asked_of f s

  abbrev used : ℕ
  used = (kind_numbered (kind_of s)).nine

  is_scaled_lem : is_scaled asked ≡ true
  is_scaled_lem = sym (scaled_in_lem f s) ∙ o.scaled

  alone : (kind_numbered (kind_of s)).three ≡ 0
  alone = scales_alone (kind_of s) (both_true (kind_numbered (kind_of s)).scales (eqb (way_of s) 0) is_scaled_lem).0

  pub size_of : length s ≡ request_size f
  size_of = o.size ∙ request_length_lem f

  pub size_of' : length t ≡ request_size f
  size_of' = o.size' ∙ request_length_lem f

  same_rest : drop (place_of f nine_at used) t ≡ drop (place_of f nine_at used) s
  same_rest = rw (← number-length f, ← (in_table (kind_of s)).0) o.rest

  more_by : (i : ℕ) → i < used → at (asked_of f t).nine i ≡ shifted j (at asked.nine i)
  more_by i l =
      ap (λ (x : List Float). at x i) (sym (numbers_in_lem f 8 9 t)) ∙ o.numbers i (rw (in_table (kind_of s)).0 l)
      ∙ ap (λ (x : List Float). shifted j (at x i)) (numbers_in_lem f 8 9 s)

  some_by : eq (largest_magnitude f (first_of used asked.nine)) (zero_f f) ≡ false
  some_by = ap (λ (x : List Float). eq (largest_magnitude f x) (zero_f f)) (sym (used_nine_lem f s)) ∙ o.some

  kind' : kind_of t ≡ kind_of s
  kind' = kind_same f s t used refl alone (nine_most (kind_of s)) size_of size_of' o.head same_rest

  way' : way_of t ≡ way_of s
  way' = way_same f s t used refl alone (nine_most (kind_of s)) size_of size_of' o.head same_rest

  abbrev other : Asked
  other = record { kind = kind_of s; way = way_of s; nine = (asked_of f t).nine; three = (asked_of f t).three }

  is_other : asked_of f t ≡ other
  is_other =
      ap (λ (k : ℕ). record { kind = k; way = way_of t; nine = (asked_of f t).nine; three = (asked_of f t).three }) kind'
      ∙ ap (λ (w : ℕ). record { kind = kind_of s; way = w; nine = (asked_of f t).nine; three = (asked_of f t).three }) way'

  used_same : used_finite (asked_of f t) ≡ used_finite asked
  unfolding all_finite
  used_same =
      ap used_finite is_other
      ∙ ap (λ (z : Bool). z && all_finite (first_of (kind_numbered (kind_of s)).three (asked_of f t).three))
      (firsts_finite f j used asked.nine (asked_of f t).nine more_by)
      ∙ (rw alone)

  -- what is worked, what the kernel answers to it, and the values of that
  abbrev small : Asked
  small = divided f (power_for f asked) asked

  abbrev SameTwice : WorkedAnswer → WorkedAnswer → Type 0
  SameTwice = Twice f j (power_for f asked) (plain_of f small) (values_of f (kind_numbered (kind_of s)).kernel small)

  twice : SameTwice (judged_of f s) (judged_of f t)
  twice =
      kept f s t used refl alone (nine_most (kind_of s)) size_of size_of' o.head same_rest SameTwice
      (refused_twice f j (power_for f asked) (plain_of f small) (values_of f (kind_numbered (kind_of s)).kernel small)) used_same
      (λ u. subst⁻¹ (λ (b : Asked). SameTwice (work_of f asked) (work_of f b)) is_other
      (work_same f j asked (asked_of f t).nine (asked_of f t).three is_scaled_lem u more_by some_by))

  pub same_work : SameWork f j s (judged_of f s) (judged_of f t)
  same_work =
      let h = twice in
      let k = power_for f asked in
      let e = power_in_lem f s in
      record {
        work = h.work;
        this = h.this ∙ ap (λ (k : ℤ). multiplied_back f k h.work) (sym e);
        that = h.that ∙ ap (λ (k : ℤ). multiplied_back f (k +ℤ j) h.work) (sym e);
        refused = (λ n. (h.this ∙ back_kept f k h.work h.clear n, h.that ∙ back_kept f (k +ℤ j) h.work h.clear n));
        kernel = (λ c. h.kernel c ∙ ap (plain_of f) (sym (divided_in_lem f s)));
        values = (λ c. h.values c ∙ ap (values_of f (kind_numbered (kind_of s)).kernel) (sym (divided_in_lem f s))
            ∙ ap (λ (c : Kernel). values_of f c (divided_in f s)) (sym (in_table (kind_of s)).2));
        fit = h.fit;
      }
