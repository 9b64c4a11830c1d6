-- Reversed wiring at the record: of the kernel's answers the theorems `reversed` and `reversed2` tell, and the flipped request is answered by them.
use Rattle.float.proofs.Words.{◌≡◌, refl, sym, ap, ◌∙◌, subst, subst₂, Bool, true, false, ◌&&◌, true≢false, List, map, inl, inr, ℕ, ◌+◌, ◌≤◌, ◌<◌, arith, ℤ}
use Rattle.matrix.specs.Codes.{code_of}
use Rattle.matrix.specs.declared.codes.Refusal.{Refusal}
use Rattle.std.specs.Prelude.{Result}
use Rattle.float.proofs.Words.{neg_ℤ, length, get_or, take, Float, Format}
use contract.Lifetimes.{Lfts}
use Rattle.float.specs.Width.{F}
use Rattle.float.specs.Sign.{finite, all_finite}
use Rattle.float.specs.Scaled.{times_power}
use Rattle.float.proofs.Choice.{both_chosen, whether}
use Rattle.float.proofs.Finite.{at-finite, zero-finite}
use Rattle.float.proofs.Negation.{finite_rel}
use Rattle.float.proofs.Scaling.{scaled_zero, scaled_rel}
use Rattle.matrix.specs.Places.{at, negated_of}
use Rattle.matrix.proofs.Tables.{at-tabulate, tabulate_all}
use Rattle.jacobi.specs.Blind.{mark_of}
use Rattle.jacobi.specs.declared.made.Made.{Made}
use Rattle.eigen.specs.Eigen2x2.{eigen2_of}
use Rattle.eigen.specs.Eigen3x3.{EigenAnswer, eigen_of}
use Rattle.eigen.specs.Reversed.{Opposite, Differ, AllDiffer, ValuesExchanged, ColumnsExchanged, Reversed}
use Rattle.eigen.specs.Reversed2x2 as eigen2
use Rattle.eigen.proofs.Fits.{values2_length}
use Rattle.eigen.proofs.Reversed.{reversed}
use Rattle.eigen.proofs.Reversed2x2 as eigen2x2
use Rattle.svd.specs.Svd2x2.{svd2_of}
use Rattle.svd.specs.Reversed2x2 as svd2
use Rattle.svd.proofs.Reversed2x2 as svd2x2
use Rattle.kinds.specs.Table.{kind_numbered}
use Rattle.kinds.specs.Work.{WorkedAnswer, Asked, first_of, padded, from_eigen3, refused_kind, answered_by, plain_of}
use Rattle.kinds.specs.Ways.{is_scaled, times_all, power_for, divided, revalued, multiplied_back, work_of}
use Rattle.kinds.proofs.Works.{plain-sized, plain_clear}
use Rattle.kinds.proofs.BothWays.{by_back, back_kept}
use Rattle.wire.specs.Bytes.{part}
use Rattle.record.specs.Layout.{event_bytes, request_size, code_at, answer_size}
use Rattle.record.specs.Request.{kind_of, judged_of}
use Rattle.record.specs.Answer.{answered_of, Step}
use Rattle.record.proofs.Answers.{event_length, with_room, head_byte, code_in_place}
use Rattle.record.proofs.Streams.{stepped}
use Rattle.record.proofs.answer.zanikory_answer_record.Reads as answer-record
use Rattle.promises.specs.Wiring.{flipped, Bytes, SameByte, ReversedRecords, PairFlipped, ReversedMarks}
use Rattle.promises.proofs.Vouched.{plain_vouched}
use Rattle.promises.proofs.Mirrored.{power-minus, times_minus, opposite_together, opposite_times, differ_before}
use Rattle.promises.proofs.Columns.{bytes_exchanged}
use Rattle.promises.proofs.Flipped.{flipped-size, flipped_kept}

-- ---- the head of an answer, byte by byte

module _ (f : Format) (s : List ℕ) (size : length s ≡ request_size f) where
  code_of_lem : get_or (answered_of f s) (event_bytes + 1) 0 ≡ (judged_of f s).code
  code_of_lem = head_byte f (take event_bytes s) (kind_of s) (judged_of f s) 1 (event_length f s size)

  pub count_of : get_or (answered_of f s) (event_bytes + 2) 0 ≡ (judged_of f s).count
  count_of = head_byte f (take event_bytes s) (kind_of s) (judged_of f s) 2 (event_length f s size)

  pub mark_of_lem : get_or (answered_of f s) (event_bytes + 3) 0 ≡ (judged_of f s).settled
  mark_of_lem = head_byte f (take event_bytes s) (kind_of s) (judged_of f s) 3 (event_length f s size)

-- ---- the answers of the kernel

-- what `ReversedRecords` asks, before the answers are bytes
record Alike (x y : WorkedAnswer) : Type 0 where
  pub codes : x.code ≡ y.code
  pub counts : x.count ≡ y.count
  pub marks : x.settled ≡ y.settled
  pub values : x.code ≡ 0 → ValuesExchanged x.values y.values
  pub columns : x.code ≡ 0 → AllDiffer x.values → ColumnsExchanged x.left y.left

refused_alike : (f : Format) (k : ℕ) → (k ≡ 0 → ⊥) → Alike (refused_kind f k 0) (refused_kind f k 0)
refused_alike f k n = record { codes = refl; counts = refl; marks = refl; values = (λ e. absurd (n e)); columns = (λ e _. absurd (n e)) }

eigen_alike : (f : Format) (r q : EigenAnswer) → Reversed r q → Alike (from_eigen3 f r) (from_eigen3 f q)
eigen_alike f r q h =
    record { codes = h.codes; counts = ap (λ (m : Made). m.count) h.made; marks = ap mark_of h.marks; values = h.values; columns = h.columns }

plain_alike : (f : Format) (way : ℕ) (x y p q : List Float) → first_of 6 y ≡ negated_of 6 (first_of 6 x)
    → Alike (plain_of f (record { kind = 2; way = way; nine = x; three = p })) (plain_of f (record { kind = 2; way = way; nine = y; three = q }))
unfolding answered_by
plain_alike f way x y p q e =
    let a = first_of 6 x in
    eigen_alike f (eigen_of f a) (eigen_of f (first_of 6 y)) (subst (λ (z : List Float). Reversed (eigen_of f a) (eigen_of f z)) (sym e) (reversed f a refl))

-- ---- multiplied back: the values stay exchanged and negated, and where no two of them are equal no two were before

mirrored : (a b c d e g : Bool) → a ≡ g → b ≡ e → c ≡ d → a && (b && (c && true)) ≡ d && (e && (g && true))
mirrored a b c d e g p q r = rw (p, q, r) (turned g e d)
  where
    turned : (a b c : Bool) → a && (b && (c && true)) ≡ c && (b && (a && true))
    turned true true true = refl
    turned true true false = refl
    turned true false true = refl
    turned true false false = refl
    turned false true true = refl
    turned false true false = refl
    turned false false true = refl
    turned false false false = refl

module _ (f : Format) (k : ℤ) (a b : Asked) (h : Alike (plain_of f a) (plain_of f b)) where
  abbrev ours : WorkedAnswer
  ours = plain_of f a

  abbrev theirs : WorkedAnswer
  theirs = plain_of f b

  abbrev our_value : ℕ → Float
  our_value i = at ours.values i

  abbrev their_value : ℕ → Float
  their_value i = at theirs.values i

  value_finite : (a : Asked) (i : ℕ) → i < 3 → finite (at (plain_of f a).values i) ≡ true
  value_finite a i l = at-finite (plain_of f a).values (plain_vouched f a).0 i (omega (arith, (plain-sized f a).0))

  module _ (c : ours.code ≡ 0) where
    tests : all_finite (times_all f k 3 ours.values) ≡ all_finite (times_all f k 3 theirs.values)
    unfolding all_finite
    tests =
        let v = h.values c in
        let of : (i j : ℕ) → i < 3 → j < 3 → Opposite (our_value i) (their_value j)
        → finite (times_power f k (our_value i)) ≡ finite (times_power f k (their_value j)) =
        λ (i j : ℕ) l m. opposite_together f k (our_value i) (their_value j) (value_finite a i l) (value_finite b j m) in
        mirrored _ _ _ _ _ _ (of 0 2 (omega arith) (omega arith) v.0) (of 1 1 (omega arith) (omega arith) v.1) (of 2 0 (omega arith) (omega arith) v.2)

    times_alike : all_finite (times_all f k 3 ours.values) ≡ true
        → Alike (revalued (times_all f k 3 ours.values) ours) (revalued (times_all f k 3 theirs.values) theirs)
    times_alike t =
        let v = h.values c in
        let after : (i : ℕ) → i < 3 → finite (times_power f k (our_value i)) ≡ true =
        λ (i : ℕ) l. sym (ap finite (at-tabulate 3 (λ (i : ℕ). times_power f k (our_value i)) i l)) ∙ at-finite (times_all f k 3 ours.values) t i l in
        let of : (i j : ℕ) → i < 3 → Opposite (our_value i) (their_value j) → Opposite (times_power f k (our_value i)) (times_power f k (their_value j)) =
        λ (i j : ℕ) l. opposite_times f k (our_value i) (their_value j) (value_finite a i l) (after i l) in
        let apart : (i j : ℕ) → i < 3 → Differ (times_power f k (our_value i)) (times_power f k (our_value j)) → Differ (our_value i) (our_value j) =
        λ (i j : ℕ) l. differ_before f k (our_value i) (our_value j) (value_finite a i l) (after i l) in
        record {
          codes = h.codes;
          counts = h.counts;
          marks = h.marks;
          values = (λ _. (of 0 2 (omega arith) v.0, of 1 1 (omega arith) v.1, of 2 0 (omega arith) v.2));
          columns = (λ _ d. h.columns c (apart 0 1 (omega arith) d.0, apart 1 2 (omega arith) d.1));
        }

    done_alike : Alike (multiplied_back f k ours) (multiplied_back f k theirs)
    done_alike =
        by_back f k ours (λ (u : WorkedAnswer). Alike u (multiplied_back f k theirs))
        (λ t. by_back f k theirs (λ (v : WorkedAnswer). Alike (revalued (times_all f k 3 ours.values) ours) v) (λ _. times_alike t)
        (λ e. absurd (true≢false (sym t ∙ tests ∙ e))))
        (λ t. by_back f k theirs (λ (v : WorkedAnswer). Alike (refused_kind f 7 0) v) (λ e. absurd (true≢false (sym e ∙ sym tests ∙ t)))
        (λ _. refused_alike f 7 (λ e. absurd (omega arith))))

  back_alike : Alike (multiplied_back f k ours) (multiplied_back f k theirs)
  back_alike =
      whether ours.code 0 done_alike
      (λ n. subst₂ Alike (sym (back_kept f k ours (plain_clear f a) n)) (sym (back_kept f k theirs (plain_clear f b) (λ e. n (h.codes ∙ e)))) h)

-- ---- both ways, of a kind that uses n of the nine numbers. What the kernel's answers keep is R, and what is handed back keeps is S

module _ (f : Format) (kind n : ℕ) (nine : (kind_numbered kind).nine ≡ n) (most : n ≤ 9) (R S : WorkedAnswer → WorkedAnswer → Type 0)
    (plain : (way : ℕ) (x y p q : List Float) → first_of n y ≡ negated_of n (first_of n x)
    → R (plain_of f (record { kind = kind; way = way; nine = x; three = p })) (plain_of f (record { kind = kind; way = way; nine = y; three = q })))
    (stays : (u v : WorkedAnswer) → R u v → S u v)
    (back : (k : ℤ) (a b : Asked) → R (plain_of f a) (plain_of f b) → S (multiplied_back f k (plain_of f a)) (multiplied_back f k (plain_of f b))) where
  both_ways : (way : ℕ) (x y p q : List Float) → first_of n y ≡ negated_of n (first_of n x)
      → S (work_of f (record { kind = kind; way = way; nine = x; three = p })) (work_of f (record { kind = kind; way = way; nine = y; three = q }))
  both_ways way x y p q e =
      let a : Asked = record { kind = kind; way = way; nine = x; three = p } in
      let b : Asked = record { kind = kind; way = way; nine = y; three = q } in
      let k = power_for f a in
      let same : power_for f b ≡ k = rw nine (power-minus f n most x y e) in
      both_chosen S (is_scaled a) _ _ _ _
      (λ _. rw same (back k (divided f k a) (divided f k b) (plain way _ _ p q (times_minus f n most x y e (neg_ℤ k)))))
      (λ _. stays (plain_of f a) (plain_of f b) (plain way x y p q e))

three_alike : (f : Format) (way : ℕ) (x y p q : List Float) → first_of 6 y ≡ negated_of 6 (first_of 6 x)
    → Alike (work_of f (record { kind = 2; way = way; nine = x; three = p })) (work_of f (record { kind = 2; way = way; nine = y; three = q }))
three_alike f = both_ways f 2 6 refl (omega arith) Alike Alike (plain_alike f) (λ _ _ h. h) (back_alike f)

-- ---- any request of kind 2

pub reversed_records : (f : Format) (s : List ℕ) → length s ≡ request_size f → kind_of s ≡ 2 → Bytes s → ReversedRecords f s (flipped f s)
reversed_records f s h k b =
    let t = flipped f s in
    let m = flipped-size f 6 s (omega arith) h in
    let r = flipped_kept f 2 6 refl refl (omega arith) Alike (refused_alike f) (three_alike f) s h b k in
    record {
      codes = code_of_lem f s h ∙ r.codes ∙ sym (code_of_lem f t m);
      counts = count_of f s h ∙ r.counts ∙ sym (count_of f t m);
      marks = mark_of_lem f s h ∙ r.marks ∙ sym (mark_of_lem f t m);
      values = r.values;
      columns = r.columns;
      bytes = (λ e d. bytes_exchanged f s t h m (r.columns e d));
    }

-- ---- any request of kind 1 or 3

abbrev SameMark : WorkedAnswer → WorkedAnswer → Type 0
SameMark x y = (x.code ≡ y.code) × (x.settled ≡ y.settled)

-- and the values are finite for both or for none, whatever they are multiplied by
abbrev SameReach : Format → WorkedAnswer → WorkedAnswer → Type 0
SameReach f x y = SameMark x y × ((k : ℤ) → all_finite (times_all f k 3 x.values) ≡ all_finite (times_all f k 3 y.values))

back_mark : (f : Format) (k : ℤ) (x y : WorkedAnswer) → SameReach f x y → SameMark (multiplied_back f k x) (multiplied_back f k y)
back_mark f k x y h =
    by_back f k x (λ (u : WorkedAnswer). SameMark u (multiplied_back f k y))
    (λ t. by_back f k y (λ (v : WorkedAnswer). SameMark (revalued (times_all f k 3 x.values) x) v) (λ _. h.0) (λ e. absurd (true≢false (sym t ∙ h.1 k ∙ e))))
    (λ t. by_back f k y (λ (v : WorkedAnswer). SameMark (refused_kind f 7 0) v) (λ e. absurd (true≢false (sym e ∙ sym (h.1 k) ∙ t))) (λ _. (refl, refl)))

-- two values and a zero behind them
pair_made : (f : Format) (k : ℤ) (v : List Float) → length v ≡ 2 → all_finite (times_all f k 3 (padded f 3 2 v)) ≡ all_finite (map (times_power f k) v)
unfolding all_finite
pair_made f k v e =
    subst (λ (w : List Float). all_finite (times_all f k 3 (padded f 3 2 v)) ≡ all_finite (map (times_power f k) w)) (tabulate_all 2 v e)
    (rw (scaled_zero f k, zero-finite f))

eigen_reach : (f : Format) (way : ℕ) (x y p q : List Float) → first_of 3 y ≡ negated_of 3 (first_of 3 x)
    → SameReach f (plain_of f (record { kind = 1; way = way; nine = x; three = p })) (plain_of f (record { kind = 1; way = way; nine = y; three = q }))
unfolding answered_by
eigen_reach f way x y p q e =
    let a = first_of 3 x in
    let r = subst (λ (z : List Float). eigen2.SameCodeAndMark (eigen2_of f a) (eigen2_of f z)) (sym e) (eigen2x2.reversed2 f a refl) in
    let made : (k : ℤ) → all_finite (map (times_power f k) (eigen2_of f a).values) ≡ all_finite (map (times_power f k) (eigen2_of f (first_of 3 y)).values) =
    λ (k : ℤ). rw e (eigen2x2.made_reversed2 f a (times_power f k) (λ u v s. finite_rel (scaled_rel f k s)) refl) in
    let pair : (k : ℤ) (b : List Float) → let v = (eigen2_of f b).values in all_finite (times_all f k 3 (padded f 3 2 v))
    ≡ all_finite (map (times_power f k) v) =
    λ (k : ℤ) (b : List Float). pair_made f k (eigen2_of f b).values (values2_length f b) in
    ((r.codes, ap mark_of r.marks), (λ k. pair k a ∙ made k ∙ sym (pair k (first_of 3 y))))

svd_reach : (f : Format) (way : ℕ) (x y p q : List Float) → first_of 4 y ≡ negated_of 4 (first_of 4 x)
    → SameReach f (plain_of f (record { kind = 3; way = way; nine = x; three = p })) (plain_of f (record { kind = 3; way = way; nine = y; three = q }))
unfolding answered_by
svd_reach f way x y p q e =
    let a = first_of 4 x in
    let r = subst (λ (z : List Float). svd2.SameCodeAndMark (svd2_of f a) (svd2_of f z)) (sym e) (svd2x2.reversed2 f a refl) in
    let same : (svd2_of f a).values ≡ (svd2_of f (first_of 4 y)).values = rw e (svd2x2.same_values2 f a refl) in
    ((r.codes, ap mark_of r.marks), (λ k. ap (λ (v : List Float). all_finite (times_all f k 3 (padded f 3 2 v))) same))

eigen_marks : (f : Format) (way : ℕ) (x y p q : List Float) → first_of 3 y ≡ negated_of 3 (first_of 3 x)
    → SameMark (work_of f (record { kind = 1; way = way; nine = x; three = p })) (work_of f (record { kind = 1; way = way; nine = y; three = q }))
eigen_marks f = both_ways f 1 3 refl (omega arith) (SameReach f) SameMark (eigen_reach f) (λ _ _ h. h.0) (λ k a b. back_mark f k (plain_of f a) (plain_of f b))

svd_marks : (f : Format) (way : ℕ) (x y p q : List Float) → first_of 4 y ≡ negated_of 4 (first_of 4 x)
    → SameMark (work_of f (record { kind = 3; way = way; nine = x; three = p })) (work_of f (record { kind = 3; way = way; nine = y; three = q }))
svd_marks f = both_ways f 3 4 refl (omega arith) (SameReach f) SameMark (svd_reach f) (λ _ _ h. h.0) (λ k a b. back_mark f k (plain_of f a) (plain_of f b))

by_marks : (f : Format) (s t : List ℕ) → length s ≡ request_size f → length t ≡ request_size f → SameMark (judged_of f s) (judged_of f t) → ReversedMarks f s t
by_marks f s t m n r = record {
  codes = code_of_lem f s m ∙ r.0 ∙ sym (code_of_lem f t n);
  marks = mark_of_lem f s m ∙ r.1 ∙ sym (mark_of_lem f t n);
}

pub reversed_pairs : (f : Format) (s t : List ℕ) → length s ≡ request_size f → Bytes s → PairFlipped f s t → (length t ≡ request_size f) × ReversedMarks f s t
reversed_pairs f s t h b (inl e) =
    let m : length t ≡ request_size f = ap length e.1 ∙ flipped-size f 3 s (omega arith) h in (
      m,
      by_marks f s t h m
          (rw e.1 (flipped_kept f 1 3 refl refl (omega arith) SameMark (λ k n. (refl, refl)) (eigen_marks f) s h b e.0)),
    )
reversed_pairs f s t h b (inr e) =
    let m : length t ≡ request_size f = ap length e.1 ∙ flipped-size f 4 s (omega arith) h in (
      m,
      by_marks f s t h m
          (rw e.1 (flipped_kept f 3 4 refl refl (omega arith) SameMark (λ k n. (refl, refl)) (svd_marks f) s h b e.0)),
    )

-- ---- any two answers within the promise of the record step, of which the second is to the flipped request

-- the codes handed back are those of the answers, and the answers stand in the slices
module _ (κs : Lfts 2) (a b : _) (r q : Result (Unit {0}) Refusal) (x y : _) (p : answer-record.Post κs a r x) (w : answer-record.Post κs b q y)
    (u : length a.1.0.now ≡ answer_size F) (v : length b.1.0.now ≡ answer_size F)
    (n : length a.0.now ≡ request_size F) (m : length b.0.now ≡ request_size F) where
  same_codes : SameByte F code_at a.0.now b.0.now → code_of r ≡ code_of q
  same_codes h =
      let code : List ℕ → ℕ = λ (z : List ℕ). get_or z code_at 0 in
      p.0 ∙ sym (code_in_place F a.0.now a.1.0.now u) ∙ ap code (stepped F a.0.now a.1.0.now n u) ∙ h
      ∙ sym (ap code (stepped F b.0.now b.1.0.now m v)) ∙ code_in_place F b.0.now b.1.0.now v ∙ sym w.0

  pub stands : (x.1.0.now ≡ answered_of F a.0.now) × (y.1.0.now ≡ answered_of F b.0.now)
  stands = (p.1 ∙ stepped F a.0.now a.1.0.now n u, w.1 ∙ stepped F b.0.now b.1.0.now m v)

pub reversed_calls : (κs : Lfts 2) (a b : _) (r q : Result (Unit {0}) Refusal) (x y : _) → answer-record.Post κs a r x → answer-record.Post κs b q y
    → length a.1.0.now ≡ answer_size F → length b.1.0.now ≡ answer_size F
    → length a.0.now ≡ request_size F → kind_of a.0.now ≡ 2 → Bytes a.0.now → b.0.now ≡ flipped F a.0.now
    → (code_of r ≡ code_of q) × (x.1.0.now ≡ answered_of F a.0.now) × (y.1.0.now ≡ answered_of F b.0.now) × ReversedRecords F a.0.now b.0.now
reversed_calls κs a b r q x y p w u v n k c e =
    let s = a.0.now in
    let t = b.0.now in
    let m : length t ≡ request_size F = ap length e ∙ flipped-size F 6 s (omega arith) n in
    let h : ReversedRecords F s t = subst (ReversedRecords F s) (sym e) (reversed_records F s n k c) in
    let d = stands κs a b r q x y p w u v n m in
    (same_codes κs a b r q x y p w u v n m h.codes, d.0, d.1, h)

pub reversed_pairs_calls : (κs : Lfts 2) (a b : _) (r q : Result (Unit {0}) Refusal) (x y : _) → answer-record.Post κs a r x → answer-record.Post κs b q y
    → length a.1.0.now ≡ answer_size F → length b.1.0.now ≡ answer_size F
    → length a.0.now ≡ request_size F → Bytes a.0.now → PairFlipped F a.0.now b.0.now
    → (code_of r ≡ code_of q) × (get_or x.1.0.now 7 0 ≡ get_or y.1.0.now 7 0)
reversed_pairs_calls κs a b r q x y p w u v n c e =
    let h = reversed_pairs F a.0.now b.0.now n c e in
    let d = stands κs a b r q x y p w u v n h.0 in
    (same_codes κs a b r q x y p w u v n h.0 h.1.codes, rw (d.0, d.1) h.1.marks)

-- ---- the same in bytes of the two answers: in doubles the three columns stand from bytes 32, 56 and 80 on

pub reversed_bytes : (κs : Lfts 2) (a b : _) (r q : Result (Unit {0}) Refusal) (x y : _) → answer-record.Post κs a r x → answer-record.Post κs b q y
    → length a.1.0.now ≡ 176 → length b.1.0.now ≡ 176
    → length a.0.now ≡ 104 → kind_of a.0.now ≡ 2 → Bytes a.0.now → b.0.now ≡ flipped F a.0.now
    → let this = x.1.0.now in let that = y.1.0.now in
    (code_of r ≡ code_of q) × (get_or this 6 0 ≡ get_or that 6 0) × (get_or this 7 0 ≡ get_or that 7 0)
    × (code_of r ≡ 0 → AllDiffer (judged_of F a.0.now).values
    → (part 32 24 this ≡ part 80 24 that) × (part 56 24 this ≡ part 56 24 that) × (part 80 24 this ≡ part 32 24 that))
reversed_bytes κs a b r q x y p w u v n k c e =
    let h = reversed_calls κs a b r q x y p w u v n k c e in
    let g = h.3 in
    let code : code_of r ≡ 0 → (judged_of F a.0.now).code ≡ 0 =
    λ z. sym (ap (λ (t : Step). t.code) (with_room F a.0.now a.1.0.now u n)) ∙ sym p.0 ∙ z in
    rw (h.1, h.2) (h.0, g.counts, g.marks, (λ z d. g.bytes (code z) d))
