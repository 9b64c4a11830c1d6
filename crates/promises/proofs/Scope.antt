-- The scope's numbers, written out, are those of the layout and of the table of kinds: each format and each kind is looked at.
use Rattle.float.proofs.Words.{◌≡◌, refl, sym, ap, ◌∙◌, Bool, true, false, false≢true, List, [], ◌∷◌, ◌++◌, ℕ, zero, suc, ◌+◌, ◌*◌, ◌<◌, arith, eqb, take, drop}
use Rattle.float.proofs.Words.{inl, inr, ℤ, neg_ℤ, Float, Format, binary32, binary64, of_bits, ne_eqb}
use Rattle.float.specs.Choice.{pick}
use Rattle.float.specs.Sign.{all_finite}
use Rattle.float.specs.Scaled.{power_of}
use Rattle.float.proofs.Finite.{all_finite-append}
use Rattle.matrix.proofs.Tables.{tabulate-same, first_tabulate}
use Rattle.kinds.specs.Table.{Kernel, unknown, kind_numbered}
use Rattle.kinds.specs.Work.{Asked, first_of, used_finite}
use Rattle.kinds.specs.Ways.{is_scaled, times_all, power_for, divided, worked_on}
use Rattle.kinds.proofs.Rows.{nine_most, three_most}
use Rattle.wire.specs.Bytes.{number_bytes, place_of, word_of, number_at, numbers_from}
use Rattle.record.specs.Layout.{nine_at, three_at, request_size, answer_size}
use Rattle.record.specs.Request.{kind_of, way_of, asked_of}
use Rattle.promises.specs.Scope.{number_length, request_length, answer_length, three_begin, used_nine, used_three, last_way, kernel_numbered, little}
use Rattle.promises.specs.Scope.{numbers_in}
use Rattle.promises.specs.Scope.{kind_in, given, scaled_in, power_in, divided_in, worked_in}
use Rattle.promises.specs.Conditions.{used_in, pivots_of, numbers_of, values_of, pivots_in, made_in}
use Rattle.promises.proofs.Kernels.{made_of}
use Rattle.promises.specs.Leaves.{Turned}

-- ---- bytes

pub number-length : (f : Format) → number_length f ≡ number_bytes f
number-length binary32 = refl
number-length binary64 = refl

pub request_length_lem : (f : Format) → request_length f ≡ request_size f
request_length_lem binary32 = refl
request_length_lem binary64 = refl

pub answer_length_lem : (f : Format) → answer_length f ≡ answer_size f
answer_length_lem binary32 = refl
answer_length_lem binary64 = refl

pub three_begin_lem : (f : Format) → three_begin f ≡ three_at f
three_begin_lem binary32 = refl
three_begin_lem binary64 = refl

-- ---- kinds

abbrev pub past_eight : ℕ → ℕ
past_eight n = suc (suc (suc (suc (suc (suc (suc (suc (suc n))))))))

-- what holds of 0, of the eight kinds and of every number past them holds of each number
pub each_number : (P : ℕ → Type 0) → P 0 → P 1 → P 2 → P 3 → P 4 → P 5 → P 6 → P 7 → P 8 → ((n : ℕ) → P (past_eight n)) → (n : ℕ) → P n
each_number P p0 p1 p2 p3 p4 p5 p6 p7 p8 past zero = p0
each_number P p0 p1 p2 p3 p4 p5 p6 p7 p8 past (suc zero) = p1
each_number P p0 p1 p2 p3 p4 p5 p6 p7 p8 past (suc (suc zero)) = p2
each_number P p0 p1 p2 p3 p4 p5 p6 p7 p8 past (suc (suc (suc zero))) = p3
each_number P p0 p1 p2 p3 p4 p5 p6 p7 p8 past (suc (suc (suc (suc zero)))) = p4
each_number P p0 p1 p2 p3 p4 p5 p6 p7 p8 past (suc (suc (suc (suc (suc zero))))) = p5
each_number P p0 p1 p2 p3 p4 p5 p6 p7 p8 past (suc (suc (suc (suc (suc (suc zero)))))) = p6
each_number P p0 p1 p2 p3 p4 p5 p6 p7 p8 past (suc (suc (suc (suc (suc (suc (suc zero))))))) = p7
each_number P p0 p1 p2 p3 p4 p5 p6 p7 p8 past (suc (suc (suc (suc (suc (suc (suc (suc zero)))))))) = p8
each_number P p0 p1 p2 p3 p4 p5 p6 p7 p8 past (suc (suc (suc (suc (suc (suc (suc (suc (suc n))))))))) = past n

-- no row has such a number
pub past_eight_lem : (n : ℕ) → kind_numbered (past_eight n) ≡ unknown
past_eight_lem n =
    let no : (k : ℕ) → k < past_eight n → eqb (past_eight n) k ≡ false = λ k l. ne_eqb (past_eight n) k (λ e. omega arith) in rw (
      no 1 (omega arith),
      no 2 (omega arith),
      no 3 (omega arith),
      no 4 (omega arith),
      no 5 (omega arith),
      no 6 (omega arith),
      no 7 (omega arith),
      no 8 (omega arith),
    )

-- a number's row in the table has these
abbrev pub InTable : ℕ → Type 0
InTable n =
    (used_nine n ≡ (kind_numbered n).nine) × (used_three n ≡ (kind_numbered n).three) × (kernel_numbered n ≡ (kind_numbered n).kernel)
    × (last_way n ≡ pick (kind_numbered n).scales 1 0)

pub in_table : (n : ℕ) → InTable n
in_table =
    each_number InTable (refl, refl, refl, refl) (refl, refl, refl, refl) (refl, refl, refl, refl) (refl, refl, refl, refl) (refl, refl, refl, refl)
    (refl, refl, refl, refl) (refl, refl, refl, refl) (refl, refl, refl, refl) (refl, refl, refl, refl) (λ n. rw (past_eight_lem n) (refl, refl, refl, refl))

-- ---- numbers

word_of_lem : (bs : List ℕ) → little bs ≡ word_of bs
unfolding little word_of
word_of_lem [] = refl
word_of_lem (b ∷ bs) = ap (λ (w : ℕ). b + 256 * w) (word_of_lem bs)

pub numbers_in_lem : (f : Format) (a n : ℕ) (s : List ℕ) → numbers_in f a n s ≡ numbers_from f n a s
numbers_in_lem f a n s =
    tabulate-same n _ (λ (i : ℕ). number_at f (place_of f a i) s)
    (λ i _. ap (λ (w : ℕ). of_bits f (little (take w (drop (a + w * i) s)))) (number-length f) ∙ ap (of_bits f) (word_of_lem _))

three_in : (f : Format) (s : List ℕ) → numbers_in f (three_begin f) 3 s ≡ numbers_from f 3 (three_at f) s
three_in f s = ap (λ (a : ℕ). numbers_in f a 3 s) (three_begin_lem f) ∙ numbers_in_lem f (three_at f) 3 s

pub given_asked : (f : Format) (s : List ℕ) → given f s ≡ asked_of f s
given_asked f s = rw (numbers_in_lem f nine_at 9 s, three_in f s)

-- the numbers that the kind uses
pub used_nine_lem : (f : Format) (s : List ℕ) → numbers_in f 8 (used_nine (kind_of s)) s
    ≡ first_of (kind_numbered (kind_of s)).nine (numbers_from f 9 nine_at s)
used_nine_lem f s =
    let n = (kind_numbered (kind_of s)).nine in
    ap (λ (n : ℕ). numbers_in f 8 n s) (in_table (kind_of s)).0 ∙ numbers_in_lem f 8 n s ∙ sym (first_tabulate n 9 _ (nine_most (kind_of s)))

pub used_finite_lem : (f : Format) (s : List ℕ) → used_finite (asked_of f s) ≡ all_finite (used_in f s)
used_finite_lem f s =
    let k = kind_numbered (kind_of s) in
    let three : numbers_in f (three_begin f) (used_three (kind_of s)) s ≡ first_of k.three (numbers_from f 3 (three_at f) s) =
    ap (λ (n : ℕ). numbers_in f (three_begin f) n s) (in_table (kind_of s)).1 ∙ ap (λ (a : ℕ). numbers_in f a k.three s) (three_begin_lem f)
    ∙ numbers_in_lem f (three_at f) k.three s ∙ sym (first_tabulate k.three 3 _ (three_most (kind_of s))) in
    rw (all_finite-append (numbers_in f 8 (used_nine (kind_of s)) s) (numbers_in f (three_begin f) (used_three (kind_of s)) s), used_nine_lem f s, three)

-- ---- the scaled way

second_way : (b : Bool) → eqb (pick b 1 0) 1 ≡ b
second_way true = refl
second_way false = refl

pub scaled_in_lem : (f : Format) (s : List ℕ) → scaled_in s ≡ is_scaled (asked_of f s)
scaled_in_lem f s = rw ((in_table (kind_of s)).3, second_way (kind_numbered (kind_of s)).scales)

pub power_in_lem : (f : Format) (s : List ℕ) → power_in f s ≡ power_for f (asked_of f s)
power_in_lem f s = ap (power_of f) (used_nine_lem f s)

pub divided_in_lem : (f : Format) (s : List ℕ) → divided_in f s ≡ divided f (power_for f (asked_of f s)) (asked_of f s)
divided_in_lem f s =
    let build : ℤ → List Float → List Float → Asked =
    λ (k : ℤ) (nine three : List Float). record { kind = kind_of s; way = way_of s; nine = times_all f (neg_ℤ k) 9 nine; three = three } in
    let a = asked_of f s in
    ap (λ (k : ℤ). build k (numbers_in f 8 9 s) (numbers_in f (three_begin f) 3 s)) (power_in_lem f s)
    ∙ ap (λ (nine : List Float). build (power_for f a) nine (numbers_in f (three_begin f) 3 s)) (numbers_in_lem f 8 9 s)
    ∙ ap (build (power_for f a) a.nine) (three_in f s)

pub worked_in_lem : (f : Format) (s : List ℕ) → worked_in f s ≡ worked_on f (asked_of f s)
worked_in_lem f s =
    let a = asked_of f s in
    ap (λ (t : Bool). pick t (divided_in f s) (given f s)) (scaled_in_lem f s)
    ∙ ap (λ (b : Asked). pick (is_scaled a) b (given f s)) (divided_in_lem f s)
    ∙ ap (pick (is_scaled a) (divided f (power_for f a) a)) (given_asked f s)

-- ---- pivots and numbers made

pub pivots_in_lem : (f : Format) (s : List ℕ) → pivots_in f s ≡ pivots_of f (kind_numbered (kind_of s)).kernel (asked_of f s)
pivots_in_lem f s = rw ((in_table (kind_of s)).2, given_asked f s)

pub made_in_lem : (f : Format) (s : List ℕ) → made_in f s ≡ made_of f (asked_of f s)
made_in_lem f s =
    let a = asked_of f s in
    let made : Bool → Kernel → ℤ → Asked → Asked → List Float = λ (t : Bool) (c : Kernel) (k : ℤ) (b g : Asked).
    pick t (numbers_of f c b ++ times_all f k 3 (values_of f c b)) (numbers_of f c g) in
    let b = divided f (power_for f a) a in
    let c = (kind_numbered (kind_of s)).kernel in
    ap (λ (t : Bool). made t (kernel_numbered (kind_in s)) (power_in f s) (divided_in f s) (given f s)) (scaled_in_lem f s)
    ∙ ap (λ (c : Kernel). made (is_scaled a) c (power_in f s) (divided_in f s) (given f s)) (in_table (kind_of s)).2
    ∙ ap (λ (k : ℤ). made (is_scaled a) c k (divided_in f s) (given f s)) (power_in_lem f s)
    ∙ ap (λ (b : Asked). made (is_scaled a) c (power_for f a) b (given f s)) (divided_in_lem f s)
    ∙ ap (made (is_scaled a) c (power_for f a) b) (given_asked f s)

-- ---- rotations are counted

uncounted : {X : Type 0} → false ≡ true → X
uncounted q = absurd (false≢true q)

pub counts_turned : (n : ℕ) → (kind_numbered n).counts ≡ true → Turned n
counts_turned =
    let P : ℕ → Type 0 = λ (n : ℕ). (kind_numbered n).counts ≡ true → Turned n in
    each_number P uncounted uncounted (λ _. inl refl) uncounted (λ _. inr refl) uncounted uncounted uncounted uncounted (λ n. rw (past_eight_lem n) uncounted)
