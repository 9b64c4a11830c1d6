-- The tests of the code decide the conditions of rows 3, 4 and 5, which are the scope's own: number by number and byte by byte.
use Rattle.float.proofs.Words.{◌≡◌, refl, Bool, true, false, not, ◌&&◌, List, ◌⊎◌, inl, inr, ⊎_elim, ℕ, ◌≤◌, arith, leb, get_or, Format, leb-true, le-leb}
use Rattle.float.specs.Choice.{pick}
use Rattle.float.proofs.Finite.{both_true}
use Rattle.matrix.specs.Rows.{NotFinite}
use Rattle.matrix.proofs.Rows.{Decides, decided, denied, by_not, by_finite}
use Rattle.kinds.specs.Table.{kind_numbered, known_kind, known_way}
use Rattle.kinds.specs.Work.{used_finite}
use Rattle.wire.specs.Bytes.{zero_from}
use Rattle.wire.proofs.Zeros.{zero-at, zero_all}
use Rattle.record.specs.Request.{kind_of, way_of, asked_of, reserved_zero, unused_zero, rest_right}
use Rattle.promises.specs.Conditions.{NoKind, HasWay, Between, Zeros, NotAsItIsToBe, used_in}
use Rattle.promises.proofs.Scope.{number-length, request_length_lem, three_begin_lem, each_number, past_eight_lem, in_table, used_finite_lem}

-- ---- 3

pub by_kind : (n : ℕ) → Decides (not (known_kind n)) (NoKind n)
by_kind =
    let listed : (k : ℕ) → 1 ≤ k → k ≤ 8 → Decides false (NoKind k) = λ k l m. denied (λ h. h (l, m)) in
    each_number (λ (n : ℕ). Decides (not (known_kind n)) (NoKind n)) (decided (λ h. omega (arith, h.0)))
    (listed 1 (omega arith) (omega arith)) (listed 2 (omega arith) (omega arith)) (listed 3 (omega arith) (omega arith)) (listed 4 (omega arith) (omega arith))
    (listed 5 (omega arith) (omega arith)) (listed 6 (omega arith) (omega arith)) (listed 7 (omega arith) (omega arith)) (listed 8 (omega arith) (omega arith))
    (λ n. rw (past_eight_lem n) (decided (λ h. omega (arith, h.1))))

-- ---- 4

-- of three ranges of bytes
zero_ranges : (a b c d e g : ℕ) (s : List ℕ)
    → Decides (not (zero_from a b s && (zero_from c d s && zero_from e g s)))
    (((i : ℕ) → Between a b i ⊎ (Between c d i ⊎ Between e g i) → get_or s i 0 ≡ 0) → ⊥)
zero_ranges a b c d e g s =
    by_not (zero_from a b s && (zero_from c d s && zero_from e g s)) ((i : ℕ) → Between a b i ⊎ (Between c d i ⊎ Between e g i) → get_or s i 0 ≡ 0)
    (λ t i.
    let r = both_true (zero_from a b s) (zero_from c d s && zero_from e g s) t in
    let u = both_true (zero_from c d s) (zero_from e g s) r.1 in
    ⊎_elim (zero-at a b s r.0 i) (⊎_elim (zero-at c d s u.0 i) (zero-at e g s u.1 i)))
    (λ h. rw (zero_all a b s (λ i w. h i (inl w)), zero_all c d s (λ i w. h i (inr (inl w))), zero_all e g s (λ i w. h i (inr (inr w)))))

by_zeros : (f : Format) (s : List ℕ) → Decides (not (reserved_zero s && unused_zero f (kind_numbered (kind_of s)) s)) (Zeros f s → ⊥)
by_zeros f s =
    let t = in_table (kind_of s) in
    rw (number-length f, three_begin_lem f, request_length_lem f, t.0, t.1) (zero_ranges 6 8 _ _ _ _ s)

by_ways : (s : List ℕ) → Decides (not (known_way (kind_of s) (way_of s))) (HasWay s → ⊥)
by_ways s =
    rw (in_table (kind_of s)).3
    (by_not (leb (way_of s) (pick (kind_numbered (kind_of s)).scales 1 0)) (way_of s ≤ pick (kind_numbered (kind_of s)).scales 1 0) (leb-true _ _) (le-leb _ _))

-- two tests, each of which decides its condition, decide both
by_both : {X Y : Type 0} (t u : Bool) → Decides (not t) (X → ⊥) → Decides (not u) (Y → ⊥) → Decides (not (t && u)) (X × Y → ⊥)
by_both true true d e = denied (λ n. d.1 refl (λ x. e.1 refl (λ y. n (x, y))))
by_both true false d e = decided (λ b. e.0 refl b.1)
by_both false u d e = decided (λ b. d.0 refl b.0)

pub by_rest : (f : Format) (s : List ℕ) → Decides (not (rest_right f s)) (NotAsItIsToBe f s)
by_rest f s = by_both (known_way (kind_of s) (way_of s)) (reserved_zero s && unused_zero f (kind_numbered (kind_of s)) s) (by_ways s) (by_zeros f s)

-- ---- 5

pub by_used : (f : Format) (s : List ℕ) → Decides (not (used_finite (asked_of f s))) (NotFinite (used_in f s))
by_used f s = rw (used_finite_lem f s) (by_finite (used_in f s))
