-- Parts of a list of bytes: the first byte of one, a part that goes past the end, bytes stored in the place of others, and parts one after the other.
use Rattle.float.proofs.Words.{◌≡◌, refl, sym, ap, ◌∙◌, subst, Bool, true, false, List, [], ◌∷◌, ◌++◌, append_assoc, ℕ, suc, ◌+◌, ◌-◌, ◌*◌, ◌≤◌, ◌<◌, arith}
use Rattle.float.proofs.Words.{mul-suc, add-one, add-zero, length, take}
use Rattle.float.proofs.Words.{drop}
use Rattle.float.proofs.Words.{set, length-take, length-drop, length-append, take_all, take_at, drop_at, drop-drop, sets, sets-eq, le-leb, lt-leb, ltb}
use Rattle.float.proofs.Words.{ltb-true, ltb-false, min, le_of_lt}
use lib.Seq.{length-sets, take-append-le, drop-append-le}
use Rattle.std.proofs.lemmas.List.{drop_all, drop-take, take-take}
use Rattle.wire.specs.Bytes.{part, placed_of}

-- a part that ends with the list is the one that goes on behind it
pub part_past : (a n m : ℕ) (s : List ℕ) → length s - a ≤ n → length s - a ≤ m → part a n s ≡ part a m s
part_past a n m s h k = take_all n (drop a s) (rw length-drop h) ∙ sym (take_all m (drop a s) (rw length-drop k))

-- a part of what stands in front, and all that stands behind
pub part_within : (a n : ℕ) (l r : List ℕ) → a + n ≤ length l → part a n (l ++ r) ≡ part a n l
part_within a n l r h = rw (drop-append-le a l r (omega arith)) (take-append-le n (drop a l) r (rw length-drop (omega arith)))

pub part-behind : (a n : ℕ) (l x : List ℕ) → length l ≡ a → length x ≡ n → part a n (l ++ x) ≡ x
part-behind a n l x e k = rw (drop_at l x a e) (take_all n x (omega arith))

-- a part of a part
pub part_in : (t : List ℕ) (a m w j : ℕ) → j + w ≤ m → take w (drop j (take m (drop a t))) ≡ take w (drop (a + j) t)
part_in t a m w j h =
    let e : j + (m - j) ≡ m = omega arith in
    subst (λ (n : ℕ). take w (drop j (take n (drop a t))) ≡ take w (drop (a + j) t)) e
    (ap (take w) (drop-take j (m - j) (drop a t)) ∙ take-take w (m - j) (drop j (drop a t)) (omega arith) ∙ ap (take w) (drop-drop j a t))

-- ---- stores

-- bytes stored behind others are stored with them
pub sets_append : (l : List ℕ) (i : ℕ) (x y : List ℕ) → sets (sets l i x) (i + length x) y ≡ sets l i (x ++ y)
sets_append l i [] y = rw (add-zero i)
sets_append l i (b ∷ x) y =
    let e : i + suc (length x) ≡ suc i + length x = omega arith in
    rw e (sets_append (set l i b) (suc i) x y)

pub placed_stored : (a : ℕ) (x s : List ℕ) → a + length x ≤ length s → sets s a x ≡ placed_of a x s
unfolding placed_of
placed_stored a x s h = rw (le-leb (a + length x) (length s) h) (sets-eq x s a h)

pub no_room : (a : ℕ) (x s : List ℕ) → length s < a + length x → placed_of a x s ≡ s
unfolding placed_of
no_room a x s h = rw (lt-leb (a + length x) (length s) h)

-- up to the end of what is placed
pub placed_front : (a n : ℕ) (x s : List ℕ) → length x ≡ n → a + n ≤ length s → take (a + n) (placed_of a x s) ≡ take a s ++ x
unfolding placed_of
placed_front a n x s e h =
    rw (e, le-leb (a + n) (length s) h) (take_at (take a s ++ x) (drop (a + n) s) (a + n) (simp (length-append, length-take) (omega arith)))

-- bytes placed behind others are placed with them
pub placed_behind : (l l' l'' x y : List ℕ) (a b : ℕ) → b ≡ a + length x → b + length y ≤ length l → l' ≡ placed_of a x l → l'' ≡ placed_of b y l'
    → l'' ≡ placed_of a (x ++ y) l
placed_behind l l' l'' x y a b e h p q =
    let first : l' ≡ sets l a x = p ∙ sym (placed_stored a x l (omega arith)) in
    let both = placed_stored a (x ++ y) l (rw length-append (omega arith)) in
    q ∙ sym (placed_stored b y l' (rw (first, length-sets) h)) ∙ (rw (first, e) (sets_append l a x y)) ∙ both

-- ---- parts of n bytes one after the other

-- one more behind the first i
pub front_more : (first : ℕ → List ℕ) (out' out x : List ℕ) (n i : ℕ) → take (n * i + n) out' ≡ take (n * i) out ++ x → take (n * i) out ≡ first i
    → first (suc i) ≡ first i ++ x
    → take (n * (i + 1)) out' ≡ first (i + 1)
front_more first out' out x n i w v e = rw (add-one, mul-suc, w, v, e)

-- what lies behind i + 1 of them lies behind i
pub rest_more : (out' out out₀ : List ℕ) (n i : ℕ) → drop (n * i + n) out' ≡ drop (n * i + n) out → drop (n * i) out ≡ drop (n * i) out₀
    → drop (n * (i + 1)) out' ≡ drop (n * (i + 1)) out₀
rest_more out' out out₀ n i w v = rw (add-one, mul-suc, w, ← drop-drop n (n * i) out, ← drop-drop n (n * i) out₀, v)

-- a part of k bytes exchanged for x, of as many
pub exchanged : (a k : ℕ) (s x : List ℕ) → length x ≡ k → a + k ≤ length s → take a s ++ (x ++ drop k (drop a s)) ≡ sets s a x
exchanged a k s x e h = rw (drop-drop k a s, ← e, ← append_assoc) (sym (sets-eq x s a (omega arith)))

-- what a slice has from a place on that may be past its end, where it is no longer than n
pub part_short : (a n : ℕ) (s : List ℕ) → length s - a ≤ n → take (length s - min a (length s)) (drop (min a (length s)) s) ≡ part a n s
part_short a n s h = by (ltb (length s) a) refl
  where
    by : (t : Bool) → ltb (length s) a ≡ t → take (length s - min a (length s)) (drop (min a (length s)) s) ≡ part a n s
    by true e =
        let l = ltb-true (length s) a e in
        let m : length s - min a (length s) ≡ 0 = omega arith in
        rw (m, drop_all a s (le_of_lt l)) (sym (take_all n [] (omega arith)))
    by false e =
        let l = ltb-false (length s) a e in
        let m : min a (length s) ≡ a = omega arith in
        rw m (part_past a (length s - a) n s (omega arith) h)
