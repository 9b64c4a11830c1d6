-- Sums that fit 64 bits or not: one that does not fit stays so whatever is added.
use Rattle.float.proofs.Words.{◌≡◌, refl, sym, ap, ◌∙◌, Bool, true, false, ◌&&◌, and_assoc, and-true, List, [], ◌∷◌, ◌++◌, map, ℕ, zero, suc, ◌+◌}
use Rattle.float.proofs.Words.{◌≤◌, ◌<◌, ◌^◌, arith, add-one, length, length-set, get_or, take, take_all, take-suc, take-suc-set, set, ltb, lt-ltb, le-ltb}
use Rattle.std.specs.Prelude.{Option, Some, None}
use Rattle.std.specs.Option.{SomeIff}
use mathlib.Core.Bool.{and-false}
use mathlib.Core.List.{map-append}
use Rattle.float.proofs.Choice.{either, whether}
use Rattle.counts.specs.Known.{codes}
use Rattle.counts.specs.Cells.{up_to, columns, foreign_at}
use Rattle.counts.specs.Tally.{total, all_fit}
use Rattle.float.specs.Choice.{pick}
use Rattle.listing.specs.Page.{total_of, totals_of, records_in}
use Rattle.listing.specs.Sums.{sum_in, totals_in}

-- ---- a sum in 64 bits

sum_fits : (n : ℕ) → n < 2 ^ 64 → sum_in n ≡ Some n
unfolding sum_in
sum_fits n h = rw (lt-ltb n (2 ^ 64) h)

pub sum_fits_is : (n m : ℕ) → m ≡ n → m < 2 ^ 64 → Some m ≡ sum_in n
sum_fits_is n m e h = rw e (sym (sum_fits n (omega arith)))

pub sum_past : (n : ℕ) → 2 ^ 64 ≤ n → sum_in n ≡ None
unfolding sum_in
sum_past n h = rw (le-ltb n (2 ^ 64) h)

-- what `checked_add` gives
pub checked : (o : Option ℕ) (n : ℕ) → SomeIff o (n < 2 ^ 64) n → o ≡ sum_in n
checked None n h = sym (sum_past n (omega arith))
checked (Some m) n h = ap Some h.1 ∙ sym (sum_fits n h.0)

pub has_sum : (n m : ℕ) → sum_in n ≡ Some m → (n < 2 ^ 64) × (m ≡ n)
has_sum n m e =
    either n (2 ^ 64) (λ l. let s : Some n ≡ Some m = sym (sum_fits n l) ∙ e in (l, cc)) (λ l. let s : None ≡ Some m = sym (sum_past n l) ∙ e in absurd (cc))

pub no_sum : (n : ℕ) → sum_in n ≡ None → 2 ^ 64 ≤ n
no_sum n e = either n (2 ^ 64) (λ l. let s : Some n ≡ None = sym (sum_fits n l) ∙ e in absurd (cc)) (λ l. l)

-- ---- sums of lists

sum_more : (ns : List ℕ) (n : ℕ) → total (ns ++ (n ∷ [])) ≡ total ns + n
unfolding total
sum_more [] n = omega arith
sum_more (m ∷ ns) n = rw (sum_more ns n) (omega arith)

-- numbers by a formula
pub sum_up_to : (f : ℕ → ℕ) (k : ℕ) → total (map f (up_to (k + 1))) ≡ total (map f (up_to k)) + f k
sum_up_to f k = rw (add-one, map-append) (sum_more (map f (up_to k)) (f k))

pub sum_grows : (f : ℕ → ℕ) (k n : ℕ) → k ≤ n → total (map f (up_to k)) ≤ total (map f (up_to n))
sum_grows f k zero h = let e : k ≡ 0 = omega arith in rw e (omega arith)
sum_grows f k (suc n) h =
    whether k (suc n) (λ e. rw e (omega arith))
    (λ ne. let g = sum_grows f k n (omega arith) in let m = rw add-one at (sum_up_to f n) in omega (arith, m))

-- the first numbers of a list
pub sum_front : (ns : List ℕ) (k : ℕ) → k < length ns → total (take (k + 1) ns) ≡ total (take k ns) + get_or ns k 0
sum_front ns k h = rw (add-one, take-suc ns k 0 h) (sum_more (take k ns) (get_or ns k 0))

pub front_most : (ns : List ℕ) (k : ℕ) → total (take k ns) ≤ total ns
unfolding total
front_most ns zero = omega arith
front_most [] (suc k) = omega arith
front_most (n ∷ ns) (suc k) = omega (arith, front_most ns k)

-- ---- all fit

fit_more : (ns : List ℕ) (n : ℕ) → all_fit (ns ++ (n ∷ [])) ≡ all_fit ns && ltb n (2 ^ 64)
unfolding all_fit
fit_more [] n = and-true (ltb n (2 ^ 64))
fit_more (m ∷ ns) n = rw (fit_more ns n) (sym (and_assoc (ltb m (2 ^ 64)) (all_fit ns) (ltb n (2 ^ 64))))

module _ (f : ℕ → ℕ) where
  fit_up_to : (k : ℕ) → all_fit (map f (up_to (suc k))) ≡ all_fit (map f (up_to k)) && ltb (f k) (2 ^ 64)
  fit_up_to k = rw map-append (fit_more (map f (up_to k)) (f k))

  -- the first k numbers, which all fit
  pub record Held (k : ℕ) (held : List ℕ) : Type 0 where
    pub long : length held ≡ columns
    pub fit : all_fit (map f (up_to k)) ≡ true
    pub front : take k held ≡ map f (up_to k)

  -- one number more
  pub held_more : (k n : ℕ) (held : List ℕ) → k < columns → (f k < 2 ^ 64) × (n ≡ f k) → Held k held → Held (k + 1) (set held k n)
  held_more k n held l e h = record {
    long = rw length-set h.long;
    fit = rw (add-one, fit_up_to k, h.fit) (lt-ltb (f k) (2 ^ 64) e.0);
    front = rw (add-one, take-suc-set held k n (omega (arith, h.long)), map-append, h.front, e.1);
  }

  -- one that does not fit
  pub one_past : (k n : ℕ) → k < n → 2 ^ 64 ≤ f k → all_fit (map f (up_to n)) ≡ false
  one_past k zero h p = absurd (omega arith)
  one_past k (suc n) h p =
      whether k n (λ e. rw (fit_up_to n, ← e, le-ltb (f k) (2 ^ 64) p) (and-false (all_fit (map f (up_to k)))))
      (λ ne. rw (fit_up_to n, one_past k n (omega arith) p))

pub all_held : (t totals : List ℕ) → Held (total_of t) columns totals → Some totals ≡ totals_in t
all_held t totals h = rw h.fit (ap Some (sym (take_all columns totals (omega (arith, h.long))) ∙ h.front))

pub some_past : (t : List ℕ) (k : ℕ) → k < columns → 2 ^ 64 ≤ total_of t k → totals_in t ≡ None
some_past t k l p = rw (one_past (total_of t) k columns l p)

-- the totals, or one of them passes
pub has_totals : (t totals : List ℕ) → totals_in t ≡ Some totals → (all_fit (totals_of t) ≡ true) × (totals ≡ totals_of t)
has_totals t totals = by (all_fit (totals_of t))
  where
    by : (b : Bool) → pick b (Some (totals_of t)) None ≡ Some totals → (b ≡ true) × (totals ≡ totals_of t)
    by true e = (refl, cc)
    by false e = absurd (cc)

pub no_totals : (t : List ℕ) → totals_in t ≡ None → all_fit (totals_of t) ≡ false
no_totals t = by (all_fit (totals_of t))
  where
    by : (b : Bool) → pick b (Some (totals_of t)) None ≡ None → b ≡ false
    by true e = absurd (cc)
    by false e = refl

-- all records, from the totals
pub records_of_lem : (t totals : List ℕ) → totals ≡ totals_of t → total (take (length codes) totals) + get_or t foreign_at 0 ≡ records_in t
records_of_lem t totals e = rw e

-- ---- a sum in front of the totals

pub totals_past : (n : ℕ) (ns : List ℕ) → all_fit ns ≡ false → all_fit (n ∷ ns) ≡ false
unfolding all_fit
totals_past n ns h = rw h (and-false (ltb n (2 ^ 64)))

pub first_past : (n : ℕ) (ns : List ℕ) → 2 ^ 64 ≤ n → all_fit (n ∷ ns) ≡ false
unfolding all_fit
first_past n ns h = rw (le-ltb n (2 ^ 64) h)

pub both_fit : (n : ℕ) (ns : List ℕ) → n < 2 ^ 64 → all_fit ns ≡ true → all_fit (n ∷ ns) ≡ true
unfolding all_fit
both_fit n ns h k = rw (lt-ltb n (2 ^ 64) h, k)
