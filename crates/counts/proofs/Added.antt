-- The sum of two tallies: numbers are added place by place, so which tally comes first is the same, and a sum is refused exactly where some count passes.
use Rattle.float.proofs.Words.{◌≡◌, sym, ap, ◌∙◌, Bool, true, false, List, [], ◌∷◌, ◌++◌, map, ℕ, zero, suc, ◌+◌, ◌*◌, ◌^◌, ◌≤◌, ◌<◌}
use Rattle.float.proofs.Words.{arith, lt-ltb, length, get_or, Format}
use native.Mathlib.Nat.{div-le_self, mod-le}
use Rattle.float.proofs.Choice.{so_or_not}
use Rattle.record.specs.Layout.{answer_size}
use Rattle.record.specs.Stream.{answer_of}
use Rattle.counts.specs.Known.{head_of}
use Rattle.counts.specs.Cells.{Cell, counted_in, cells, tally_size}
use Rattle.counts.specs.Tally.{Tally, one, counted_of, records_of, left_over, plus_of, all_fit, sum_of, tally_of, empty_tally}
use Rattle.counts.proofs.Sums.{plus_comm, plus_assoc, plus_zeros, plus_length, part_fits, fits_each, each_fits, sum_fits_each, each_of_sum}
use Rattle.counts.proofs.Files.{tally_length}
use Rattle.counts.proofs.Cut.{cut}

-- ---- refused exactly where a count passes 64 bits

module _ (xs ys : List ℕ) where
  taken_sum : all_fit (plus_of xs ys) ≡ true → sum_of xs ys ≡ record { code = 0; counts = plus_of xs ys }
  taken_sum e = rw e

  refused_sum : all_fit (plus_of xs ys) ≡ false → sum_of xs ys ≡ record { code = 14; counts = empty_tally }
  refused_sum e = rw e

  module _ (n : length ys ≡ length xs) where
    -- no count passes: the sum
    pub none_passes : ((i : ℕ) → get_or xs i 0 + get_or ys i 0 < 2 ^ 64) → sum_of xs ys ≡ record { code = 0; counts = plus_of xs ys }
    none_passes h = taken_sum (sum_fits_each xs ys n h)

    -- one does: 14, and zeros
    pub one_passes : (i : ℕ) → 2 ^ 64 ≤ get_or xs i 0 + get_or ys i 0 → sum_of xs ys ≡ record { code = 14; counts = empty_tally }
    one_passes i h = refused_sum (so_or_not (all_fit (plus_of xs ys)) (λ e. absurd (omega (arith, each_of_sum xs ys n e i))) (λ e. e))

  -- the two codes
  pub fits_told : (sum_of xs ys).code ≡ 0 → all_fit (plus_of xs ys) ≡ true
  fits_told e =
      so_or_not (all_fit (plus_of xs ys)) (λ k. k) (λ k. absurd (omega (arith, sym (ap (λ (t : Tally). t.code) (refused_sum k)) ∙ e)))

-- ---- the laws of the sum

pub sum_comm : (xs ys : List ℕ) → sum_of xs ys ≡ sum_of ys xs
sum_comm xs ys = rw (plus_comm xs ys)

-- where the sum of all three is not refused, the order of adding is the same: none of the sums on the way is refused
pub sum_assoc : (xs ys zs : List ℕ) → length ys ≡ length xs → length zs ≡ length xs → (sum_of xs ys).code ≡ 0 → (sum_of (sum_of xs ys).counts zs).code ≡ 0
    → ((sum_of ys zs).code ≡ 0) × (sum_of xs (sum_of ys zs).counts ≡ sum_of (sum_of xs ys).counts zs)
sum_assoc xs ys zs n m p q =
    let s = taken_sum xs ys (fits_told xs ys p) in
    let all : all_fit (plus_of (plus_of xs ys) zs) ≡ true = fits_told (plus_of xs ys) zs (rw (ap (λ (t : Tally). t.counts) s) at q) in
    let two : all_fit (plus_of ys zs) ≡ true =
    part_fits (plus_of ys zs) xs (sym (plus_length ys zs (m ∙ sym n) ∙ n))
    ((ap all_fit (plus_comm (plus_of ys zs) xs ∙ sym (plus_assoc xs ys zs))) ∙ all) in
    let t = taken_sum ys zs two in
    (ap (λ (u : Tally). u.code) t, (rw (ap (λ (u : Tally). u.counts) t, ap (λ (u : Tally). u.counts) s, plus_assoc xs ys zs)))

pub sum_empty : (xs : List ℕ) → length xs ≡ tally_size → ((i : ℕ) → get_or xs i 0 < 2 ^ 64) → sum_of xs empty_tally ≡ record { code = 0; counts = xs }
sum_empty xs n h =
    let z = plus_zeros xs tally_size n in
    taken_sum xs empty_tally (ap all_fit z ∙ fits_each xs h) ∙ ap (λ (l : List ℕ). record { code = 0; counts = l }) z

-- ---- a file cut behind whole records

pub sum_of_parts : (f : Format) (a b : List ℕ) (m : ℕ) → length a ≡ answer_size f * m → sum_of (tally_of f a) (tally_of f b)
    ≡ sum_of empty_tally (tally_of f (a ++ b))
sum_of_parts f a b m h =
    let t = tally_of f (a ++ b) in
    let z : plus_of empty_tally t ≡ t = plus_comm empty_tally t ∙ plus_zeros t tally_size (tally_length f (a ++ b)) in
    rw (z, cut f a b m h)

-- ---- the tally of a slice is never refused: no count is larger than the number of bytes

one_most : (t : Bool) → one t ≤ 1
one_most true = omega arith
one_most false = omega arith

counted_most : (f : Format) (c : Cell) (n : ℕ) (s : List ℕ) → counted_of f c n s ≤ n
unfolding counted_of
counted_most f c zero s = omega arith
counted_most f c (suc n) s = omega (arith, counted_most f c n s, one_most (counted_in c (head_of (answer_of f n s))))

mapped_fit : (g : Cell → ℕ) (l : List Cell) (x : ℕ) → ((c : Cell) → g c < 2 ^ 64) → x < 2 ^ 64 → all_fit (map g l ++ (x ∷ [])) ≡ true
unfolding all_fit
mapped_fit g [] x h k = rw (lt-ltb x (2 ^ 64) k)
mapped_fit g (c ∷ l) x h k = rw (lt-ltb (g c) (2 ^ 64) (h c), mapped_fit g l x h k)

pub tally_fits : (f : Format) (s : List ℕ) → length s < 2 ^ 64 → sum_of empty_tally (tally_of f s) ≡ record { code = 0; counts = tally_of f s }
unfolding tally_of
tally_fits f s h =
    let r : records_of f s < 2 ^ 64 = omega (arith, h, div-le_self (length s) (answer_size f)) in
    let l : left_over f s < 2 ^ 64 = omega (arith, h, mod-le (length s) (answer_size f)) in
    let fit = mapped_fit (λ (c : Cell). counted_of f c (records_of f s) s) cells (left_over f s)
    (λ c. omega (arith, r, counted_most f c (records_of f s) s)) l in
    sum_comm empty_tally (tally_of f s) ∙ sum_empty (tally_of f s) (tally_length f s) (each_fits (tally_of f s) fit)
