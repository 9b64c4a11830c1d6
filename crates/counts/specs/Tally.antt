-- The tally of an answer file, in whole numbers without a bound; the sum of two tallies, which is refused where a count passes 64 bits; and what each
-- call leaves. Definitions only.
use Rattle.std.specs.Prelude.{◌≡◌, Bool, true, false, ◌&&◌, List, [], ◌∷◌, ◌++◌, map, ℕ, zero, suc, ◌+◌, ◌/◌, ◌%◌, ◌^◌, eqb, ltb, length, replicate}
use Rattle.std.specs.Float.{Format}
use Rattle.float.specs.Choice.{pick}
use Rattle.record.specs.Layout.{answer_size}
use Rattle.record.specs.Stream.{answer_of}
use Rattle.counts.specs.Known.{head_of}
use Rattle.counts.specs.Cells.{Cell, counted_in, cells, tally_size}

-- ---- the tally of a file

abbrev pub one : Bool → ℕ
one true = 1
one false = 0

-- how many of the first n records are counted in a cell
unfoldable pub counted_of : Format → Cell → ℕ → List ℕ → ℕ
counted_of f c zero s = 0
counted_of f c (suc n) s = counted_of f c n s + one (counted_in c (head_of (answer_of f n s)))

-- the whole records, and the bytes left over behind them
abbrev pub records_of : Format → List ℕ → ℕ
records_of f s = length s / answer_size f

abbrev pub left_over : Format → List ℕ → ℕ
left_over f s = length s % answer_size f

unfoldable pub tally_of : Format → List ℕ → List ℕ
tally_of f s = map (λ (c : Cell). counted_of f c (records_of f s) s) cells ++ (left_over f s ∷ [])

abbrev pub empty_tally : List ℕ
empty_tally = replicate tally_size 0

-- ---- the sum of two

unfoldable pub plus_of : List ℕ → List ℕ → List ℕ
plus_of [] ys = []
plus_of (x ∷ xs) [] = []
plus_of (x ∷ xs) (y ∷ ys) = (x + y) ∷ plus_of xs ys

-- all counts of a list together
unfoldable pub total : List ℕ → ℕ
total [] = 0
total (n ∷ ns) = n + total ns

-- no count passes 64 bits
unfoldable pub all_fit : List ℕ → Bool
all_fit [] = true
all_fit (n ∷ ns) = ltb n (2 ^ 64) && all_fit ns

-- a code, and the counts that are left
pub record Tally : Type 0 where
  pub code : ℕ
  pub counts : List ℕ

-- the sum, or 14 and zeros
abbrev pub sum_of : List ℕ → List ℕ → Tally
sum_of xs ys = pick (all_fit (plus_of xs ys)) (record { code = 0; counts = plus_of xs ys }) (record { code = 14; counts = empty_tally })

-- ---- the calls. 2 is for counts of the wrong number, and leaves them; 1, for another slice of the wrong length, does too

abbrev pub room_for : List ℕ → Tally → Tally
room_for counts t = pick (eqb (length counts) tally_size) t (record { code = 2; counts = counts })

abbrev pub sized : ℕ → ℕ → List ℕ → Tally → Tally
sized n size counts t = pick (eqb n size) t (record { code = 1; counts = counts })

unfoldable pub cleared_of : List ℕ → Tally
cleared_of counts = room_for counts (record { code = 0; counts = empty_tally })

-- one record more
unfoldable pub with_record : Format → List ℕ → List ℕ → Tally
with_record f counts r = room_for counts (sized (length r) (answer_size f) counts (sum_of counts (tally_of f r)))

-- the records of a file more, and its bytes left over
unfoldable pub with_file : Format → List ℕ → List ℕ → Tally
with_file f counts s = room_for counts (sum_of counts (tally_of f s))

-- the tally of a file, whatever the counts were
unfoldable pub tallied_of : Format → List ℕ → List ℕ → Tally
tallied_of f counts s = room_for counts (sum_of empty_tally (tally_of f s))

-- another tally more
unfoldable pub with_tally : List ℕ → List ℕ → Tally
with_tally counts more = room_for counts (sized (length more) tally_size counts (sum_of counts more))

-- what a call promises: the code handed back, and the counts at exit
abbrev pub Left : Tally → ℕ → List ℕ → Type 0
Left t code left = (code ≡ t.code) × (left ≡ t.counts)
