-- The tests of the lengths come first, and the sum is refused exactly where a count passes: each call's code is that of its rows.
use Rattle.float.proofs.Words.{◌≡◌, refl, sym, ap, ◌∙◌, true≢false, List, [], ◌∷◌, inl, inr, ℕ, eqb, ◌<◌, ◌^◌, eq-eqb, ne_eqb, length, Format}
use Rattle.float.specs.Choice.{pick}
use Rattle.float.proofs.Choice.{so_or_not, whether}
use Rattle.matrix.specs.Rows.{Row, on, Gives, WrongLength}
use Rattle.record.specs.Layout.{answer_size}
use Rattle.counts.specs.Cells.{tally_size}
use Rattle.counts.specs.Tally.{Tally, plus_of, all_fit, tally_of, empty_tally, sum_of, room_for, sized, cleared_of, with_record, with_file, tallied_of}
use Rattle.counts.specs.Tally.{with_tally}
use Rattle.counts.specs.Refused.{TooLarge, clear_rows, record_rows, file_rows, add_rows}
use Rattle.counts.proofs.Sums.{sum_fits_each, each_of_sum}
use Rattle.counts.proofs.Added.{tally_fits}
use Rattle.counts.proofs.Files.{tally_length}

-- a length that is tested first: its row, and those behind it
length-row : {A : Type 0} (code : A → ℕ) (xs : List ℕ) (size k : ℕ) (a b : A) (rs : List Row) → code b ≡ k
    → (length xs ≡ size → Gives rs (code a)) → Gives (on k (WrongLength xs size) ∷ rs) (code (pick (eqb (length xs) size) a b))
length-row code xs size k a b rs e g =
    whether (length xs) size (λ n. rw (eq-eqb (length xs) size n) (inr ((λ w. w n), g n))) (λ n. rw (ne_eqb (length xs) size n) (inl (n, e)))

room-codes : (counts : List ℕ) (t : Tally) (rs : List Row) → (length counts ≡ tally_size → Gives rs t.code)
    → Gives (on 2 (WrongLength counts tally_size) ∷ rs) (room_for counts t).code
room-codes counts t rs = length-row (λ (t : Tally). t.code) counts tally_size 2 t (record { code = 2; counts = counts }) rs refl

sized-codes : (xs : List ℕ) (size : ℕ) (counts : List ℕ) (t : Tally) (rs : List Row) → (length xs ≡ size → Gives rs t.code)
    → Gives (on 1 (WrongLength xs size) ∷ rs) (sized (length xs) size counts t).code
sized-codes xs size counts t rs = length-row (λ (t : Tally). t.code) xs size 1 t (record { code = 1; counts = counts }) rs refl

sum_codes : (xs ys : List ℕ) → length ys ≡ length xs → Gives (on 14 (TooLarge xs ys) ∷ []) (sum_of xs ys).code
sum_codes xs ys n =
    so_or_not (all_fit (plus_of xs ys)) (λ e. rw e (inr ((λ w. w (each_of_sum xs ys n e)), refl)))
    (λ e. rw e (inl ((λ h. true≢false (sym (sum_fits_each xs ys n h) ∙ e)), refl)))

-- ---- the calls

pub clear_codes : (counts : List ℕ) → Gives (clear_rows counts) (cleared_of counts).code
unfolding cleared_of
clear_codes counts = room-codes counts (record { code = 0; counts = empty_tally }) [] (λ e. refl)

pub record_codes : (f : Format) (counts r : List ℕ) → Gives (record_rows f counts r) (with_record f counts r).code
unfolding with_record
record_codes f counts r =
    let sum = sum_of counts (tally_of f r) in
    let last : List Row = on 14 (TooLarge counts (tally_of f r)) ∷ [] in
    room-codes counts (sized (length r) (answer_size f) counts sum) (on 1 (WrongLength r (answer_size f)) ∷ last)
    (λ e. sized-codes r (answer_size f) counts sum last (λ _. sum_codes counts (tally_of f r) (tally_length f r ∙ sym e)))

pub file_codes : (f : Format) (counts s : List ℕ) → Gives (file_rows f counts s) (with_file f counts s).code
unfolding with_file
file_codes f counts s =
    room-codes counts (sum_of counts (tally_of f s)) (on 14 (TooLarge counts (tally_of f s)) ∷ [])
    (λ e. sum_codes counts (tally_of f s) (tally_length f s ∙ sym e))

-- of the tally of a slice the number of counts alone can be wrong
pub of_codes : (f : Format) (counts s : List ℕ) → length s < 2 ^ 64 → Gives (clear_rows counts) (tallied_of f counts s).code
unfolding tallied_of
of_codes f counts s h = room-codes counts (sum_of empty_tally (tally_of f s)) [] (λ e. ap (λ (t : Tally). t.code) (tally_fits f s h))

pub add-codes : (counts more : List ℕ) → Gives (add_rows counts more) (with_tally counts more).code
unfolding with_tally
add-codes counts more =
    let sum = sum_of counts more in
    let last : List Row = on 14 (TooLarge counts more) ∷ [] in
    room-codes counts (sized (length more) tally_size counts sum) (on 1 (WrongLength more tally_size) ∷ last)
    (λ e. sized-codes more tally_size counts sum last (λ n. sum_codes counts more (n ∙ sym e)))
