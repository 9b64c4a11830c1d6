-- Columns that are exchanged as numbers are exchanged as bytes: a column's bytes in an answer are those of its three numbers.
use Rattle.float.proofs.Words.{◌≡◌, sym, ap, ◌∙◌, List, ◌∷◌, ◌++◌, append_assoc, ℕ, ◌+◌, ◌*◌, ◌≤◌, arith, length, take, drop, length-append, length-take-le}
use Rattle.float.proofs.Words.{length-drop, get_or-drop, drop-append-add, nan, Float, Format}
use Rattle.matrix.specs.Places.{at}
use Rattle.matrix.proofs.Tables.{tabulate-same, tabulate-take}
use Rattle.eigen.specs.Reversed.{column_of, ColumnsExchanged}
use Rattle.kinds.proofs.Works.{Sized}
use Rattle.wire.specs.Bytes.{number_bytes, place_of, part, number_bytes_of}
use Rattle.wire.proofs.Numbers.{numbers_length, numbers_drop, numbers_take}
use Rattle.record.specs.Layout.{event_bytes, request_size, left_at}
use Rattle.record.specs.Request.{kind_of, judged_of}
use Rattle.record.specs.Answer.{record_of}
use Rattle.record.proofs.Answers.{judged-sized}
use Rattle.promises.specs.Wiring.{column_bytes, BytesExchanged}
use Rattle.kinds.specs.Work.{WorkedAnswer}

-- a column is three numbers in a row
column_taken : (v : List Float) (c : ℕ) → length v ≡ 9 → c ≤ 2 → column_of v c ≡ take 3 (drop (3 * c) v)
column_taken v c n h =
    let l = length-drop (3 * c) v in
    tabulate-same 3 _ (at (drop (3 * c) v))
    (λ r b. let q : r + c * 3 ≡ 3 * c + r = omega arith in ap (at v) q ∙ sym (get_or-drop (3 * c) v r nan))
    ∙ tabulate-take 3 (drop (3 * c) v) (omega arith)

-- in a record of any event
in_record : (f : Format) (event : List ℕ) (kind : ℕ) (w : WorkedAnswer) (c : ℕ) → length event ≡ event_bytes → Sized w → c ≤ 2
    → part (place_of f (left_at f) (3 * c)) (number_bytes f * 3) (record_of f event kind w) ≡ number_bytes_of f (column_of w.left c)
unfolding record_of
in_record f event kind w c e n h =
    let values = number_bytes_of f w.values in
    let rest = number_bytes_of f w.left ++ number_bytes_of f w.right in
    let head = event ++ (kind ∷ w.code ∷ w.count ∷ w.settled ∷ values) in
    let v = numbers_length f w.values in
    let m = length-append event (kind ∷ w.code ∷ w.count ∷ w.settled ∷ values) in
    let size : length values ≡ number_bytes f * 3 = v ∙ ap (λ (k : ℕ). number_bytes f * k) n.0 in
    let q : place_of f (left_at f) (3 * c) ≡ length head + number_bytes f * (3 * c) = omega arith in
    let d = length-drop (3 * c) w.left in
    ap (λ (k : ℕ). part k (number_bytes f * 3) (record_of f event kind w)) q
    ∙ ap (λ (l : List ℕ). take (number_bytes f * 3) (drop (length head + number_bytes f * (3 * c)) l))
    (sym (append_assoc event (kind ∷ w.code ∷ w.count ∷ w.settled ∷ values) rest))
    ∙ ap (take (number_bytes f * 3)) (drop-append-add head rest (number_bytes f * (3 * c))
    ∙ numbers_drop f w.left (number_bytes_of f w.right) (3 * c) (omega (arith, n.1)))
    ∙ numbers_take f (drop (3 * c) w.left) (number_bytes_of f w.right) 3 (omega (arith, n.1))
    ∙ ap (number_bytes_of f) (sym (column_taken w.left c n.1 h))

column_bytes_lem : (f : Format) (s : List ℕ) (c : ℕ) → length s ≡ request_size f → c ≤ 2
    → column_bytes f c s ≡ number_bytes_of f (column_of (judged_of f s).left c)
column_bytes_lem f s c size h = in_record f (take event_bytes s) (kind_of s) (judged_of f s) c (length-take-le event_bytes s (omega arith)) (judged-sized f s) h

pub bytes_exchanged : (f : Format) (s t : List ℕ) → length s ≡ request_size f → length t ≡ request_size f
    → ColumnsExchanged (judged_of f s).left (judged_of f t).left → BytesExchanged f s t
bytes_exchanged f s t m n h =
    let same : (c d : ℕ) → c ≤ 2 → d ≤ 2 → column_of (judged_of f s).left c ≡ column_of (judged_of f t).left d → column_bytes f c s ≡ column_bytes f d t =
    λ c d p q e. column_bytes_lem f s c m p ∙ ap (number_bytes_of f) e ∙ sym (column_bytes_lem f t d n q) in
    (same 0 2 (omega arith) (omega arith) h.0, same 1 1 (omega arith) (omega arith) h.1, same 2 0 (omega arith) (omega arith) h.2)
