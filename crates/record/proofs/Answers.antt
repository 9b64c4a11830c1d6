-- Every answer: its size, its code in its byte, zeros from the mark on where the code is not 0, and 5 only by the record's own test.
use Rattle.float.proofs.Words.{◌≡◌, refl, sym, ap, ◌∙◌, true, List, ◌∷◌, ◌++◌, ℕ, zero, suc, ◌+◌, ◌-◌, ◌*◌, ◌≤◌, mul-zero, mul-suc, arith, eqb, length, get_or}
use Rattle.float.proofs.Words.{take, drop, replicate, length-append, length-take, length-drop, replicate-append-replicate, length-take-le, get_or-append-add}
use Rattle.float.proofs.Words.{drop-append-add, drop-drop, Format, eq-eqb, ne_eqb}
use Rattle.float.proofs.Choice.{chosen, by_eqb, whether}
use Rattle.kinds.specs.Work.{WorkedAnswer, refused_kind, used_finite}
use Rattle.kinds.specs.Ways.{work_of}
use Rattle.kinds.proofs.Works.{Sized, Clear}
use Rattle.kinds.proofs.BothWays.{work_sized, work_clear, work_five}
use Rattle.wire.specs.Bytes.{number_bytes, number_bytes_of}
use Rattle.wire.proofs.Numbers.{numbers_length, zeros_bytes}
use Rattle.record.specs.Layout.{event_bytes, numbers_at, request_size, code_at, mark_at, answer_size}
use Rattle.record.specs.Request.{kind_of, asked_of, form_of, judged_of}
use Rattle.record.specs.Answer.{record_of, answered_of, wrong_size_of, Step, record_step_of}
use Rattle.record.specs.Stream.{request_of, answers_of}

-- ---- the three ways of the step: an answer, the answer to a request of the wrong size, and nothing written

pub with_room : (f : Format) (s a : List ℕ) → length a ≡ answer_size f → length s ≡ request_size f
    → record_step_of f s a ≡ record { code = (judged_of f s).code; answer = answered_of f s }
unfolding record_step_of
with_room f s a k h = rw (eq-eqb _ (answer_size f) k, eq-eqb _ (request_size f) h)

pub wrong_size : (f : Format) (s a : List ℕ) → length a ≡ answer_size f → (length s ≡ request_size f → ⊥)
    → record_step_of f s a ≡ record { code = 1; answer = wrong_size_of f }
unfolding record_step_of
wrong_size f s a k h = rw (eq-eqb _ (answer_size f) k, ne_eqb _ (request_size f) h)

pub no_room : (f : Format) (s a : List ℕ) → (length a ≡ answer_size f → ⊥) → record_step_of f s a ≡ record { code = 2; answer = a }
unfolding record_step_of
no_room f s a k = rw (ne_eqb _ (answer_size f) k)

-- ---- a request of the right size

pub judged-sized : (f : Format) (s : List ℕ) → Sized (judged_of f s)
unfolding judged_of
judged-sized f s =
    chosen Sized (eqb (form_of f s) 0) _ _
    (chosen Sized (used_finite (asked_of f s)) _ _ (work_sized f (asked_of f s)) (refl, refl, refl))
    (refl, refl, refl)

judged_clear : (f : Format) (s : List ℕ) → Clear f (judged_of f s)
unfolding judged_of
judged_clear f s =
    chosen (Clear f) (eqb (form_of f s) 0) _ _
    (chosen (Clear f) (used_finite (asked_of f s)) _ _ (work_clear f (asked_of f s)) (λ _. refl))
    (λ _. refl)

pub event_length : (f : Format) (s : List ℕ) → length s ≡ request_size f → length (take event_bytes s) ≡ event_bytes
event_length f s h = length-take-le event_bytes s (omega arith)

-- every answer is a record over one event's bytes
each_record : (P : Step → Type 0) (f : Format) (s a : List ℕ) → length a ≡ answer_size f
    → ((event : List ℕ) (kind : ℕ) (w : WorkedAnswer) → length event ≡ event_bytes → Sized w → Clear f w
    → P (record { code = w.code; answer = record_of f event kind w }))
    → P (record_step_of f s a)
unfolding record_step_of
each_record P f s a h k =
    rw (eq-eqb (length a) (answer_size f) h) (by_eqb P (length s) (request_size f) _ _
    (λ e. k (take event_bytes s) (kind_of s) (judged_of f s) (event_length f s e) (judged-sized f s) (judged_clear f s))
    (λ _. k (replicate event_bytes 0) 0 (refused_kind f 1 0) refl (refl, refl, refl) (λ _. refl)))

-- ---- the size

record_size : (f : Format) (event : List ℕ) (kind : ℕ) (w : WorkedAnswer) → length event ≡ event_bytes → Sized w
    → length (record_of f event kind w) ≡ answer_size f
unfolding record_of
record_size f event kind w h n = simp (length-append, numbers_length, h, n.0, n.1, n.2) (omega arith)

pub answer_size_lem : (f : Format) (s a : List ℕ) → length a ≡ answer_size f → length (record_step_of f s a).answer ≡ answer_size f
answer_size_lem f s a h = each_record (λ (t : Step). length t.answer ≡ answer_size f) f s a h (λ event kind w e n _. record_size f event kind w e n)

-- ---- the code that is handed back stands in its byte, unless it is 2 and nothing is written

-- the bytes behind the event's number
pub head_byte : (f : Format) (event : List ℕ) (kind : ℕ) (w : WorkedAnswer) (i : ℕ) → length event ≡ event_bytes
    → let numbers = number_bytes_of f w.values ++ (number_bytes_of f w.left ++ number_bytes_of f w.right) in
    get_or (record_of f event kind w) (event_bytes + i) 0 ≡ get_or (kind ∷ w.code ∷ w.count ∷ w.settled ∷ numbers) i 0
unfolding record_of
head_byte f event kind w i h = ap (λ (k : ℕ). get_or (record_of f event kind w) (k + i) 0) (sym h) ∙ get_or-append-add event _ i 0

pub code_in_place : (f : Format) (s a : List ℕ) → length a ≡ answer_size f → get_or (record_step_of f s a).answer code_at 0 ≡ (record_step_of f s a).code
code_in_place f s a h = each_record (λ (t : Step). get_or t.answer code_at 0 ≡ t.code) f s a h (λ event kind w e _ _. head_byte f event kind w 1 e)

pub code_unless_2 : (f : Format) (s a : List ℕ) → ((record_step_of f s a).code ≡ 2 → ⊥) → get_or (record_step_of f s a).answer code_at 0
    ≡ (record_step_of f s a).code
code_unless_2 f s a k =
    whether (length a) (answer_size f) (code_in_place f s a) (λ n. absurd (k (ap (λ (t : Step). t.code) (no_room f s a n))))

-- ---- with a code other than 0 the mark is zero, and every byte behind it

record_clear : (f : Format) (event : List ℕ) (kind code pivot : ℕ) → length event ≡ event_bytes
    → drop mark_at (record_of f event kind (refused_kind f code pivot)) ≡ 0 ∷ replicate (answer_size f - numbers_at) 0
unfolding record_of
record_clear f event kind code pivot h =
    let e : number_bytes f * 3 + (number_bytes f * 9 + number_bytes f * 9) ≡ answer_size f - numbers_at = omega arith in
    ap (λ (k : ℕ). drop (k + 3) (record_of f event kind (refused_kind f code pivot))) (sym h)
    ∙ drop-append-add event _ 3
    ∙ ap (λ (l : List ℕ). 0 ∷ l)
    (rw (
      zeros_bytes f 3,
      zeros_bytes f 9,
      replicate-append-replicate {A = ℕ} (number_bytes f * 9) (number_bytes f * 9) 0,
      replicate-append-replicate {A = ℕ} (number_bytes f * 3) (number_bytes f * 9 + number_bytes f * 9) 0,
      e,
    ))

pub refused_unmarked : (f : Format) (s a : List ℕ) → length a ≡ answer_size f → ((record_step_of f s a).code ≡ 0 → ⊥)
    → drop mark_at (record_step_of f s a).answer ≡ 0 ∷ replicate (answer_size f - numbers_at) 0
refused_unmarked f s a h =
    each_record (λ (t : Step). (t.code ≡ 0 → ⊥) → drop mark_at t.answer ≡ 0 ∷ replicate (answer_size f - numbers_at) 0) f s a h
    (λ event kind w e _ c k. ap (λ (w : WorkedAnswer). drop mark_at (record_of f event kind w)) (c k) ∙ record_clear f event kind w.code w.count e)

pub refused_clear : (f : Format) (s a : List ℕ) → length a ≡ answer_size f → ((record_step_of f s a).code ≡ 0 → ⊥)
    → drop numbers_at (record_step_of f s a).answer ≡ replicate (answer_size f - numbers_at) 0
refused_clear f s a h k = sym (drop-drop 1 mark_at (record_step_of f s a).answer) ∙ ap (drop 1) (refused_unmarked f s a h k)

-- ---- after the record's test no kernel gives 5

pub five_is_the_test : (f : Format) (s : List ℕ) → used_finite (asked_of f s) ≡ true → (work_of f (asked_of f s)).code ≡ 5 → ⊥
five_is_the_test f s = work_five f (asked_of f s)

-- ---- many answers have the size of so many

pub answers_size : (f : Format) (n : ℕ) (s : List ℕ) → request_size f * n ≤ length s → length (answers_of f n s) ≡ answer_size f * n
unfolding answers_of
answers_size f zero s h = sym (mul-zero (answer_size f))
answers_size f (suc n) s h =
    let k : request_size f * n + request_size f ≤ length s = rw mul-suc at h in
    let size : length (request_of f n s) ≡ request_size f = simp (length-take, length-drop) (omega arith) in
    rw (
      length-append,
      answers_size f n s (omega arith),
      record_size f (take event_bytes (request_of f n s)) (kind_of (request_of f n s)) (judged_of f (request_of f n s)) (event_length f (request_of f n s) size)
          (judged-sized f (request_of f n s)),
    )
    (sym (mul-suc (answer_size f) n))
