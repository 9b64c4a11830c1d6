-- Every answer has a head that a tally knows: its code is one of the rows', and with code 0 its kind is known, its mark is 1 or 0, and its count is that of a
-- run, at most 25, or 0.
use Rattle.float.proofs.Words.{◌≡◌, refl, sym, ap, ◌∙◌, subst, true, false, not, true≢false, false≢true, List, [], ℕ, ◌≤◌, arith, zero, suc}
use Rattle.matrix.specs.Codes.{code_of}
use Rattle.matrix.specs.declared.codes.Refusal.{Refusal}
use Rattle.std.specs.Prelude.{Result}
use Rattle.float.proofs.Words.{◌+◌, ◌*◌, mul-suc, zero-div, eqb, length, get_or, take}
use Rattle.float.proofs.Words.{replicate, length-take, length-drop, length-take-le, Format, eq-eqb, ne_eqb, le-leb}
use native.Mathlib.Nat.{mul-mod_right}
use lib.ListN.{length-replicate}
use contract.Lifetimes.{Lfts}
use Rattle.float.specs.Width.{F}
use Rattle.float.specs.Choice.{pick}
use Rattle.float.specs.Sign.{all_finite}
use Rattle.float.proofs.Choice.{chosen, so_or_not, by_test, by_eqb, whether}
use Rattle.cholesky.specs.Pivots.{one_at_most_zero, one_nan, Stopped}
use Rattle.cholesky.proofs.Stops.{unstopped}
use Rattle.eigen.proofs.Counted as eigen
use Rattle.svd.proofs.Counted as svd
use Rattle.kinds.specs.Table.{Kind, kind_numbered, known_kind}
use Rattle.kinds.specs.Work.{WorkedAnswer, Asked, first_of, refused_kind, used_finite, answered_by, plain_of}
use Rattle.kinds.specs.Ways.{power_for, divided, work_of}
use Rattle.kinds.proofs.Rows.{each_kind}
use Rattle.kinds.proofs.BothWays.{by_back, by_way, work_uncounted, work_mark}
use Rattle.record.specs.Layout.{event_bytes, request_size, answer_size}
use Rattle.record.specs.Request.{kind_of, asked_of, rest_right, form_of, judged_of}
use Rattle.record.specs.Answer.{record_of, wrong_size_of, answered_of, record_step_of}
use Rattle.record.specs.Stream.{request_of, answers_of}
use Rattle.record.proofs.Answers.{with_room, wrong_size, answer_size_lem, head_byte, answers_size}
use Rattle.record.proofs.Streams.{stepped}
use Rattle.record.proofs.answer.zanikory_answer_record.Reads as answer-record
use Rattle.counts.specs.Known.{head_of, codes, marks, most_turns, most_turns_of, among, foreign_of}
use Rattle.counts.specs.Cells.{coded, foreign, row_of, counted_in, foreign_at, left_at}
use Rattle.counts.specs.Tally.{counted_of, records_of, tally_of}
use Rattle.counts.specs.declared.known.Head.{Head}
use Rattle.counts.proofs.Placed.{not-foreign, in_its_row, counted_once}
use Rattle.counts.proofs.Cut.{counted_cut}
use Rattle.counts.proofs.AddedUp.{foreign_count, left_count}
use Rattle.promises.specs.Scope.{request_length, kind_in}
use Rattle.promises.specs.Conditions.{pivots_in, made_in}
use Rattle.promises.specs.Counted.{Counted}
use Rattle.promises.proofs.Scope.{request_length_lem}
use Rattle.promises.proofs.Codes.{judged_code}

-- ---- a kind's answer with code 0

mark_known : (m : ℕ) → m ≤ 1 → among m marks ≡ true
mark_known zero h = refl
mark_known (suc zero) h = refl
mark_known (suc (suc m)) h = absurd (omega arith)

uncounted : {X : Type 0} → false ≡ true → X
uncounted q = absurd (false≢true q)

-- of a run
plain_turned : (f : Format) (a : Asked) → (kind_numbered a.kind).counts ≡ true → (plain_of f a).code ≡ 0 → (plain_of f a).count ≤ most_turns
unfolding answered_by
plain_turned f a =
    each_kind (λ (k : Kind). k.counts ≡ true → (answered_by f k.kernel a).code ≡ 0 → (answered_by f k.kernel a).count ≤ most_turns) uncounted
    uncounted
    (λ _ c. (eigen.counted f (first_of 6 a.nine) c).ran.within)
    uncounted
    (λ _ c. (svd.counted f (first_of 9 a.nine) c).ran.within)
    uncounted
    uncounted
    uncounted
    uncounted
    a.kind

work_turned : (f : Format) (a : Asked) → (kind_numbered a.kind).counts ≡ true → (work_of f a).code ≡ 0 → (work_of f a).count ≤ most_turns
work_turned f a q =
    let P : WorkedAnswer → Type 0 = λ (w : WorkedAnswer). w.code ≡ 0 → w.count ≤ most_turns in
    let b = divided f (power_for f a) a in
    by_way f a P (λ _. by_back f (power_for f a) (plain_of f b) P (λ _. plain_turned f b q) (λ _ c. absurd (omega arith))) (λ _. plain_turned f a q)

-- of a kind that makes none
work_unturned : (f : Format) (a : Asked) → (kind_numbered a.kind).counts ≡ false → (work_of f a).code ≡ 0 → (work_of f a).count ≤ 0
work_unturned f a q c =
    let count = work_uncounted f a (λ e. unstopped 0 refl (subst Stopped c e)) (λ e. true≢false (sym e.1 ∙ q)) in
    omega (arith, count)

-- the mark and the count
abbrev Made : ℕ → WorkedAnswer → Type 0
Made most w = (among w.settled marks ≡ true) × (w.count ≤ most)

work_made : (f : Format) (a : Asked) → (work_of f a).code ≡ 0 → Made (most_turns_of (kind_numbered a.kind)) (work_of f a)
work_made f a c = (
  mark_known (work_of f a).settled (work_mark f a),
  by_test (λ (n : ℕ). (work_of f a).count ≤ n) (kind_numbered a.kind).counts most_turns 0 (λ q. work_turned f a q c) (λ q. work_unturned f a q c),
)

-- ---- a request of the right size

module _ (f : Format) (s : List ℕ) where
  abbrev InCodes : ℕ → Type 0
  InCodes k = among k codes ≡ true

  judged-among : InCodes (judged_of f s).code
  judged-among =
      rw (judged_code f s [])
      (chosen InCodes (not (known_kind (kind_of s))) 3 _ refl
      (chosen InCodes (not (rest_right f s)) 4 _ refl
      (chosen InCodes (not (used_finite (asked_of f s))) 5 _ refl
      (chosen InCodes (one_at_most_zero f (pivots_in f s)) 6 _ refl
      (chosen InCodes (one_nan (pivots_in f s)) 9 _ refl (chosen InCodes (all_finite (made_in f s)) 0 7 refl refl))))))

  judged_kind : (judged_of f s).code ≡ 0 → known_kind (kind_of s) ≡ true
  judged_kind c =
      so_or_not (known_kind (kind_of s)) (λ e. e)
      (λ e. let three : (judged_of f s).code ≡ 3 = judged_code f s [] ∙ (rw e) in absurd (omega arith))

  judged_made : (judged_of f s).code ≡ 0 → Made (most_turns_of (kind_numbered (kind_of s))) (judged_of f s)
  unfolding judged_of
  judged_made =
      let P : WorkedAnswer → Type 0 = λ (w : WorkedAnswer). w.code ≡ 0 → Made (most_turns_of (kind_numbered (kind_of s))) w in
      by_eqb P (form_of f s) 0 (pick (used_finite (asked_of f s)) (work_of f (asked_of f s)) (refused_kind f 5 0)) (refused_kind f (form_of f s) 0)
      (λ _. chosen P (used_finite (asked_of f s)) (work_of f (asked_of f s)) (refused_kind f 5 0) (work_made f (asked_of f s)) (λ c. absurd (omega arith)))
      (λ n c. absurd (n c))

-- ---- the head of a record

record_head : (f : Format) (event : List ℕ) (kind : ℕ) (w : WorkedAnswer) → length event ≡ event_bytes
    → head_of (record_of f event kind w) ≡ record { kind = kind; code = w.code; turns = w.count; mark = w.settled }
record_head f event kind w h =
    rw (head_byte f event kind w 0 h, head_byte f event kind w 1 h, head_byte f event kind w 2 h, head_byte f event kind w 3 h)

-- the head of the answer to a request of the right size
module _ (f : Format) (s : List ℕ) (size : length s ≡ request_size f) where
  abbrev answer_head : Head
  answer_head = record { kind = kind_of s; code = (judged_of f s).code; turns = (judged_of f s).count; mark = (judged_of f s).settled }

  answer_head_lem : head_of (answered_of f s) ≡ answer_head
  answer_head_lem = record_head f (take event_bytes s) (kind_of s) (judged_of f s) (length-take-le event_bytes s (omega arith))

  answer_known : foreign_of answer_head ≡ false
  answer_known =
      not-foreign answer_head (judged-among f s)
      (λ c. rw (judged_kind f s c, (judged_made f s c).0, le-leb (judged_of f s).count (most_turns_of (kind_numbered (kind_of s))) (judged_made f s c).1))

-- ---- both ways of the step that leave an answer

-- where it is counted, by its head
counted_as : (f : Format) (s left : List ℕ) (code : ℕ) (h : Head) → head_of left ≡ h → h.kind ≡ pick (eqb (length s) (request_length f)) (kind_in s) 0
    → h.code ≡ code → foreign_of h ≡ false → Counted f s code left
counted_as f s left code h e kind same known =
    let unforeign : foreign_of (head_of left) ≡ false = rw e known in
    let handed_back : (head_of left).code ≡ code = ap (λ (h : Head). h.code) e ∙ same in
    record {
      kind = ap (λ (h : Head). h.kind) e ∙ kind;
      handed_back = handed_back;
      known = unforeign;
      in_row = subst (λ (k : ℕ). counted_in (coded (row_of (head_of left)) k) (head_of left) ≡ true) handed_back (in_its_row (head_of left) unforeign);
    }

module _ (f : Format) (s a : List ℕ) (room : length a ≡ answer_size f) where
  answered : length s ≡ request_size f → Counted f s (record_step_of f s a).code (record_step_of f s a).answer
  answered size =
      let scoped : eqb (length s) (request_length f) ≡ true = eq-eqb _ _ (size ∙ sym (request_length_lem f)) in
      rw (with_room f s a room size)
      (counted_as f s (answered_of f s) (judged_of f s).code (answer_head f s size) (answer_head_lem f s size) (rw scoped) refl (answer_known f s size))

  unread : (length s ≡ request_size f → ⊥) → Counted f s (record_step_of f s a).code (record_step_of f s a).answer
  unread n =
      let h : Head = record { kind = 0; code = 1; turns = 0; mark = 0 } in
      let scoped : eqb (length s) (request_length f) ≡ false = ne_eqb _ _ (λ e. n (e ∙ request_length_lem f)) in
      rw (wrong_size f s a room n)
      (counted_as f s (wrong_size_of f) 1 h (record_head f (replicate event_bytes 0) 0 (refused_kind f 1 0) refl) (rw scoped) refl
      (not-foreign h refl (λ e. absurd (omega arith))))

  pub answers_known : Counted f s (record_step_of f s a).code (record_step_of f s a).answer
  answers_known = whether (length s) (request_size f) answered unread

-- ---- any answer within the promise of the record step

pub known_by_calls : (κs : Lfts 2) (a : _) (r : Result (Unit {0}) Refusal) (x : _) → answer-record.Post κs a r x → length a.1.0.now ≡ answer_size F
    → Counted F a.0.now (code_of r) x.1.0.now
known_by_calls κs a r x p room = rw (p.0, p.1) (answers_known F a.0.now a.1.0.now room)

-- ---- the answers to a file of requests: none is foreign, and no byte is left over

answered_size : (f : Format) (s : List ℕ) → length s ≡ request_size f → length (answered_of f s) ≡ answer_size f
answered_size f s size =
    let place : List ℕ = replicate (answer_size f) 0 in
    let room : length place ≡ answer_size f = length-replicate (answer_size f) 0 in
    ap length (sym (stepped f s place size room)) ∙ answer_size_lem f s place room

module _ (f : Format) (s : List ℕ) where
  foreign_none : (n : ℕ) → request_size f * n ≤ length s → counted_of f foreign (records_of f (answers_of f n s)) (answers_of f n s) ≡ 0
  unfolding answers_of counted_of counted_in
  foreign_none zero h = ap (λ (n : ℕ). counted_of f foreign n []) (zero-div (answer_size f))
  foreign_none (suc n) h =
      let k : request_size f * n + request_size f ≤ length s = rw (mul-suc (request_size f) n) at h in
      let size : length (request_of f n s) ≡ request_size f = simp (length-take, length-drop) (omega arith) in
      let last = answered_of f (request_of f n s) in
      let unforeign : foreign_of (head_of last) ≡ false = rw (answer_head_lem f (request_of f n s) size) (answer_known f (request_of f n s) size) in
      counted_cut f (answers_of f n s) last n (answers_size f n s (omega arith)) foreign
      ∙ (rw (foreign_none n (omega arith), counted_once f last (answered_size f (request_of f n s) size) foreign, unforeign))

  pub none_foreign : (n : ℕ) → request_size f * n ≤ length s → get_or (tally_of f (answers_of f n s)) foreign_at 0 ≡ 0
  none_foreign n h = foreign_count f (answers_of f n s) ∙ foreign_none n h

  pub none_left : (n : ℕ) → request_size f * n ≤ length s → get_or (tally_of f (answers_of f n s)) left_at 0 ≡ 0
  none_left n h = left_count f (answers_of f n s) ∙ (rw (answers_size f n s h) (mul-mod_right (answer_size f) n))
