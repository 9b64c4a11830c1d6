-- What is left is the slice as it was, the answer to a request of the wrong size, or the answer to a request: each is looked at byte by byte.
use Rattle.float.proofs.Words.{◌≡◌, refl, sym, ap, ◌∙◌, subst, not, List, [], ◌∷◌, ◌++◌, append_assoc, ℕ, zero, suc, ◌≤◌, arith, eqb, length}
use Rattle.matrix.specs.Codes.{code_of}
use Rattle.matrix.specs.declared.codes.Refusal.{Refusal}
use Rattle.std.specs.Prelude.{Result}
use Rattle.float.proofs.Words.{get_or, take, drop, replicate, length-append, take-append-drop, length-take-le, take-suc, take_at, drop-cons, get_or-drop}
use Rattle.float.proofs.Words.{Format}
use contract.Lifetimes.{Lfts}
use Rattle.float.specs.Width.{F}
use Rattle.float.specs.Choice.{pick}
use Rattle.float.specs.Exactly.{Exactly}
use Rattle.float.specs.Sign.{all_finite}
use Rattle.float.proofs.Choice.{chosen, whether}
use Rattle.kinds.specs.Table.{kind_numbered, known_kind}
use Rattle.kinds.specs.Work.{WorkedAnswer, refused_kind, used_finite}
use Rattle.kinds.specs.Ways.{work_of}
use Rattle.kinds.proofs.Works.{Uncounted}
use Rattle.kinds.proofs.BothWays.{work_uncounted}
use Rattle.wire.specs.Bytes.{number_bytes_of}
use Rattle.record.specs.Layout.{event_bytes, request_size, code_at, count_at, mark_at, answer_size}
use Rattle.record.specs.Request.{kind_of, asked_of, rest_right, form_of, judged_of}
use Rattle.record.specs.Answer.{record_of, Step, record_step_of}
use Rattle.record.proofs.Answers.{with_room, wrong_size, no_room, answer_size_lem, head_byte, code_in_place, refused_unmarked, refused_clear}
use Rattle.record.proofs.answer.zanikory_answer_record.Reads as answer-record
use Rattle.cholesky.specs.Pivots.{one_at_most_zero, one_nan, refused_pivot, Stopped}
use Rattle.cholesky.proofs.Stops.{unstopped, by_stopped}
use Rattle.promises.specs.Conditions.{pivots_in, made_in}
use Rattle.promises.specs.Marks.{MarkIn}
use Rattle.promises.specs.Leaves.{Not, Turned, Leaves}
use Rattle.promises.specs.Scope.{answer_length}
use Rattle.promises.proofs.Scope.{answer_length_lem, counts_turned}
use Rattle.promises.proofs.Codes.{judged_code}
use Rattle.promises.proofs.Pivots.{pivot_given}
use Rattle.promises.proofs.Marks.{judged_mark, judged-marked}

-- ---- the head of a record

record_event : (f : Format) (s : List ℕ) (w : WorkedAnswer) → length s ≡ request_size f → take code_at (record_of f (take event_bytes s) (kind_of s) w)
    ≡ take code_at s
unfolding record_of
record_event f s w h =
    let rest = w.code ∷ w.count ∷ w.settled ∷ number_bytes_of f w.values ++ (number_bytes_of f w.left ++ number_bytes_of f w.right) in
    let head = take event_bytes s ++ (kind_of s ∷ []) in
    let first = length-take-le event_bytes s (omega arith) in
    ap (take code_at) (sym (append_assoc (take event_bytes s) (kind_of s ∷ []) rest)) ∙ take_at head rest code_at (rw length-append (omega arith))
    ∙ sym (take-suc s event_bytes 0 (omega arith))

-- ---- a request of the right size

module _ (f : Format) (s : List ℕ) where
  -- its code is none of those of a wrong size
  abbrev PastSizes : ℕ → Type 0
  PastSizes k = Not 1 k × Not 2 k

  judged_past_sizes : PastSizes (judged_of f s).code
  judged_past_sizes =
      rw (judged_code f s [])
      (chosen PastSizes (not (known_kind (kind_of s))) 3 _ ((λ e. omega arith), (λ e. omega arith))
      (chosen PastSizes (not (rest_right f s)) 4 _ ((λ e. omega arith), (λ e. omega arith))
      (chosen PastSizes (not (used_finite (asked_of f s))) 5 _ ((λ e. omega arith), (λ e. omega arith))
      (chosen PastSizes (one_at_most_zero f (pivots_in f s)) 6 _ ((λ e. omega arith), (λ e. omega arith))
      (chosen PastSizes (one_nan (pivots_in f s)) 9 _ ((λ e. omega arith), (λ e. omega arith))
      (chosen PastSizes (all_finite (made_in f s)) 0 7 ((λ e. omega arith), (λ e. omega arith)) ((λ e. omega arith), (λ e. omega arith))))))))

  judged_uncounted : Uncounted (kind_numbered (kind_of s)).counts (judged_of f s)
  unfolding judged_of
  judged_uncounted =
      let P : WorkedAnswer → Type 0 = Uncounted (kind_numbered (kind_of s)).counts in
      chosen P (eqb (form_of f s) 0) (pick (used_finite (asked_of f s)) (work_of f (asked_of f s)) (refused_kind f 5 0)) (refused_kind f (form_of f s) 0)
      (chosen P (used_finite (asked_of f s)) (work_of f (asked_of f s)) (refused_kind f 5 0) (work_uncounted f (asked_of f s)) (λ _ _. refl)) (λ _ _. refl)

-- ---- any slices

module _ (f : Format) (s a : List ℕ) (room : length a ≡ answer_size f) where
  abbrev code : ℕ
  code = (record_step_of f s a).code

  abbrev left : List ℕ
  left = (record_step_of f s a).answer

  -- the byte of the mark is the first of those behind the count
  mark_of_lem : get_or left mark_at 0 ≡ get_or (drop mark_at left) 0 0
  mark_of_lem = sym (get_or-drop mark_at left 0 0)

  -- what holds of the heads of both answers holds of all that is left
  headed : (event : Not 1 code → take code_at left ≡ take code_at s) (unread : code ≡ 1 → take code_at left ≡ replicate code_at 0) → Not 2 code
      → (pivot : Stopped code → get_or left count_at 0 ≡ refused_pivot f 1 (pivots_in f s))
      → ((Stopped code → ⊥) → ((code ≡ 0) × Turned (kind_of s) → ⊥) → get_or left count_at 0 ≡ 0)
      → (mark : get_or left mark_at 0 ≤ 1)
      → (marked : code ≡ 0 → Exactly (get_or left mark_at 0 ≡ 1) (MarkIn f s))
      → Leaves f s a code left
  headed event unread n pivot uncounted mark marked = record {
    untouched = (λ e. absurd (n e));
    size = (λ _. answer_size_lem f s a room ∙ sym (answer_length_lem f));
    coded = (λ _. code_in_place f s a room);
    event = (λ _. event);
    unread = unread;
    pivot = pivot;
    uncounted = (λ _. uncounted);
    mark = (λ _. mark);
    marked = marked;
    unmarked = (λ _ k. mark_of_lem ∙ ap (λ (l : List ℕ). get_or l 0 0) (refused_unmarked f s a room k));
    clear = (λ _ k. rw (answer_length_lem f) (refused_clear f s a room k));
  }

-- ---- each way of the step

answered : (f : Format) (s a : List ℕ) → length a ≡ answer_size f → length s ≡ request_size f
    → Leaves f s a (record_step_of f s a).code (record_step_of f s a).answer
answered f s a room size =
    let e = with_room f s a room size in
    let same = ap (λ (t : Step). t.code) e in
    let event-size = length-take-le event_bytes s (omega arith) in
    let count = ap (λ (t : Step). get_or t.answer count_at 0) e ∙ head_byte f (take event_bytes s) (kind_of s) (judged_of f s) 2 event-size in
    let mark = ap (λ (t : Step). get_or t.answer mark_at 0) e ∙ head_byte f (take event_bytes s) (kind_of s) (judged_of f s) 3 event-size in
    headed f s a room (λ _. ap (λ (t : Step). take code_at t.answer) e ∙ record_event f s (judged_of f s) size)
    (λ k. absurd ((judged_past_sizes f s).0 (sym same ∙ k)))
    (λ k. (judged_past_sizes f s).1 (sym same ∙ k))
    (λ k. count ∙ pivot_given f s (subst Stopped same k))
    (λ k c. count ∙ judged_uncounted f s (λ q. k (subst Stopped (sym same) q)) (λ q. c (same ∙ q.0, counts_turned (kind_of s) q.1)))
    (rw mark (judged_mark f s))
    (λ k. rw mark (judged-marked f s (sym same ∙ k)))

unread : (f : Format) (s a : List ℕ) → length a ≡ answer_size f → (length s ≡ request_size f → ⊥)
    → Leaves f s a (record_step_of f s a).code (record_step_of f s a).answer
unfolding record_of
unread f s a room size =
    let e = wrong_size f s a room size in
    let c = ap (λ (t : Step). t.code) e in
    headed f s a room (λ n. absurd (n c)) (λ _. ap (λ (t : Step). take code_at t.answer) e) (λ k. absurd (omega (arith, c)))
    (λ k. absurd (unstopped 1 refl (subst Stopped c k))) (λ _ _. ap (λ (t : Step). get_or t.answer count_at 0) e)
    (omega (arith, ap (λ (t : Step). get_or t.answer mark_at 0) e)) (λ k. absurd (omega (arith, c)))

untouched : (f : Format) (s a : List ℕ) → (length a ≡ answer_size f → ⊥) → Leaves f s a (record_step_of f s a).code (record_step_of f s a).answer
untouched f s a n =
    let e = no_room f s a n in
    let c = ap (λ (t : Step). t.code) e in
    record {
      untouched = (λ _. ap (λ (t : Step). t.answer) e);
      size = (λ k. absurd (k c));
      coded = (λ k. absurd (k c));
      event = (λ k. absurd (k c));
      unread = (λ k. absurd (omega (arith, c)));
      pivot = (λ k. absurd (unstopped 2 refl (subst Stopped c k)));
      uncounted = (λ k. absurd (k c));
      mark = (λ k. absurd (k c));
      marked = (λ k. absurd (omega (arith, c)));
      unmarked = (λ k. absurd (k c));
      clear = (λ k. absurd (k c));
    }

pub leaves : (f : Format) (s a : List ℕ) → Leaves f s a (record_step_of f s a).code (record_step_of f s a).answer
leaves f s a = whether (length a) (answer_size f) (λ room. whether (length s) (request_size f) (answered f s a room) (unread f s a room)) (untouched f s a)

-- ---- a refusal leaves nothing open: every byte is said

-- a list of eight places or more, with three of them by themselves
head_of : (l : List ℕ) → 8 ≤ length l → l ≡ take 5 l ++ (get_or l 5 0 ∷ get_or l 6 0 ∷ get_or l 7 0 ∷ drop 8 l)
head_of l h =
    sym (take-append-drop 5 l)
    ∙ ap (λ (t : List ℕ). take 5 l ++ t)
    (drop-cons l 5 0 (omega arith) ∙ ap (λ (t : List ℕ). get_or l 5 0 ∷ t)
    (drop-cons l 6 0 (omega arith) ∙ ap (λ (t : List ℕ). get_or l 6 0 ∷ t) (drop-cons l 7 0 (omega arith))))

pub one_refusal : (f : Format) (s a : List ℕ) (c : ℕ) (l m : List ℕ) → Leaves f s a c l → Leaves f s a c m → (c ≡ 0 → ⊥) → l ≡ m
one_refusal f s a c l m x y n =
    whether c 2 (λ e. x.untouched e ∙ sym (y.untouched e))
    (λ k.
    let event : take 5 l ≡ take 5 m = whether c 1 (λ e. x.unread e ∙ sym (y.unread e)) (λ o. x.event k o ∙ sym (y.event k o)) in
    let count : get_or l 6 0 ≡ get_or m 6 0 = by_stopped c (λ e. x.pivot e ∙ sym (y.pivot e))
    (λ o. x.uncounted k o (λ q. n q.0) ∙ sym (y.uncounted k o (λ q. n q.0))) in
    let enough : 8 ≤ answer_length f = rw (answer_length_lem f) (omega arith) in
    head_of l (omega (arith, x.size k))
    ∙ (rw (event, x.coded k ∙ sym (y.coded k), count, x.unmarked k n ∙ sym (y.unmarked k n), x.clear k n ∙ sym (y.clear k n)))
    ∙ sym (head_of m (omega (arith, y.size k))))

-- ---- nor does an answer leave its mark open

pub one_mark : (f : Format) (s a l m : List ℕ) → Leaves f s a 0 l → Leaves f s a 0 m → get_or l 7 0 ≡ get_or m 7 0
one_mark f s a l m x y =
    let p = x.mark (λ e. absurd (omega arith)) in
    let q = y.mark (λ e. absurd (omega arith)) in
    whether (get_or l 7 0) 1 (λ e. e ∙ sym ((y.marked refl).1 ((x.marked refl).0 e)))
    (λ n. whether (get_or m 7 0) 1 (λ e. absurd (n ((x.marked refl).1 ((y.marked refl).0 e)))) (λ k. zero_else _ p n ∙ sym (zero_else _ q k)))
  where
    zero_else : (k : ℕ) → k ≤ 1 → (k ≡ 1 → ⊥) → k ≡ 0
    zero_else zero h n = refl
    zero_else (suc zero) h n = absurd (n refl)
    zero_else (suc (suc k)) h n = absurd (omega arith)

-- ---- any answer within the promise of the record step

pub left_by_calls : (κs : Lfts 2) (a : _) (r : Result (Unit {0}) Refusal) (x : _) → answer-record.Post κs a r x
    → Leaves F a.0.now a.1.0.now (code_of r) x.1.0.now
left_by_calls κs a r x p = rw (p.0, p.1) (leaves F a.0.now a.1.0.now)
