-- What is served: the answers are there whether the write went well or not, and what is kept is the rest behind the whole requests. After
-- each round the program is ready for the next.
use Rattle.float.proofs.Words.{◌≡◌, refl, ap, ◌∙◌, subst, subst⁻¹, Bool, true, false, List, ◌++◌, ℕ, ◌+◌, ◌-◌, ◌*◌, ◌/◌, ◌≤◌, ◌<◌, arith, ltb}
use Rattle.float.proofs.Words.{ne_of_lt, length, take, take_at, length-take, length-drop}
use Rattle.float.specs.Choice.{pick}
use Rattle.float.specs.Width.{F}
use Rattle.std.specs.Prelude.{Result}
use Rattle.std.specs.declared.ops.ControlFlow.{ControlFlow}
use Rattle.stdio.specs.declared.Outcome.{Outcome}
use Rattle.stdio.specs.declared.Outcome.TheVariants.{Bytes, Nothing, Interrupted, Failed}
use Rattle.stdio.specs.Calls.{AtMost, ReadBehind}
use Rattle.stdio.specs.Kept.{whole_of, rest_of, kept_of}
use Rattle.stdio.proofs.Rest.{rest_kept}
use Rattle.record.specs.Layout.{request_size, answer_size}
use Rattle.record.specs.Answer.{wrong_size_of, Step, record_step_of}
use Rattle.record.specs.Stream.{whole_records, answers_of, stream_of, Streamed}
use Rattle.record.proofs.Answers.{wrong_size, answer_size_lem, answers_size}
use Rattle.answers.specs.declared.decide.Failure.{Failure}
use Rattle.answers.specs.declared.decide.Failure.TheVariants as failure
use Rattle.answers.specs.declared.decide.Progress.{Progress}
use Rattle.answers.specs.declared.Desk.{Desk}
use Rattle.answers.specs.Buffers.{batch, room}
use Rattle.answers.specs.States.{State, End, Well, CannotRead, CannotWrite, go_on, stop_of, after_answers, standing, stopped, followed, Ready}
use Rattle.answers.specs.Rounds.{Answered, Served, Followed, Reached, round, Finished}

pub all_answered : (total : ℕ) (buf out left : List ℕ) (n : ℕ) → length buf ≡ 65536 → length out ≡ 65536 → total ≤ room F
    → Streamed (stream_of F (take total buf) out) n left → Answered F (take total buf) left n
unfolding stream_of
all_answered total buf out left n h k l e =
    let size : length (take total buf) ≡ total = simp length-take (omega arith) in
    let m = whole_of (request_size F) (take total buf) in
    let whole : whole_records F (length (take total buf)) (length out) ≡ m = rw (size, k) (omega arith) in
    let counted : n ≡ m = e.0 ∙ whole in (
      counted,
      subst⁻¹ (λ (x : List ℕ). take (answer_size F * n) x ≡ answers_of F n (take total buf)) e.1
          (rw (whole, counted) (take_at (answers_of F m (take total buf)) _ _ (answers_size F m (take total buf) (rw size (omega arith))))),
    )

pub served : (buf left out : List ℕ) (total n gone : ℕ) (s t : State) → length buf ≡ 65536 → total ≤ room F
    → Answered F (take total buf) out n → gone ≤ answer_size F * n → left ≡ kept_of (request_size F * n) (total - request_size F * n) buf
    → t ≡ after_answers F s gone n (total - request_size F * n) → Served F (take total buf) left out s t
served buf left out total n gone s t large within a g e h =
    let size : length (take total buf) ≡ total = simp length-take (omega arith) in
    let whole : n ≡ total / request_size F = a.0 ∙ (rw size) in
    let kept : total - request_size F * n ≡ length (rest_of (request_size F) (take total buf)) = simp length-drop (rw (size, whole)) in
    record {
      answered = subst (Answered F (take total buf) out) a.0 a;
      gone = gone;
      most = subst (λ (k : ℕ). gone ≤ answer_size F * k) a.0 g;
      state = h ∙ ap (λ (k : ℕ). after_answers F s gone k (total - request_size F * n)) a.0
          ∙ ap (after_answers F s gone (whole_of (request_size F) (take total buf))) kept;
      rest = subst (λ (k : ℕ). take k left ≡ rest_of (request_size F) (take total buf)) kept
          (rw (e, whole) (rest_kept (request_size F) total buf (omega arith)));
    }

pub part_answered : (have : ℕ) (buf out left behind : List ℕ) → length buf ≡ 65536 → length out ≡ 65536 → have < request_size F
    → left ≡ (record_step_of F (take have buf) (take (answer_size F) out)).answer → take (answer_size F) (left ++ behind) ≡ wrong_size_of F
part_answered have buf out left behind large wide small e =
    let k : length (take (answer_size F) out) ≡ answer_size F = simp length-take (omega arith) in
    let size : length left ≡ answer_size F = rw e (answer_size_lem F (take have buf) (take (answer_size F) out) k) in
    take_at left behind (answer_size F) size ∙ e
    ∙ ap (λ (t : Step). t.answer) (wrong_size F (take have buf) (take (answer_size F) out) k (ne_of_lt (simp length-take (omega arith))))

pub record Next (s t : State) : Type 0 where
  pub ready : Ready F t
  pub fewer : t.rounds < s.rounds

module _ (s : State) (ready : Ready F s) (more : 0 < s.rounds) where
  picked : (b : Bool) {t u : State} → Next s t → Next s u → Next s (pick b t u)
  picked true m n = m
  picked false m n = n

  off : (e : End) (written : ℕ) → written ≤ s.written + batch F → Next s (stop_of e written)
  off e written most = record { ready = (omega arith, omega arith); fewer = omega arith }

  on : (kept written : ℕ) → kept < request_size F → written ≤ s.written + batch F → Next s (go_on s kept written)
  on kept written small most = record { ready = (small, omega arith); fewer = omega arith }

  served_next : (have : ℕ) (buf left out : List ℕ) (t : State) → have ≤ room F → Served F (take have buf) left out s t → Next s t
  served_next have buf left out t within v =
      let size : length (take have buf) ≤ have = simp length-take (omega arith) in
      let small : length (rest_of (request_size F) (take have buf)) < request_size F = simp length-drop (omega arith) in
      let written = s.written + v.gone / answer_size F in
      let short = ltb v.gone (answer_size F * whole_of (request_size F) (take have buf)) in
      subst⁻¹ (Next s) v.state (picked short (off CannotWrite written (omega arith)) (on _ written small (omega arith)))

  -- whatever a round does, the program is ready for the next, and fewer rounds are to come
  pub next : (o : Outcome) (buf left out : List ℕ) (t : State) → AtMost (room F - s.kept) o → Followed F o buf left out s t → Next s t
  next (Bytes n) buf left out t most v = served_next (s.kept + n) buf left out t (omega arith) v
  next Nothing buf left out t most v =
      let written = s.written in
      let part = picked (ltb v.gone (answer_size F)) (off CannotWrite written (omega arith)) (off Well (written + 1) (omega arith)) in
      subst⁻¹ (Next s) v.state (picked (ltb 0 s.kept) part (off Well written (omega arith)))
  next Interrupted buf left out t most v = subst⁻¹ (Next s) v.1 (on s.kept s.written ready.0 (omega arith))
  next Failed buf left out t most v = subst⁻¹ (Next s) v (off CannotRead s.written (omega arith))

-- where rounds led to, ready for the next
pub record Led (buf : List ℕ) (s : State) : Type 0 where
  pub ready : Ready F s
  pub reached : Reached F buf s

-- a read, and what follows that, lead on from the first of so many rounds
pub led_on : (rounds : ℕ) (d t : Desk) (o : Outcome) (came : List ℕ) (r x : Result (ControlFlow Unit Unit) Failure)
    → Led d.requests (standing rounds d.progress) → 0 < rounds → ReadBehind d.progress.kept (room F) d.requests came o
    → Followed F o came t.requests t.answers (standing rounds d.progress) (followed rounds t.progress r) → r ≡ x
    → Led t.requests (followed rounds t.progress x)
led_on rounds d t o came r x l more read v e =
    subst (λ (y : Result (ControlFlow Unit Unit) Failure). Led t.requests (followed rounds t.progress y)) e
    (record {
      ready = (next (standing rounds d.progress) l.ready more o came t.requests t.answers (followed rounds t.progress r) read.most v).ready;
      reached = round o d.requests came t.requests t.answers (standing rounds d.progress) (followed rounds t.progress r) l.reached more read v;
    })

-- a failure leaves no round to come
pub stops : (buf : List ℕ) (p : Progress) (e : Failure) → Led buf (stopped p e) → Finished F buf (stopped p e)
stops buf p failure.CannotRead l = (refl, l.reached)
stops buf p failure.CannotWrite l = (refl, l.reached)
stops buf p failure.TooManyReads l = (refl, l.reached)
