-- The counts begin at nothing. What is counted are the whole records among the bytes at hand, and what is kept is the rest behind them.
-- After each round the program is ready for the next, and fewer rounds are to come.
use Rattle.float.proofs.Words.{◌≡◌, refl, sym, ap, ◌∙◌, subst, subst⁻¹, true, false, false≢true, List, [], ◌++◌, ℕ, ◌+◌, ◌-◌, ◌*◌, ◌/◌, ◌≤◌, ◌<◌}
use Rattle.float.proofs.Words.{arith, eqb, eq-eqb, length, take, length-take, length-drop}
use lib.Seq.{take-take}
use Rattle.std.specs.Prelude.{Result, Ok, Err, IsOk}
use Rattle.std.specs.declared.ops.ControlFlow.{ControlFlow}
use Rattle.float.specs.Choice.{pick}
use Rattle.float.specs.Width.{F}
use Rattle.matrix.specs.Codes.{number_of, code_of}
use Rattle.matrix.specs.declared.codes.Refusal.{Refusal}
use Rattle.matrix.specs.declared.codes.Refusal.TheVariants.{InputLength, OutputLength, UnknownKind, Reserved, InputNotFinite, Pivot, AnswerNotFinite}
use Rattle.matrix.specs.declared.codes.Refusal.TheVariants.{Outside, NanPivot, RowsUnequal, RowTooLong, CountTooLarge}
use Rattle.float.proofs.Choice.{chosen}
use Rattle.stdio.specs.declared.Outcome.{Outcome}
use Rattle.stdio.specs.declared.Outcome.TheVariants.{Bytes, Nothing, Interrupted, Failed}
use Rattle.stdio.specs.Calls.{most_calls, ReadBehind}
use Rattle.stdio.specs.Kept.{rest_of, kept_of}
use Rattle.stdio.proofs.Rest.{rest_kept}
use Rattle.record.specs.Layout.{answer_size}
use Rattle.counts.specs.Cells.{tally_size}
use Rattle.counts.specs.Tally.{Tally, empty_tally, cleared_of, with_file, Left}
use Rattle.tally.specs.declared.Desk.{Desk}
use Rattle.tally.specs.declared.decide.Failure.{Failure}
use Rattle.tally.specs.declared.decide.Failure.TheVariants as failure
use Rattle.tally.specs.States.{State, start_of, after_count, standing, stopped, followed}
use Rattle.tally.specs.States.{Ready}
use Rattle.tally.specs.Buffers.{room}
use Rattle.tally.specs.Rounds.{whole_part, Counted, Followed, came_of, Reached, first, round, Finished}

-- ---- calls by their codes

-- no refusal has the number 0
above : (e : Refusal) → eqb (number_of e) 0 ≡ false
above InputLength = refl
above OutputLength = refl
above UnknownKind = refl
above Reserved = refl
above InputNotFinite = refl
above Pivot = refl
above AnswerNotFinite = refl
above Outside = refl
above NanPivot = refl
above RowsUnequal = refl
above RowTooLong = refl
above CountTooLarge = refl

pub over_0 : (e : Refusal) → number_of e ≡ 0 → ⊥
over_0 e h = false≢true (sym (above e) ∙ eq-eqb (number_of e) 0 h)

module _ {A : Type 0} (r : Result Unit Refusal) (x y : A) where
  pub with_0 : {u : Unit} → r ≡ Ok u → pick (eqb (code_of r) 0) x y ≡ x
  with_0 {u} e = subst⁻¹ (λ (q : Result Unit Refusal). pick (eqb (code_of q) 0) x y ≡ x) e refl

  pub with_more : {e : Refusal} → r ≡ Err e → pick (eqb (code_of r) 0) x y ≡ y
  with_more {e} h = subst⁻¹ (λ (q : Result Unit Refusal). pick (eqb (code_of q) 0) x y ≡ y) h (rw (above e))

done_0 : (r : Result Unit Refusal) → eqb (code_of r) 0 ≡ true → IsOk r
done_0 (Ok u) h = refl
done_0 (Err e) h = absurd (false≢true (sym (above e) ∙ h))

module _ (counts : List ℕ) (table : length counts ≡ tally_size) where
  cleared : cleared_of counts ≡ record { code = 0; counts = empty_tally }
  unfolding cleared_of
  cleared = rw (eq-eqb (length counts) tally_size table)

  pub clears : (r : Result Unit Refusal) → code_of r ≡ (cleared_of counts).code → IsOk r
  clears r e = done_0 r (ap (λ (k : ℕ). eqb k 0) (e ∙ ap (λ (t : Tally). t.code) cleared))

  pub empty : (left : List ℕ) → left ≡ (cleared_of counts).counts → left ≡ empty_tally
  empty left e = e ∙ ap (λ (t : Tally). t.counts) cleared

-- ---- rounds

pub counted : (buf left counts sums : List ℕ) (total code : ℕ) (s t : State) → length buf ≡ 65536 → total ≤ room F
    → Left (with_file F counts (take (answer_size F * (total / answer_size F)) buf)) code sums
    → left ≡ kept_of (answer_size F * (total / answer_size F)) (total - answer_size F * (total / answer_size F)) buf
    → t ≡ after_count s code (total - answer_size F * (total / answer_size F)) → Counted F (take total buf) left counts sums s t
counted buf left counts sums total code s t large within a e h =
    let size : length (take total buf) ≡ total = simp length-take (omega arith) in
    let from = answer_size F * (total / answer_size F) in
    let whole : take from buf ≡ whole_part F (take total buf) = sym (rw size (take-take from total buf (omega arith))) in
    let kept : total - from ≡ length (rest_of (answer_size F) (take total buf)) = simp length-drop (rw size) in
    record {
      counted = a.1 ∙ ap (λ (l : List ℕ). (with_file F counts l).counts) whole;
      state = h ∙ ap (λ (k : ℕ). after_count s k (total - from)) (a.0 ∙ ap (λ (l : List ℕ). (with_file F counts l).code) whole)
          ∙ ap (after_count s (with_file F counts (whole_part F (take total buf))).code) kept;
      rest = subst (λ (k : ℕ). take k left ≡ rest_of (answer_size F) (take total buf)) kept
          (rw e (rest_kept (answer_size F) total buf (omega arith)));
    }

pub record Next (s t : State) : Type 0 where
  pub ready : Ready F t
  pub fewer : t.rounds < s.rounds

module _ (s : State) (ready : Ready F s) where
  -- whatever a round does, the program is ready for the next
  pub still_ready : (o : Outcome) (buf left counts sums : List ℕ) (t : State) → Followed F o buf left counts sums s t → Ready F t
  still_ready (Bytes n) buf left counts sums t v =
      let s = take (s.kept + n) buf in
      let small : length (rest_of (answer_size F) s) < answer_size F = simp length-drop (omega arith) in
      subst⁻¹ (Ready F) v.state (chosen (Ready F) (eqb (with_file F counts (whole_part F s)).code 0) _ _ small (omega arith))
  still_ready Nothing buf left counts sums t v =
      subst⁻¹ (Ready F) v.state (chosen (Ready F) (eqb (with_file F counts (take s.kept buf)).code 0) _ _ (omega arith) (omega arith))
  still_ready Interrupted buf left counts sums t v = subst⁻¹ (Ready F) v.2 ready
  still_ready Failed buf left counts sums t v = subst⁻¹ (Ready F) v.1 (omega arith)

  -- and fewer rounds are to come
  pub next : 0 < s.rounds → (o : Outcome) (buf left counts sums : List ℕ) (t : State) → Followed F o buf left counts sums s t → Next s t
  next more o buf left counts sums t v = record { ready = still_ready o buf left counts sums t v; fewer = fewer_rounds o v }
    where
      Fewer : State → Type 0
      Fewer u = u.rounds < s.rounds

      fewer_rounds : (o : Outcome) → Followed F o buf left counts sums s t → Fewer t
      fewer_rounds (Bytes n) w =
          subst⁻¹ Fewer w.state (chosen Fewer (eqb (with_file F counts (whole_part F (take (s.kept + n) buf))).code 0) _ _ (omega arith) more)
      fewer_rounds Nothing w = subst⁻¹ Fewer w.state (chosen Fewer (eqb (with_file F counts (take s.kept buf)).code 0) _ _ more more)
      fewer_rounds Interrupted w = subst⁻¹ Fewer w.2 (omega arith)
      fewer_rounds Failed w = subst⁻¹ Fewer w.1 more

-- what rounds led to, ready for the next
pub record Led (buf counts : List ℕ) (s : State) : Type 0 where
  pub ready : Ready F s
  pub seen : List ℕ
  pub reached : Reached F seen buf counts s

-- nothing is seen before the first
pub led : (buf counts : List ℕ) → counts ≡ empty_tally → Led buf counts (standing most_calls 0)
led buf counts e =
    record { ready = omega arith; seen = []; reached = subst⁻¹ (λ (l : List ℕ). Reached F [] buf l start_of) e (first buf) }

-- a read, and what follows that, lead on from the first of so many rounds
pub led_on : (rounds : ℕ) (d t : Desk) (o : Outcome) (came : List ℕ) (r x : Result (ControlFlow Unit Unit) Failure)
    → Led d.answers d.counts (standing rounds d.kept) → 0 < rounds → ReadBehind d.kept (room F) d.answers came o
    → Followed F o came t.answers d.counts t.counts (standing rounds d.kept) (followed rounds t.kept r) → r ≡ x
    → Led t.answers t.counts (followed rounds t.kept x)
led_on rounds d t o came r x l more read v e =
    subst (λ (y : Result (ControlFlow Unit Unit) Failure). Led t.answers t.counts (followed rounds t.kept y)) e
    (record {
      ready = (next (standing rounds d.kept) l.ready more o came t.answers d.counts t.counts (followed rounds t.kept r) v).ready;
      seen = l.seen ++ came_of o d.kept came;
      reached = round o l.seen d.answers came t.answers d.counts t.counts (standing rounds d.kept) (followed rounds t.kept r) l.reached more read v;
    })

pub finished : (buf counts : List ℕ) (s : State) → s.rounds ≡ 0 → Led buf counts s → Finished F counts s
finished buf counts s e l = record { seen = l.seen; left = buf; last = e; reached = l.reached }

-- a failure leaves no round to come
pub stops : (buf counts : List ℕ) (kept : ℕ) (e : Failure) → Led buf counts (stopped kept e) → Finished F counts (stopped kept e)
stops buf counts kept failure.CannotRead l = finished buf counts _ refl l
stops buf counts kept failure.CannotWrite l = finished buf counts _ refl l
stops buf counts kept failure.CountTooLarge l = finished buf counts _ refl l
stops buf counts kept failure.TooManyReads l = finished buf counts _ refl l
