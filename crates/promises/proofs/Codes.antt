-- The record step asks the rows one after the other, in the table's order, and its tests decide their conditions.
use Rattle.float.proofs.Words.{◌≡◌, refl, Bool, true, false, not, List, ℕ, eqb, length, drop, Format}
use Rattle.matrix.specs.Codes.{code_of}
use Rattle.matrix.specs.declared.codes.Refusal.{Refusal}
use Rattle.std.specs.Prelude.{Result}
use contract.Lifetimes.{Lfts}
use Rattle.float.specs.Width.{F}
use Rattle.float.specs.Choice.{pick}
use Rattle.float.specs.Sign.{all_finite}
use Rattle.matrix.specs.Rows.{on, Gives, WrongLength, NotFinite}
use Rattle.matrix.proofs.Rows.{Decides, first_row, by_length}
use Rattle.cholesky.specs.Pivots.{pivot_code}
use Rattle.cholesky.proofs.Rows.{later_rows}
use Rattle.kinds.specs.Table.{known_kind}
use Rattle.kinds.specs.Work.{WorkedAnswer, refused_kind, used_finite}
use Rattle.kinds.specs.Ways.{work_of}
use Rattle.record.specs.Layout.{request_size, answer_size}
use Rattle.record.specs.Request.{kind_of, asked_of, rest_right, form_of, judged_of}
use Rattle.record.specs.Answer.{Step, record_step_of}
use Rattle.record.proofs.answer.zanikory_answer_record.Reads as answer-record
use Rattle.promises.specs.Scope.{request_length, answer_length, kind_in}
use Rattle.promises.specs.Conditions.{NoKind, NotAsItIsToBe, used_in, pivots_in, made_in, rows}
use Rattle.promises.proofs.Scope.{request_length_lem, answer_length_lem, pivots_in_lem, made_in_lem}
use Rattle.promises.proofs.Decided.{by_kind, by_rest, by_used}
use Rattle.promises.proofs.Kernels.{kind_code}

-- the tests of 3, 4 and 5, and then the kind's answer w
asked : (f : Format) (w : WorkedAnswer) (code : ℕ) (known zero used : Bool) → (known ≡ true → used ≡ true → w.code ≡ code)
    → (pick (eqb (pick known (pick zero 0 4) 3) 0) (pick used w (refused_kind f 5 0)) (refused_kind f (pick known (pick zero 0 4) 3) 0)).code
    ≡ pick (not known) 3 (pick (not zero) 4 (pick (not used) 5 code))
asked f w code true true true h = h refl refl
asked f w code true true false h = refl
asked f w code true false used h = refl
asked f w code false zero used h = refl

-- the tests of both sizes come first
sized : (x y z : Step) (t u : Bool) → (pick t (pick u x y) z).code ≡ pick (not t) z.code (pick (not u) y.code x.code)
sized x y z true true = refl
sized x y z true false = refl
sized x y z false u = refl

module _ (f : Format) (s a : List ℕ) where
  abbrev later : ℕ
  later = pivot_code f (pivots_in f s) (pick (all_finite (made_in f s)) 0 7)

  later_code_lem : known_kind (kind_of s) ≡ true → used_finite (asked_of f s) ≡ true → (work_of f (asked_of f s)).code ≡ later
  later_code_lem = rw (pivots_in_lem f s, made_in_lem f s) (kind_code f (asked_of f s))

  pub judged_code : (judged_of f s).code
      ≡ pick (not (known_kind (kind_of s))) 3 (pick (not (rest_right f s)) 4 (pick (not (used_finite (asked_of f s))) 5 later))
  unfolding judged_of form_of
  judged_code = asked f (work_of f (asked_of f s)) later (known_kind (kind_of s)) (rest_right f s) (used_finite (asked_of f s)) later_code_lem

  step_code : (record_step_of f s a).code
      ≡ pick (not (eqb (length a) (answer_size f))) 2 (pick (not (eqb (length s) (request_size f))) 1 (judged_of f s).code)
  unfolding record_step_of
  step_code = sized _ _ _ (eqb (length a) (answer_size f)) (eqb (length s) (request_size f))

  -- a length that the scope writes out
  by_size : (xs : List ℕ) (n m : ℕ) → n ≡ m → Decides (not (eqb (length xs) m)) (WrongLength xs n)
  by_size xs n m e = rw e (by_length xs m)

  pub codes : Gives (rows f s a) (record_step_of f s a).code
  codes =
      let r = rows f s a in
      let c5 = pick (not (used_finite (asked_of f s))) 5 later in
      let c4 = pick (not (rest_right f s)) 4 c5 in
      let c3 = pick (not (known_kind (kind_of s))) 3 c4 in
      let c1 = pick (not (eqb (length s) (request_size f))) 1 c3 in
      rw (step_code, judged_code)
      (first_row (not (eqb (length a) (answer_size f))) (on 2 (WrongLength a (answer_length f))) (drop 1 r) c1 (by_size a _ _ (answer_length_lem f))
      (first_row (not (eqb (length s) (request_size f))) (on 1 (WrongLength s (request_length f))) (drop 2 r) c3 (by_size s _ _ (request_length_lem f))
      (first_row (not (known_kind (kind_of s))) (on 3 (NoKind (kind_in s))) (drop 3 r) c4 (by_kind (kind_of s))
      (first_row (not (rest_right f s)) (on 4 (NotAsItIsToBe f s)) (drop 4 r) c5 (by_rest f s)
      (first_row (not (used_finite (asked_of f s))) (on 5 (NotFinite (used_in f s))) (drop 5 r) later (by_used f s)
      (later_rows f (pivots_in f s) (made_in f s)))))))

-- ---- any answer within the promise of the record step

pub codes_by_calls : (κs : Lfts 2) (a : _) (r : Result (Unit {0}) Refusal) (x : _) → answer-record.Post κs a r x
    → Gives (rows F a.0.now a.1.0.now) (code_of r)
codes_by_calls κs a r x p = rw p.0 (codes F a.0.now a.1.0.now)
