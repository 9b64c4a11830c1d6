-- Where the program stands between two rounds, and what a round makes of that. Definitions only.
use Rattle.std.specs.Prelude.{ℕ, ◌+◌, ◌-◌, ◌*◌, ◌/◌, ◌≤◌, ◌<◌, ltb, Result, Ok, Err}
use Rattle.std.specs.declared.ops.ControlFlow.{ControlFlow}
use Rattle.std.specs.declared.ops.ControlFlow.TheVariants.{Continue, Break}
use Rattle.std.specs.Float.{Format}
use Rattle.float.specs.Choice.{pick}
use Rattle.stdio.specs.Calls.{most_calls}
use Rattle.record.specs.Layout.{request_size, answer_size}
use Rattle.answers.specs.declared.decide.Failure.{Failure}
use Rattle.answers.specs.declared.decide.Failure.TheVariants as failure
use Rattle.answers.specs.declared.decide.Progress.{Progress}
use Rattle.answers.specs.Buffers.{batch}

-- how the program ends
pub data End : Type 0 where
  Well : End
  CannotRead : End
  CannotWrite : End
  TooManyReads : End

-- so many rounds may follow, which is none once the program has ended; so many bytes of a request are kept for the next; so many answers are
-- written; and this is how it ends if no round follows
pub record State : Type 0 where
  pub rounds : ℕ
  pub kept : ℕ
  pub written : ℕ
  pub end : End

-- before the first round
abbrev pub start_of : State
start_of = record { rounds = most_calls; kept = 0; written = 0; end = TooManyReads }

-- another round follows, with so many bytes kept and so many answers written
abbrev pub go_on : State → ℕ → ℕ → State
go_on s kept written = record { rounds = s.rounds - 1; kept = kept; written = written; end = TooManyReads }

-- none follows
abbrev pub stop_of : End → ℕ → State
stop_of end written = record { rounds = 0; kept = 0; written = written; end = end }

-- `gone` bytes of n answers went out, and whole ones are counted: the program goes on if that is all of them, with `kept` bytes
abbrev pub after_answers : Format → State → ℕ → ℕ → ℕ → State
after_answers f s gone n kept =
    let written = s.written + gone / answer_size f in
    pick (ltb gone (answer_size f * n)) (stop_of CannotWrite written) (go_on s kept written)

-- `gone` bytes of the answer to a last part went out
abbrev pub after_part : Format → State → ℕ → State
after_part f s gone = pick (ltb gone (answer_size f)) (stop_of CannotWrite s.written) (stop_of Well (s.written + 1))

-- the end of the input: a part that is kept is answered, and `gone` bytes of that went out
abbrev pub at_end : Format → State → ℕ → State
at_end f s gone = pick (ltb 0 s.kept) (after_part f s gone) (stop_of Well s.written)

-- less than a request is kept, and the number of answers leaves room for those of every round to come
abbrev pub Ready : Format → State → Type 0
Ready f s = (s.kept < request_size f) × (s.written + batch f * s.rounds ≤ batch f * most_calls)

-- ---- the program's values as states

-- so far, with so many rounds to come
abbrev pub standing : ℕ → Progress → State
standing rounds p = record { rounds = rounds; kept = p.kept; written = p.written; end = TooManyReads }

-- stopped by a failure: of the reads, by their number alone
abbrev pub stopped : Progress → Failure → State
stopped p failure.CannotRead = stop_of CannotRead p.written
stopped p failure.CannotWrite = stop_of CannotWrite p.written
stopped p failure.TooManyReads = standing 0 p

-- after one of so many rounds, with which the program goes on if it did not fail
abbrev pub going : ℕ → Progress → Result Unit Failure → State
going rounds p (Ok x) = standing (rounds - 1) p
going rounds p (Err e) = stopped p e

-- after the last round
abbrev pub stopping : Progress → Result Unit Failure → State
stopping p (Ok x) = stop_of Well p.written
stopping p (Err e) = stopped p e

-- after one of so many rounds, which says whether it was the last
abbrev pub followed : ℕ → Progress → Result (ControlFlow Unit Unit) Failure → State
followed rounds p (Ok (Continue x)) = standing (rounds - 1) p
followed rounds p (Ok (Break x)) = stop_of Well p.written
followed rounds p (Err e) = stopped p e
