-- Where the program stands between two rounds, and what a round makes of that. Definitions only.
use Rattle.std.specs.Prelude.{ℕ, ◌-◌, ◌<◌, eqb, ltb, Result, Ok, Err}
use Rattle.std.specs.declared.ops.ControlFlow.{ControlFlow}
use Rattle.std.specs.declared.ops.ControlFlow.TheVariants.{Continue, Break}
use Rattle.std.specs.Float.{Format}
use Rattle.float.specs.Choice.{pick}
use Rattle.stdio.specs.Calls.{most_calls}
use Rattle.record.specs.Layout.{answer_size}
use Rattle.tally.specs.declared.decide.Failure.{Failure}
use Rattle.tally.specs.declared.decide.Failure.TheVariants as failure

-- how the program ends
pub data End : Type 0 where
  Well : End
  CannotRead : End
  CannotWrite : End
  CountTooLarge : End
  TooManyReads : End

-- so many rounds may follow, which is none once the reading has ended; so many bytes of a record are kept for the next; and this is how the
-- reading ends if no round follows
pub record State : Type 0 where
  pub rounds : ℕ
  pub kept : ℕ
  pub end : End

-- before the first round
abbrev pub start_of : State
start_of = record { rounds = most_calls; kept = 0; end = TooManyReads }

-- another round follows, with so many bytes kept
abbrev pub go_on : State → ℕ → State
go_on s kept = record { rounds = s.rounds - 1; kept = kept; end = TooManyReads }

-- none follows
abbrev pub stop_of : End → State
stop_of end = record { rounds = 0; kept = 0; end = end }

-- the whole records at hand are counted, with this code: the program goes on if it is 0, with `kept` bytes
abbrev pub after_count : State → ℕ → ℕ → State
after_count s code kept = pick (eqb code 0) (go_on s kept) (stop_of CountTooLarge)

-- the end of the input: the bytes left over are counted, with this code
abbrev pub at_end : ℕ → State
at_end code = pick (eqb code 0) (stop_of Well) (stop_of CountTooLarge)

-- `gone` bytes of a listing of `size` bytes went out
abbrev pub after_listing : ℕ → ℕ → End
after_listing gone size = pick (ltb gone size) CannotWrite Well

-- less than a record is kept
abbrev pub Ready : Format → State → Type 0
Ready f s = s.kept < answer_size f

-- ---- the program's values as ends and states

-- how it ends with a failure, and with an answer
abbrev pub failed : Failure → End
failed failure.CannotRead = CannotRead
failed failure.CannotWrite = CannotWrite
failed failure.CountTooLarge = CountTooLarge
failed failure.TooManyReads = TooManyReads

abbrev pub ending : Result Unit Failure → End
ending (Ok x) = Well
ending (Err e) = failed e

-- with so many rounds to come, and so many bytes kept
abbrev pub standing : ℕ → ℕ → State
standing rounds kept = record { rounds = rounds; kept = kept; end = TooManyReads }

-- stopped by a failure: of the reads, by their number alone
abbrev pub stopped : ℕ → Failure → State
stopped kept failure.CannotRead = stop_of CannotRead
stopped kept failure.CannotWrite = stop_of CannotWrite
stopped kept failure.CountTooLarge = stop_of CountTooLarge
stopped kept failure.TooManyReads = standing 0 kept

-- after one of so many rounds, with which the program goes on if it did not fail
abbrev pub going : ℕ → ℕ → Result Unit Failure → State
going rounds kept (Ok x) = standing (rounds - 1) kept
going rounds kept (Err e) = stopped kept e

-- after the last round
abbrev pub stopping : ℕ → Result Unit Failure → State
stopping kept (Ok x) = stop_of Well
stopping kept (Err e) = stopped kept e

-- after one of so many rounds, which says whether it was the last
abbrev pub followed : ℕ → ℕ → Result (ControlFlow Unit Unit) Failure → State
followed rounds kept (Ok (Continue x)) = standing (rounds - 1) kept
followed rounds kept (Ok (Break x)) = stop_of Well
followed rounds kept (Err e) = stopped kept e
