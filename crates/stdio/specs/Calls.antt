-- How a read or a write ended, and how far a writing has come. Definitions only.
use Rattle.std.specs.Prelude.{◌≡◌, Bool, false, List, ℕ, zero, suc, ◌+◌, ◌-◌, ◌^◌, ◌≤◌, min, ltb, take, ℤ, pos, negsuc, Result, Ok, Err}
use Rattle.std.specs.declared.io.Error.{Error}
use Rattle.float.specs.Choice.{pick}
use Rattle.stdio.specs.declared.Outcome.{Outcome}
use Rattle.stdio.specs.declared.Outcome.TheVariants.{Bytes, Nothing, Interrupted, Failed}
use Rattle.stdio.specs.declared.Writing.{Writing}
use Rattle.stdio.specs.Errors.{broken_off}

-- what a call that was handed `most` bytes did: above 0 it answers how many it moved, and below 0 that it failed or was broken off
unfoldable pub outcome_of : ℤ → ℕ → Bool → Outcome
outcome_of (pos zero) most interrupted = Nothing
outcome_of (pos (suc k)) most interrupted = Bytes (min (suc k) most)
outcome_of (negsuc k) most interrupted = pick interrupted Interrupted Failed

-- the same of what a call of std's answers
abbrev pub ended_of : Result ℕ Error → ℕ → Outcome
ended_of (Ok n) most = outcome_of (pos n) most false
ended_of (Err e) most = outcome_of (negsuc 0) most (broken_off e)

-- so many calls a loop makes at most
abbrev pub most_calls : ℕ
most_calls = 2 ^ 53

-- so many bytes of `end` are written; no call follows where that is all of them
abbrev pub up_to : ℕ → ℕ → ℕ → Writing
up_to written end calls = record { written = written; calls = pick (ltb written end) calls 0 }

abbrev pub to_write_of : ℕ → Writing
to_write_of end = up_to 0 end most_calls

-- after one more call: a write that takes nothing has failed
abbrev pub wrote_of : Writing → ℕ → Outcome → Writing
wrote_of w end (Bytes n) = up_to (min (w.written + n) end) end (w.calls - 1)
wrote_of w end Nothing = record { written = w.written; calls = 0 }
wrote_of w end Interrupted = record { written = w.written; calls = w.calls - 1 }
wrote_of w end Failed = record { written = w.written; calls = 0 }

-- no call follows, and no more than there was is written
abbrev pub Ended : ℕ → Writing → Type 0
Ended end w = (w.calls ≡ 0) × (w.written ≤ end)

-- a call moves no more than it was handed
abbrev pub AtMost : ℕ → Outcome → Type 0
AtMost most (Bytes n) = n ≤ most
AtMost most Nothing = Unit {0}
AtMost most Interrupted = Unit {0}
AtMost most Failed = Unit {0}

-- what one read behind `have` bytes, up to `end`, leaves: those bytes as they were; what came is no more than there was room for
pub record ReadBehind (have end : ℕ) (before after : List ℕ) (o : Outcome) : Type 0 where
  pub kept : take have after ≡ take have before
  pub most : AtMost (end - have) o
