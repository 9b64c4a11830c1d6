-- A call moves no more than it was handed, so a writing never passes its end; and each call takes one from those that may follow.
use Rattle.float.proofs.Words.{Bool, true, false, ℕ, zero, suc, ◌+◌, ◌-◌, ◌≤◌, ◌<◌, min, arith, ltb, ℤ, pos, negsuc}
use Rattle.std.specs.Prelude.{Result, Ok, Err}
use Rattle.std.specs.declared.io.Error.{Error}
use Rattle.float.specs.Choice.{pick}
use Rattle.stdio.specs.declared.Outcome.{Outcome}
use Rattle.stdio.specs.declared.Outcome.TheVariants.{Bytes, Nothing, Interrupted, Failed}
use Rattle.stdio.specs.declared.Writing.{Writing}
use Rattle.stdio.specs.Calls.{AtMost, outcome_of, ended_of, wrote_of}
use Rattle.stdio.specs.Errors.{broken_off}

refused_at_most : (most : ℕ) (interrupted : Bool) → AtMost most (pick interrupted Interrupted Failed)
refused_at_most most true = tt
refused_at_most most false = tt

pub at_most : (z : ℤ) (most : ℕ) (interrupted : Bool) → AtMost most (outcome_of z most interrupted)
unfolding outcome_of
at_most (pos zero) most b = tt
at_most (pos (suc k)) most b = omega arith
at_most (negsuc k) most b = refused_at_most most b

pub ended_at_most : (r : Result ℕ Error) (most : ℕ) → AtMost most (ended_of r most)
ended_at_most (Ok n) most = at_most (pos n) most false
ended_at_most (Err e) most = at_most (negsuc 0) most (broken_off e)

module _ (w : Writing) (end : ℕ) where
  pub within_end : (o : Outcome) → w.written ≤ end → (wrote_of w end o).written ≤ end
  within_end (Bytes n) h = omega arith
  within_end Nothing h = h
  within_end Interrupted h = h
  within_end Failed h = h

  picked : (b : Bool) → 0 < w.calls → pick b (w.calls - 1) 0 < w.calls
  picked true h = omega arith
  picked false h = h

  pub calls_fall : (o : Outcome) → 0 < w.calls → (wrote_of w end o).calls < w.calls
  calls_fall (Bytes n) h = picked (ltb (min (w.written + n) end) end) h
  calls_fall Nothing h = h
  calls_fall Interrupted h = omega arith
  calls_fall Failed h = h
