-- What the program makes of the bytes at hand: the whole records among them are counted, and the rest is kept. Definitions only.
use Rattle.std.specs.Prelude.{◌≡◌, List, [], ◌++◌, ℕ, ◌+◌, ◌*◌, ◌<◌, length, take, drop}
use Rattle.std.specs.Float.{Format}
use Rattle.stdio.specs.declared.Outcome.{Outcome}
use Rattle.stdio.specs.declared.Outcome.TheVariants.{Bytes, Nothing, Interrupted, Failed}
use Rattle.stdio.specs.Calls.{ReadBehind}
use Rattle.stdio.specs.Kept.{whole_of, rest_of}
use Rattle.record.specs.Layout.{answer_size}
use Rattle.counts.specs.Tally.{empty_tally, with_file}
use Rattle.tally.specs.States.{CannotRead, State, start_of, go_on, stop_of, after_count, at_end}
use Rattle.tally.specs.Buffers.{room}

-- the bytes of the whole records among s
abbrev pub whole_part : Format → List ℕ → List ℕ
whole_part f s = take (answer_size f * whole_of (answer_size f) s) s

-- s counted: its whole records are added to the counts, and the bytes behind them are kept
pub record Counted (f : Format) (s left counts sums : List ℕ) (before after : State) : Type 0 where
  pub counted : sums ≡ (with_file f counts (whole_part f s)).counts
  pub state : after ≡ after_count before (with_file f counts (whole_part f s)).code (length (rest_of (answer_size f) s))
  pub rest : take (length (rest_of (answer_size f) s)) left ≡ rest_of (answer_size f) s

-- the end of the input: the bytes s that are kept are added as bytes left over
pub record LastCounted (f : Format) (s counts sums : List ℕ) (after : State) : Type 0 where
  pub counted : sums ≡ (with_file f counts s).counts
  pub state : after ≡ at_end (with_file f counts s).code

-- what follows a read that ended so: all that is at hand with the bytes that came is counted, and a read that was broken off changes nothing
abbrev pub Followed : Format → Outcome → List ℕ → List ℕ → List ℕ → List ℕ → State → State → Type 0
Followed f (Bytes n) buf left counts sums before after = Counted f (take (before.kept + n) buf) left counts sums before after
Followed f Nothing buf left counts sums before after = LastCounted f (take before.kept buf) counts sums after
Followed f Interrupted buf left counts sums before after = (left ≡ buf) × (sums ≡ counts) × (after ≡ go_on before before.kept)
Followed f Failed buf left counts sums before after = (sums ≡ counts) × (after ≡ stop_of CannotRead)

-- the bytes that a read brought, behind those that are kept
abbrev pub came_of : Outcome → ℕ → List ℕ → List ℕ
came_of (Bytes n) kept buf = take n (drop kept buf)
came_of Nothing kept buf = []
came_of Interrupted kept buf = []
came_of Failed kept buf = []

-- the counts and states that rounds lead to, with all bytes seen so far and those at hand: each round is a read, which ends somehow, and
-- what follows that
pub data Reached (f : Format) : List ℕ → List ℕ → List ℕ → State → Type 0 where
  first : (buf : List ℕ) → Reached f [] buf empty_tally start_of
  round : (o : Outcome) (seen buf came left counts sums : List ℕ) (before after : State) → Reached f seen buf counts before → 0 < before.rounds
      → ReadBehind before.kept (room f) buf came o → Followed f o came left counts sums before after
      → Reached f (seen ++ came_of o before.kept came) left sums after

-- no round follows: these bytes were seen, in order
pub record Finished (f : Format) (counts : List ℕ) (s : State) : Type 0 where
  pub seen : List ℕ
  pub left : List ℕ
  pub last : s.rounds ≡ 0
  pub reached : Reached f seen left counts s
