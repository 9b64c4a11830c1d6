-- What the program makes of the bytes at hand: the answers to the whole requests among them, and the rest kept. Definitions only.
use Rattle.std.specs.Prelude.{◌≡◌, List, ℕ, ◌+◌, ◌*◌, ◌≤◌, ◌<◌, length, take}
use Rattle.std.specs.Float.{Format}
use Rattle.stdio.specs.declared.Outcome.{Outcome}
use Rattle.stdio.specs.declared.Outcome.TheVariants.{Bytes, Nothing, Interrupted, Failed}
use Rattle.stdio.specs.Calls.{ReadBehind}
use Rattle.stdio.specs.Kept.{whole_of, rest_of}
use Rattle.record.specs.Layout.{request_size, answer_size}
use Rattle.record.specs.Answer.{wrong_size_of}
use Rattle.record.specs.Stream.{answers_of}
use Rattle.answers.specs.Buffers.{room}
use Rattle.answers.specs.States.{State, CannotRead, start_of, go_on, stop_of, after_answers, at_end}

-- n is the number of whole requests among s, and their answers stand first
abbrev pub Answered : Format → List ℕ → List ℕ → ℕ → Type 0
Answered f s out n = (n ≡ whole_of (request_size f) s) × (take (answer_size f * n) out ≡ answers_of f n s)

-- s answered: the answers stand first in `out`, so many bytes of them went out, and the bytes behind the whole requests are kept
pub record Served (f : Format) (s left out : List ℕ) (before after : State) : Type 0 where
  pub answered : Answered f s out (whole_of (request_size f) s)
  pub gone : ℕ
  pub most : gone ≤ answer_size f * whole_of (request_size f) s
  pub state : after ≡ after_answers f before gone (whole_of (request_size f) s) (length (rest_of (request_size f) s))
  pub rest : take (length (rest_of (request_size f) s)) left ≡ rest_of (request_size f) s

-- the end of the input: the answer to a part that is kept stands first, and so many bytes of it went out
pub record LastServed (f : Format) (out : List ℕ) (before after : State) : Type 0 where
  pub answered : 0 < before.kept → take (answer_size f) out ≡ wrong_size_of f
  pub gone : ℕ
  pub state : after ≡ at_end f before gone

-- what follows a read that ended so: all that is at hand with the bytes that came is served, and a read that was broken off changes nothing
abbrev pub Followed : Format → Outcome → List ℕ → List ℕ → List ℕ → State → State → Type 0
Followed f (Bytes n) buf left out before after = Served f (take (before.kept + n) buf) left out before after
Followed f Nothing buf left out before after = LastServed f out before after
Followed f Interrupted buf left out before after = (left ≡ buf) × (after ≡ go_on before before.kept before.written)
Followed f Failed buf left out before after = after ≡ stop_of CannotRead before.written

-- the states that rounds lead to, with the bytes at hand: each round is a read, which ends somehow, and what follows that
pub data Reached (f : Format) : List ℕ → State → Type 0 where
  first : (buf : List ℕ) → Reached f buf start_of
  round : (o : Outcome) (buf came left out : List ℕ) (before after : State) → Reached f buf before → 0 < before.rounds
      → ReadBehind before.kept (room f) buf came o → Followed f o came left out before after → Reached f left after

-- no round follows
abbrev pub Finished : Format → List ℕ → State → Type 0
Finished f left s = (s.rounds ≡ 0) × Reached f left s
