-- Many records one after the other. Definitions only.
use Rattle.std.specs.Prelude.{◌≡◌, List, [], ◌++◌, ℕ, zero, suc, ◌*◌, ◌/◌, min, length, drop}
use Rattle.std.specs.Float.{Format}
use Rattle.wire.specs.Bytes.{part}
use Rattle.record.specs.Layout.{request_size, answer_size}
use Rattle.record.specs.Answer.{answered_of}

-- the request with number i, counted from 0
abbrev pub request_of : Format → ℕ → List ℕ → List ℕ
request_of f i s = part (request_size f * i) (request_size f) s

-- the answer with number i
abbrev pub answer_of : Format → ℕ → List ℕ → List ℕ
answer_of f i s = part (answer_size f * i) (answer_size f) s

-- the answers to the first n requests
unfoldable pub answers_of : Format → ℕ → List ℕ → List ℕ
answers_of f zero s = []
answers_of f (suc n) s = answers_of f n s ++ answered_of f (request_of f n s)

-- how many whole requests there are with room for their answers, in so many bytes of each
abbrev pub whole_records : Format → ℕ → ℕ → ℕ
whole_records f requests answers = min (requests / request_size f) (answers / answer_size f)

pub record Stream : Type 0 where
  pub count : ℕ
  pub answers : List ℕ

-- all of these answered, in order, and what lies behind the answers as it was
unfoldable pub stream_of : Format → List ℕ → List ℕ → Stream
stream_of f requests answers =
    let n = whole_records f (length requests) (length answers) in
    record { count = n; answers = answers_of f n requests ++ drop (answer_size f * n) answers }

-- what answering many promises: how many, and the answer slice at exit
abbrev pub Streamed : Stream → ℕ → List ℕ → Type 0
Streamed s count left = (count ≡ s.count) × (left ≡ s.answers)
