-- The bytes of an answer, and what the record step leaves. Definitions only.
use Rattle.std.specs.Prelude.{◌≡◌, List, ◌∷◌, ◌++◌, ℕ, eqb, length, take, replicate}
use Rattle.std.specs.Float.{Format}
use Rattle.float.specs.Choice.{pick}
use Rattle.kinds.specs.Work.{WorkedAnswer, refused_kind}
use Rattle.wire.specs.Bytes.{number_bytes_of}
use Rattle.record.specs.Layout.{event_bytes, request_size, answer_size}
use Rattle.record.specs.Request.{kind_of, judged_of}

-- event number, kind, code, count, mark, and the numbers: good answers and refused ones alike
unfoldable pub record_of : Format → List ℕ → ℕ → WorkedAnswer → List ℕ
record_of f event kind w =
    event ++ (kind ∷ w.code ∷ w.count ∷ w.settled ∷ number_bytes_of f w.values ++ (number_bytes_of f w.left ++ number_bytes_of f w.right))

-- the answer to a request of the right size
abbrev pub answered_of : Format → List ℕ → List ℕ
answered_of f s = record_of f (take event_bytes s) (kind_of s) (judged_of f s)

-- the answer to one of any other size: zeros, and code 1
abbrev pub wrong_size_of : Format → List ℕ
wrong_size_of f = record_of f (replicate event_bytes 0) 0 (refused_kind f 1 0)

pub record Step : Type 0 where
  pub code : ℕ
  pub answer : List ℕ

-- the code handed back and the answer slice at exit: 2 leaves the slice, 1 writes the answer to a request of the wrong size
unfoldable pub record_step_of : Format → List ℕ → List ℕ → Step
record_step_of f request answer =
    pick (eqb (length answer) (answer_size f))
    (pick (eqb (length request) (request_size f))
    (record { code = (judged_of f request).code; answer = answered_of f request })
    (record { code = 1; answer = wrong_size_of f }))
    (record { code = 2; answer = answer })

-- what the record step promises: the code handed back, and the answer slice at exit
abbrev pub Stepped : Step → ℕ → List ℕ → Type 0
Stepped s code left = (code ≡ s.code) × (left ≡ s.answer)
