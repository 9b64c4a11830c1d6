-- What the head of an answer says, and which heads are known. A record with any other head is foreign. The lists here are the one place that says which
-- codes and marks an answer file can have; which kinds, and which of them count rotations, the table of kinds says. Definitions only.
use Rattle.std.specs.Prelude.{Bool, false, not, ◌&&◌, ◌||◌, List, [], ◌∷◌, ℕ, eqb, leb, get_or}
use Rattle.float.specs.Choice.{pick}
use Rattle.kinds.specs.Table.{Kind, kind_numbered, known_kind}
use Rattle.record.specs.Layout.{kind_at, code_at, count_at, mark_at}
use Rattle.counts.specs.declared.known.Head.{Head}

-- the bytes of the head that are counted; byte 6 has the rotations where the code is 0
abbrev pub head_of : List ℕ → Head
head_of r = record { kind = get_or r kind_at 0; code = get_or r code_at 0; turns = get_or r count_at 0; mark = get_or r mark_at 0 }

-- ---- what is known

-- calls hand back others too, which stand in no file
abbrev pub codes : List ℕ
codes = 0 ∷ 1 ∷ 3 ∷ 4 ∷ 5 ∷ 6 ∷ 7 ∷ 9 ∷ []

-- settled, unsettled
abbrev pub marks : List ℕ
marks = 1 ∷ 0 ∷ []

-- a run makes at most so many rotations; a kind that makes no run has 0 in their place
abbrev pub most_turns : ℕ
most_turns = 25

abbrev pub most_turns_of : Kind → ℕ
most_turns_of k = pick k.counts most_turns 0

abbrev pub among : ℕ → List ℕ → Bool
among n [] = false
among n (m ∷ ms) = eqb n m || among n ms

-- ---- foreign records

-- with code 0: the kind, the mark and the rotations are known
abbrev pub known_answer : Head → Bool
known_answer h = known_kind h.kind && (among h.mark marks && leb h.turns (most_turns_of (kind_numbered h.kind)))

-- the code is none of these, or it is 0 and the rest is not known; with any other code the rest is not judged: byte 6 may be a pivot's number
unfoldable pub foreign_of : Head → Bool
foreign_of h = not (among h.code codes) || (eqb h.code 0 && not (known_answer h))
