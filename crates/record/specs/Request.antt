-- What a request's bytes say: the tests of 3, 4 and 5 in their order, and the numbers. Definitions only.
use Rattle.std.specs.Prelude.{Bool, ◌&&◌, List, ℕ, eqb, length, get_or}
use Rattle.std.specs.Float.{Format}
use Rattle.float.specs.Choice.{pick}
use Rattle.kinds.specs.Table.{Kind, kind_numbered, known_kind, known_way}
use Rattle.kinds.specs.Work.{Asked, WorkedAnswer, refused_kind, used_finite}
use Rattle.kinds.specs.Ways.{work_of}
use Rattle.wire.specs.Bytes.{place_of, numbers_from, zero_from}
use Rattle.record.specs.Layout.{kind_at, way_at, reserved_at, nine_at, three_at, request_size}

abbrev pub kind_of : List ℕ → ℕ
kind_of s = get_or s kind_at 0

abbrev pub way_of : List ℕ → ℕ
way_of s = get_or s way_at 0

-- kind, way and numbers
abbrev pub asked_of : Format → List ℕ → Asked
asked_of f s = record { kind = kind_of s; way = way_of s; nine = numbers_from f 9 nine_at s; three = numbers_from f 3 (three_at f) s }

-- ---- the tests of 3 and 4: 0, 3 or 4

-- every reserved byte is zero
abbrev pub reserved_zero : List ℕ → Bool
reserved_zero s = zero_from reserved_at nine_at s

-- so is every number that the kind does not use
abbrev pub unused_zero : Format → Kind → List ℕ → Bool
unused_zero f k s = zero_from (place_of f nine_at k.nine) (three_at f) s && zero_from (place_of f (three_at f) k.three) (request_size f) s

-- and the way is one of the kind's
abbrev pub rest_right : Format → List ℕ → Bool
rest_right f s = known_way (kind_of s) (way_of s) && (reserved_zero s && unused_zero f (kind_numbered (kind_of s)) s)

unfoldable pub form_of : Format → List ℕ → ℕ
form_of f s = pick (known_kind (kind_of s)) (pick (rest_right f s) 0 4) 3

-- the same of a slice of any size: 1 comes first
unfoldable pub sized_form_of : Format → List ℕ → ℕ
sized_form_of f s = pick (eqb (length s) (request_size f)) (form_of f s) 1

-- ---- the test of 5, and the kernel's answer if the tests let it be asked

unfoldable pub judged_of : Format → List ℕ → WorkedAnswer
judged_of f s =
    pick (eqb (form_of f s) 0) (pick (used_finite (asked_of f s)) (work_of f (asked_of f s)) (refused_kind f 5 0)) (refused_kind f (form_of f s) 0)
