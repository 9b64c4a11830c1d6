-- Where everything stands in a request and in an answer, in bytes. Each place is named once, here. Definitions only.
use Rattle.std.specs.Prelude.{ℕ}
use Rattle.std.specs.Float.{Format}
use Rattle.wire.specs.Bytes.{place_of}

-- ---- both begin with the event's number and the kind

abbrev pub event_bytes : ℕ
event_bytes = 4

abbrev pub kind_at : ℕ
kind_at = event_bytes

-- the head ends, and the numbers begin
abbrev pub numbers_at : ℕ
numbers_at = 8

-- ---- a request: the way, reserved bytes, then nine numbers and three

abbrev pub way_at : ℕ
way_at = 5

abbrev pub reserved_at : ℕ
reserved_at = 6

abbrev pub nine_at : ℕ
nine_at = numbers_at

abbrev pub three_at : Format → ℕ
three_at f = place_of f nine_at 9

abbrev pub request_size : Format → ℕ
request_size f = place_of f nine_at 12

-- ---- an answer: the code, the count and the mark, then three values, nine numbers left and nine right

abbrev pub code_at : ℕ
code_at = 5

abbrev pub count_at : ℕ
count_at = 6

abbrev pub mark_at : ℕ
mark_at = 7

abbrev pub left_at : Format → ℕ
left_at f = place_of f numbers_at 3

abbrev pub right_at : Format → ℕ
right_at f = place_of f numbers_at 12

abbrev pub answer_size : Format → ℕ
answer_size f = place_of f numbers_at 21
