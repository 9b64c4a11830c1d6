-- A kind, its way, what is asked of it and what it answers, as the code has them, read as the definitions have them. Definitions only.
use Rattle.std.specs.Prelude.{◌&&◌, List, ℕ, eqb, Option, Some, None, Result, Ok, Err, Float}
use Rattle.std.specs.Float.{Format}
use Rattle.float.specs.Choice.{pick}
use Rattle.matrix.specs.Codes.{number_of}
use Rattle.matrix.specs.declared.codes.Refusal.{Refusal}
use Rattle.matrix.specs.declared.codes.Refusal.TheVariants.{Reserved}
use Rattle.jacobi.specs.Blind.{mark_of}
use Rattle.kinds.specs.Table.{Kind, row, unknown, kind_numbered, known_way}
use Rattle.kinds.specs.Work.{Asked, WorkedAnswer, refused_kind}
use Rattle.kinds.specs.declared.table.Kind.{Kind as NamedKind}
use Rattle.kinds.specs.declared.table.Kind.TheVariants.{Eigen2x2, Eigen3x3, Svd2x2, Svd3x3, Factor2x2, Factor3x3, Solve2x2, Solve3x3}
use Rattle.kinds.specs.declared.table.Numbered.{Numbered}
use Rattle.kinds.specs.declared.table.Row.{Row}
use Rattle.kinds.specs.declared.table.Way.{Way}
use Rattle.kinds.specs.declared.table.Way.TheVariants.{Scaled, AsGiven}
use Rattle.kinds.specs.declared.work.Asked.{Asked as NamedAsked}
use Rattle.kinds.specs.declared.work.Worked.{Worked}
use Rattle.kinds.specs.declared.work.Refused.{Refused}

abbrev pub number_of_kind : NamedKind → ℕ
number_of_kind Eigen2x2 = 1
number_of_kind Eigen3x3 = 2
number_of_kind Svd2x2 = 3
number_of_kind Svd3x3 = 4
number_of_kind Factor2x2 = 5
number_of_kind Factor3x3 = 6
number_of_kind Solve2x2 = 7
number_of_kind Solve3x3 = 8

-- a kind's row of the table
abbrev pub row_of : NamedKind → Kind
row_of k = kind_numbered (number_of_kind k)

-- what the code has of a row
abbrev pub columns : Kind → Row
columns k = record { nine = k.nine; three = k.three; counts = k.counts; scales = k.scales }

-- the row of a number that a kind has, and of one that none has
abbrev pub row_or_none : Option NamedKind → Kind
row_or_none (Some k) = row_of k
row_or_none None = unknown

-- what the code has of any number's row, with the number and the kernel of its kind
abbrev pub numbered_row : Numbered → Kind
numbered_row r =
    row (row_or_none r.kind).number r.row.nine r.row.three r.row.counts r.row.scales (row_or_none r.kind).kernel

-- the way that a request's byte names, if it is one of the kind's: with 0 the matrix of a kind that scales is scaled
abbrev pub way_of_byte : Kind → ℕ → Result Way Refusal
way_of_byte k way = pick (known_way k.number way) (Ok (pick (k.scales && eqb way 0) Scaled AsGiven)) (Err Reserved)

-- and the byte of a way
abbrev pub byte_of_way : Kind → Way → ℕ
byte_of_way k Scaled = 0
byte_of_way k AsGiven = pick k.scales 1 0

abbrev pub asked : NamedAsked → Asked
asked a = record { kind = number_of_kind a.kind; way = byte_of_way (row_of a.kind) a.way; nine = a.nine; three = a.three }

-- what a request's bytes ask
abbrev pub asked_by : ℕ → ℕ → List Float → List Float → Asked
asked_by kind way nine three = record { kind = kind; way = way; nine = nine; three = three }

abbrev pub with_code : ℕ → Worked → WorkedAnswer
with_code code w = record { code = code; count = w.count; settled = mark_of w.settled; values = w.values; left = w.left; right = w.right }

-- what a kind that is not refused answers, with the code of that
abbrev pub whole_worked : Worked → WorkedAnswer
whole_worked w = with_code 0 w

-- what a kind answers, or its refusal by the number
abbrev pub worked : Format → Result Worked Refused → WorkedAnswer
worked f (Ok w) = whole_worked w
worked f (Err e) = refused_kind f (number_of e.why) e.pivot
