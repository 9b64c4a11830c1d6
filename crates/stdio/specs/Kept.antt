-- Records of one size in a row of bytes, and the bytes that are kept for the next read. Definitions only.
use Rattle.std.specs.Prelude.{List, ◌++◌, ℕ, ◌+◌, ◌*◌, ◌/◌, leb, length, take, drop}
use Rattle.float.specs.Choice.{pick}

-- how many whole records there are
abbrev pub whole_of : ℕ → List ℕ → ℕ
whole_of size s = length s / size

-- the bytes behind them
abbrev pub rest_of : ℕ → List ℕ → List ℕ
rest_of size s = drop (size * whole_of size s) s

-- the n bytes from `from` on moved to the front, what lies behind n as it was; all as it was where there are not so many
abbrev pub kept_of : ℕ → ℕ → List ℕ → List ℕ
kept_of from n s = pick (leb (from + n) (length s)) (take n (drop from s) ++ drop n s) s
