-- What an item and its answer may have. Definitions only.
use Rattle.std.specs.Prelude.{ℕ, ◌<◌, ◌≤◌}

-- n words in and m words out
abbrev pub SmallItem : ℕ → ℕ → Type 0
SmallItem n m = (0 < n) × (n ≤ 40) × (0 < m) × (m ≤ 64)
