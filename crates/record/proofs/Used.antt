-- The finite test of the first of all numbers is the test of those that a kind uses.
use Rattle.float.proofs.Words.{◌≡◌, ◌&&◌, List, ℕ, take, Float, Format}
use Rattle.float.specs.Sign.{all_finite}
use Rattle.matrix.proofs.Tables.{take-tabulate, first_tabulate}
use Rattle.kinds.specs.Table.{kind_numbered}
use Rattle.kinds.specs.Work.{used_finite}
use Rattle.kinds.proofs.Rows.{nine_most, three_most}
use Rattle.wire.specs.Bytes.{place_of, number_at, numbers_from}
use Rattle.record.specs.Layout.{nine_at, three_at}
use Rattle.record.specs.Request.{kind_of, asked_of}

pub used_first : (f : Format) (s : List ℕ) → (all_finite (take (kind_numbered (kind_of s)).nine (numbers_from f 9 nine_at s))
    && all_finite (take (kind_numbered (kind_of s)).three (numbers_from f 3 (three_at f) s))) ≡ used_finite (asked_of f s)
used_first f s =
    let k = kind_numbered (kind_of s) in
    let nine : ℕ → Float = λ (i : ℕ). number_at f (place_of f nine_at i) s in
    let three : ℕ → Float = λ (i : ℕ). number_at f (place_of f (three_at f) i) s in
    rw (
      take-tabulate k.nine 9 nine (nine_most (kind_of s)),
      take-tabulate k.three 3 three (three_most (kind_of s)),
      first_tabulate k.nine 9 nine (nine_most (kind_of s)),
      first_tabulate k.three 3 three (three_most (kind_of s)),
    )
