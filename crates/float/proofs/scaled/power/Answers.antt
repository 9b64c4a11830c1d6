-- k counted from -low on is j, so 2 ^ k is 2 ^ j units, and the pattern is the one that `low_power` or `high_power` names.
use Rattle.float.proofs.Words.{◌≡◌, sym, ap, ◌∙◌, false, ℕ, ◌+◌, ◌-◌, ◌*◌, ◌%◌, ◌^◌, ◌≤◌, ◌<◌, one-mul, lt_of_lt_of_le, lt_of_le_of_lt, le_of_eq, arith}
use Rattle.float.proofs.Words.{lit<, lit≤, ℤ, pos, ◌+ℤ◌, pow-lt, shl_exact, fin, prec, emax, low, minus, of_bits}
use mir.Val.{bits}
use mir.ValLaws.{to_z-of_z}
use Rattle.float.specs.Width.{F, W}
use Rattle.float.proofs.Reach.{reach_place}
use Rattle.float.proofs.PowerBits.{low_power, high_power}
use Rattle.float.proofs.scaled.power.Goals as goal
use Rattle.float.proofs.scaled.power.Goals.{After-biased-j}

place : (c : After-biased-j) → (c.args.k ≡ minus c.biased-j.result (low F)) × (c.biased-j.result ≤ low F + emax F)
place c =
    let k = c.args.k in
    reach_place F k c.biased-j.result c.requires (c.biased-j.ensures ∙ ap (λ (z : ℤ). z +ℤ pos (low F)) (to_z-of_z W k c.ranges.k))

-- the digit is not shifted out of the word
digit : (j : ℕ) → j < prec F - 1 → 1 * 2 ^ j % 2 ^ bits W ≡ 2 ^ j
digit j h = shl_exact 1 j (bits W) (lit< tt) (omega arith) ∙ one-mul (2 ^ j)

pub of_number-requires : goal.of_number-requires
of_number-requires c = lt_of_le_of_lt (le_of_eq (digit _ c.if-j.true)) (lt_of_lt_of_le (pow-lt c.if-j.true) (lit≤ tt))

pub returns-then-j : goal.returns-then-j
returns-then-j c = let j = c.biased-j.result in
    let p = place (goal.at.returns-then-j c).After-biased-j in
    let h = c.if-j.true in
    c.of_number.ensures ∙ ap (of_bits F) (digit j h) ∙ low_power F j p.1 h ∙ ap (fin false 1) (sym p.0)

pub returns-else-j : goal.returns-else-j
returns-else-j c = let p = place (goal.at.returns-else-j c).After-biased-j in
    c.of_number-else-j.ensures ∙ high_power F c.biased-j.result p.1 c.if-j.false ∙ ap (fin false 1) (sym p.0)
