-- k is in reach, so that each number is multiplied by 2 ^ -k itself.
use Rattle.float.proofs.Words.{◌≡◌, sym, ap, lt_of_le_of_lt, le_trans, le_of_eq, lit<, ℤ, pos, neg_ℤ, ◌-ℤ◌}
use lib.IntN.{+ℤ_idl}
use lib.Signed.{mag}
use mir.Val.{of_z, to_z, SFits}
use mir.ValLaws.{to_z-of_z}
use Rattle.float.specs.Width.{F, W}
use Rattle.float.specs.Scaled.{InReach}
use Rattle.float.proofs.Reach.{limited-minus, limited-size}
use Rattle.kinds.proofs.ways.divided.Goals as goal

small : (k : ℤ) → InReach F k → SFits W (neg_ℤ k)
small k h =
    record { sfits = lt_of_le_of_lt (le_trans (le_of_eq (ap mag (sym (limited-minus F k h)))) (limited-size F (neg_ℤ k))) (lit< tt) }

minus : (k : ℤ) → SFits W k → InReach F k → to_z W (of_z W (pos 0 -ℤ to_z W (of_z W k))) ≡ neg_ℤ k
minus k f h = rw (to_z-of_z W k f, +ℤ_idl (neg_ℤ k)) (to_z-of_z W (neg_ℤ k) (small k h))

pub returns : goal.returns
returns c = let k = c.args.k in rw (c.scaled_all.ensures, minus k c.ranges.k c.requires, limited-minus F k c.requires)
