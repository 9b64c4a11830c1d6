-- The values are tested after they are multiplied, each by 2 ^ k itself since k is in reach, and either way is one of `judged`.
use Rattle.float.proofs.Words.{◌≡◌, sym, ap, ◌∙◌, rules}
use mir.ValLaws.{to_z-of_z}
use Rattle.float.specs.Width.{F, W}
use Rattle.float.specs.Sign.{all_finite}
use Rattle.float.proofs.Judged.{stands, refuses}
use Rattle.float.proofs.Reach.{limited_reach}
use Rattle.kinds.specs.Ways.{multiplied_back, times_all}
use Rattle.kinds.proofs.ways.multiplied_back.Goals as goal

pub returns-then-not-all_finite : goal.returns-then-not-all_finite
unfolding multiplied_back
returns-then-not-all_finite c =
    let k = c.args.k in
    let made : c.scaled_all-values.result ≡ times_all F k 3 c.args.w.values =
    c.scaled_all-values.ensures ∙ (rw (to_z-of_z W k c.ranges.k, limited_reach F k c.requires)) in
    rw c.into.ensures (sym (refuses _ (c.all_finite.ensures ∙ ap all_finite made) (search rules) _ 7 _))

pub returns : goal.returns
unfolding multiplied_back
returns c =
    let k = c.args.k in
    let made : c.scaled_all-values.result ≡ times_all F k 3 c.args.w.values =
    c.scaled_all-values.ensures ∙ (rw (to_z-of_z W k c.ranges.k, limited_reach F k c.requires)) in
    rw made (sym (stands _ (c.all_finite.ensures ∙ ap all_finite made) (search rules) _ 7 _))
