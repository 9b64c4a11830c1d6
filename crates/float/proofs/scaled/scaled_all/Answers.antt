-- As for one number: with the limited k one product with 2 ^ k, or one quotient by 2 ^ -k, is the rounded product.
use Rattle.float.proofs.Words.{◌≡◌, ap, ◌∙◌, lit<, neg_ℤ, mul, div, Float, ℤ}
use lib.IntN.{neg_ℤ-neg_ℤ}
use Rattle.std.proofs.Common.{to_z, of_z}
use Rattle.float.specs.Width.{F, W}
use Rattle.float.specs.Scaled.{limited, times_limited, times_power}
use Rattle.float.proofs.Reach.{limited_held, opposite_held}
use Rattle.float.proofs.Products.{times_power_lem, over-power}
use Rattle.float.proofs.InPlace.{all_places}
use Rattle.float.proofs.scaled.scaled_all.Goals as goal

pub returns-after-loop-v : goal.returns-after-loop-v
returns-after-loop-v g c =
    let k = c.args.k in
    let held : to_z W (of_z W c.limited-j.result) ≡ limited F k = limited_held F W (lit< tt) k c.limited-j.result c.ranges.k c.limited-j.ensures in
    let same : (x : Float) → mul F x c.power-p.result ≡ times_limited F x k =
    λ x. rw (c.power-p.ensures, held) (times_power_lem F (limited F k) x) in
    all_places F k _ _ _ _ _ same c.loop-v-test.false c.loop-v.invariant

pub returns-after-loop-v-else-j-le-GREATEST : goal.returns-after-loop-v-else-j-le-GREATEST
returns-after-loop-v-else-j-le-GREATEST g c =
    let k = c.args.k in
    let same : (x : Float) → div F x c.power-p-else-j-le-GREATEST.result ≡ times_limited F x k =
    λ x. rw (c.power-p-else-j-le-GREATEST.ensures, opposite_held F W (lit< tt) k c.limited-j.result c.ranges.k c.limited-j.ensures c.if-j-le-GREATEST.false)
    (over-power F (neg_ℤ (limited F k)) x ∙ ap (λ (z : ℤ). times_power F z x) (neg_ℤ-neg_ℤ (limited F k))) in
    all_places F k _ _ _ _ _ same c.loop-v-else-j-le-GREATEST-test.false c.loop-v-else-j-le-GREATEST.invariant
