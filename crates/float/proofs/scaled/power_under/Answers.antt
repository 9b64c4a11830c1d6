-- The pattern without its sign tells the kind of number, and each return is the power that a law names for that kind.
use Rattle.float.proofs.Words.{◌≡◌, sym, ap, ◌∙◌, subst, ⊎_elim, ℕ, ◌+◌, ◌-◌, ◌%◌, ◌^◌, ◌<◌, arith, ℤ, pos, negsuc, ◌+ℤ◌, emax, low, top, size, minus}
use Rattle.float.proofs.Words.{of_bits}
use lib.Ieee.Bits.{of_bits-fits}
use Rattle.std.proofs.Common.{to_z, of_z}
use mir.Val.{hbits}
use Rattle.float.specs.Width.{F, W}
use Rattle.float.specs.Parts.{field_of}
use Rattle.float.specs.Scaled.{power_under, InReach, PowerPromise}
use Rattle.float.proofs.Exponent.{held, held_less}
use Rattle.float.proofs.Sizes.{size_exact}
use Rattle.float.proofs.Reach.{power_reach}
use Rattle.float.proofs.PowerBits.{power_zero, power-infinite, power_subnormal, power_normal}
use Rattle.float.proofs.scaled.power_under.Goals as goal

-- what a pattern stands for is a value of the format, so the power under it is in reach
promised : (b : ℕ) (k : ℤ) → power_under (of_bits F b) ≡ k → PowerPromise F (of_bits F b) k
promised b k e = record { is = sym e; reach = subst (InReach F) e (power_reach F (of_bits F b) (of_bits-fits F b)) }

pub returns-then-c-ge-INFINITY : goal.returns-then-c-ge-INFINITY
returns-then-c-ge-INFINITY c =
    promised _ (pos 0) (⊎_elim (λ z. power_zero F c.args.b z) (λ h. power-infinite F c.args.b h.1) c.if-c-ge-INFINITY.either)

pub returns-then-c-lt-LEADING : goal.returns-then-c-lt-LEADING
returns-then-c-lt-LEADING c =
    let b : ℕ = c.args.b % top F in
    -- the place of the leading digit
    let place : ℕ = c.ilog2.result in
    let above : 0 < b = omega (arith, c.if-c-ge-INFINITY.false.0) in
    let last : size b - 1 ≡ place = omega (arith, size_exact place b c.ilog2.ensures.power_le (omega arith)) in
    let small : place + low F < 2 ^ hbits W = omega arith in
    let sum : to_z W (of_z W c.from.result) +ℤ negsuc (low F - 1) ≡ minus place (low F) =
    ap (λ (z : ℤ). to_z W (of_z W z) +ℤ negsuc (low F - 1)) c.from.ensures ∙ held_less W place (low F - 1) small in
    promised _ _
    (power_subnormal F c.args.b above c.if-c-lt-LEADING.true ∙ ap (λ (n : ℕ). minus n (low F)) last ∙ sym (held W place (low F) _ small sum))

pub returns-else-c-lt-LEADING : goal.returns-else-c-lt-LEADING
returns-else-c-lt-LEADING c =
    let x : ℕ = field_of F c.args.b in
    let small : x + emax F < 2 ^ hbits W = omega arith in
    let sum : to_z W x +ℤ negsuc (emax F - 1) ≡ minus x (emax F) = held_less W x (emax F - 1) small in
    promised _ _
    (power_normal F c.args.b c.if-c-lt-LEADING.false c.if-c-ge-INFINITY.false.1 ∙ sym (held W x (emax F) _ small sum))
