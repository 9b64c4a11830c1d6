-- The digits are those of the significand with the odd bit, so where they have a nearest root `assembled_nearest` puts the pattern together.
use Rattle.float.proofs.Words.{◌≡◌, ◌∙◌, subst, ℕ, ◌+◌, ◌-◌, ◌*◌, ◌/◌, ◌%◌, ◌^◌, ◌≤◌, ◌<◌, arith, hid}
use Rattle.float.specs.Width.{F}
use Rattle.float.specs.Parts.{significand_of, exponent_of}
use Rattle.float.specs.Digits.{RootPattern}
use Rattle.float.proofs.Assembled.{half_bias, odd_field, even_field, assembled_nearest}
use Rattle.float.proofs.root.quick_root.Goals as goal
use Rattle.float.proofs.root.quick_root.Goals.{then-digits-lt-LEADING, else-digits-lt-LEADING}

pub returns : goal.returns
returns c =
    let b = c.args.b in
    let low = c.if-b-lt-LEADING.false in
    let high = c.if-b-ge-INFINITY.false in
    let d = c.if-digits-lt-LEADING in
    -- m has the digits of a significand, and perhaps one more
    let range : (hid F ≤ d.m) × (d.m < 4 * hid F) =
    elim d.branch [
      | then-digits-lt-LEADING w ↦ let e = w.m-is in (omega arith, omega arith)
      | else-digits-lt-LEADING w ↦ let e = w.m-is in (omega arith, omega arith)
    ] in
    let digits : d.m ≡ significand_of F b * 2 ^ (exponent_of F b % 2) =
    elim d.branch [
      | then-digits-lt-LEADING w ↦ w.m-is ∙ even_field F b low high w.if-digits-lt-LEADING.true
      | else-digits-lt-LEADING w ↦ w.m-is ∙ odd_field F b low high w.if-digits-lt-LEADING.false
    ] in
    let t = c.in_ok-t.t in
    let q : ℕ = t.upper + t.lower in
    let e : (exponent_of F b / 2 + half_bias F) * hid F + q ≡ ((b / hid F - 1) / 2 + half_bias F) * hid F + t.upper + t.lower = omega arith in
    subst (RootPattern F b) e (assembled_nearest F b d.m q low high digits range.0 range.1 c.in_ok-t.ensures.nearest)
