-- With k and m the argument's exponent and significand, the code works out: the halved exponent, m with the odd bit, m scaled, its whole root, and the
-- field that `assembled` asks for. The rest is that nothing overflows on the way.
use Rattle.float.proofs.Words.{◌≡◌, refl, sym, ap, ◌∙◌, ℕ, ◌+◌, ◌-◌, ◌*◌, ◌/◌, ◌%◌, ◌^◌, ◌≤◌, arith, eqb, ℤ}
use Rattle.float.proofs.Words.{pos, ◌+ℤ◌, ◌-ℤ◌, prec, emax, low, hid, minus, eqb-true, eqb-false, le-leb, lt-leb}
use lib.Signed.{shr_z}
use Rattle.std.proofs.Common.{to_z, of_z}
use Rattle.float.specs.Width.{F, W}
use Rattle.float.specs.declared.parts.Parts.{Parts}
use Rattle.float.specs.Parts.{significand_of, exponent_of, odd_z}
use Rattle.float.proofs.Exponent.{minus_less, half_of, odd_of, held, biased_of}
use Rattle.float.proofs.Squares.{root_ge}
use Rattle.float.proofs.Rounding.{rounded, rounded_range}
use Rattle.float.proofs.Assembled.{assembled, split}
use Rattle.float.proofs.root.root_pattern.Goals as goal
use Rattle.float.proofs.root.root_pattern.Goals.{After-biased, then-is_odd, else-is_odd, then-w, else-w}

-- the halved exponent's offset: low and the digits below the leading one, which together are even in both formats
abbrev H : ℕ
H = (low F + (prec F - 1)) / 2

-- the scaled significand's square has the digits that the root asks for
record Bounds (field j q m : ℕ) : Type 0 where
  field_low : low F - H ≤ field
  field_high : field ≤ low F - H + emax F
  j_high : j ≤ prec F / 2
  q_high : q ≤ 2 * hid F
  m_low : hid F * hid F ≤ m * hid F

module _ (c : After-biased) where
  abbrev k : ℕ
  k = exponent_of F c.args.b

  abbrev m : ℕ
  m = significand_of F c.args.b

  -- the exponent as the machine holds it
  stored : to_z W (of_z W c.parts_of-p.result.e) ≡ minus k (low F)
  stored = held W k (low F) c.parts_of-p.result.e (omega arith) (ap (λ (p : Parts). p.e) c.parts_of-p.ensures)

  exponent : to_z W (of_z W c.parts_of-p.result.e) -ℤ pos (prec F - 1) ≡ minus k (2 * H)
  exponent = ap (λ (z : ℤ). z -ℤ pos (prec F - 1)) stored ∙ minus_less (low F) (prec F - 2) k

  held-exponent : to_z W (of_z W (to_z W (of_z W c.parts_of-p.result.e) -ℤ pos (prec F - 1))) ≡ minus k (2 * H)
  held-exponent = held W k (2 * H) _ (omega arith) exponent

  half : c.halved.result ≡ minus (k / 2) H
  half = c.halved.ensures ∙ ap (λ (z : ℤ). shr_z z 2) held-exponent ∙ half_of (2 * H) H k refl

  odd : c.is_odd.result ≡ eqb (k % 2) 1
  odd = c.is_odd.ensures ∙ ap odd_z held-exponent ∙ odd_of (2 * H) H k refl

  m-is : c.if-is_odd.m ≡ m * 2 ^ (k % 2)
  m-is =
      let p = c.parts_of-p.ensures in
      elim c.if-is_odd.branch [
        | then-is_odd w ↦
            let e : k % 2 ≡ 1 = eqb-true _ _ (sym odd ∙ w.if-is_odd.true) in
            rw (w.m-is, p, e)
        | else-is_odd w ↦
            let n : k % 2 ≡ 1 → ⊥ = eqb-false _ _ (sym odd ∙ w.if-is_odd.false) in
            let e : k % 2 ≡ 0 = omega arith in
            rw (w.m-is, p, e) (omega arith)
      ]

  -- the field, before the scaling is taken off it
  field_is : c.biased.result ≡ k / 2 + (low F - H)
  field_is =
      biased_of H (low F) c.biased.result (k / 2) (omega arith)
      (c.biased.ensures ∙ ap (λ (z : ℤ). z +ℤ pos (low F)) (held W (k / 2) H c.halved.result (omega arith) half))

  q-is : c.if-w.q ≡ rounded c.whole_root-w.result.q c.whole_root-w.result.left
  q-is =
      let d = c.whole_root-w.result in
      elim c.if-w.branch [
        | then-w w ↦ rw (w.q-is, lt-leb d.left d.q w.if-w.true)
        | else-w w ↦ rw (w.q-is, le-leb d.left d.q w.if-w.false)
      ]

  bounds : Bounds c.biased.result c.scaled_up-s.result.j c.if-w.q c.scaled_up-s.result.m
  bounds =
      let e = field_is in
      let d = c.whole_root-w in
      let s = c.scaled_up-s in
      let lo : hid F * hid F ≤ s.result.m * hid F = omega (arith, s.ensures.low) in
      let r =
      rounded_range (hid F) d.result.q d.result.left
      (root_ge (s.result.m * hid F) (prec F) d.result.q d.result.left d.ensures (hid F) lo)
      d.ensures.range in
      record {
        field_low = omega arith;
        field_high = omega arith;
        j_high = s.ensures.few;
        q_high = rw q-is r.1;
        m_low = lo;
      }

pub returns : goal.returns
returns c =
    let a = (goal.at.returns c).After-biased in
    let s = c.scaled_up-s in
    let d = c.whole_root-w in
    let k = exponent_of F c.args.b in
    let j = s.result.j in
    let b = bounds a in
    let few = s.ensures.high in
    let m = s.ensures.is ∙ ap (λ (x : ℕ). x * 4 ^ j) (m-is a) in
    let moved : s.result.m * hid F * 4 ^ (k / 2 + (low F - H) - j) ≡ significand_of F c.args.b * 2 ^ k * 2 ^ low F =
    ap (λ (x : ℕ). x * hid F * 4 ^ (k / 2 + (low F - H) - j)) m
    ∙ split (low F) (prec F - 1) (low F - H) (significand_of F c.args.b) k j (omega arith) refl in
    record {
      is = rw (field_is a, q-is a)
          (assembled F c.args.b (s.result.m * hid F) (k / 2 + (low F - H) - j) d.result.q d.result.left c.requires.0 c.requires.1 moved
          b.m_low (omega arith) d.ensures (omega arith));
      finite = omega arith;
    }
