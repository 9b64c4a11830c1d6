-- The values of an answer are magnitudes in order, and finite, so they descend to zero or above.
use Rattle.float.proofs.Words.{◌≡◌, sym, ap, subst, true, false, List, ◌++◌, ℕ, ◌<◌, arith, length, Float, Format}
use Rattle.std.specs.Prelude.{Ok}
use Rattle.float.specs.Width.{F}
use Rattle.float.specs.Sign.{sign_bit_of, finite}
use Rattle.float.proofs.Finite.{at-finite, parts_finite, magnitude_finite, magnitude_unsigned}
use Rattle.float.proofs.Zeros.{zero-least}
use Rattle.matrix.specs.Places.{at}
use Rattle.matrix.specs.Square.{Mat2, Mat3}
use Rattle.jacobi.specs.Moved.{Moved, Sorted, at_least}
use Rattle.jacobi.proofs.Moves.{each, each_before}
use Rattle.jacobi.proofs.Sorted.{below2, below3, downward, sorts2, sorts3}
use Rattle.svd.specs.Pairs.{entry}
use Rattle.svd.specs.Order.{Factors, signed3_of, signed2_of, exchange_both, order_of, order2_of}
use Rattle.svd.specs.Svd3x3.{last_of, factors_of, svd_of, SvdAnswer}
use Rattle.svd.specs.Svd2x2.{turn2, sides2_of, factors2_of, svd2_of, Svd2Answer}
use Rattle.svd.specs.Ordered.{BothFollow, InOrder, last_signed, last2_signed}
use Rattle.svd.specs.declared.svd2x2.Svd2.{Svd2}
use Rattle.svd.specs.declared.svd3x3.Svd3.{Svd3}
use Rattle.svd.proofs.Answered.{answered, answered2}
use Rattle.svd.proofs.Moved.{same_permutation, same_permutation2}
use Rattle.svd.proofs.Sizes.{last_full, factors2_full}
use Rattle.svd.proofs.svd2x2.svd.Reads as svd2x2-svd
use Rattle.svd.proofs.svd3x3.svd.Reads as svd3x3-svd

-- ---- magnitudes that descend do so to zero or above

magnitudes_descend : (f : Format) (n : ℕ) {x y : Factors} → Moved n (BothFollow n) x y → ((c : ℕ) → c < n → finite (at x.values c) ≡ true)
    → ((c : ℕ) → c < n → sign_bit_of (at x.values c) ≡ false) → Sorted at_least n y.values → InOrder f n x y
magnitudes_descend f n {x} {y} m h k o =
    let fine = each m (λ (v : Float). finite v ≡ true) h in
    let unsigned = each m (λ (v : Float). sign_bit_of v ≡ false) k in
    record {
      moved = m;
      values = record { unsigned = unsigned; from_zero = (λ c l. zero-least f (at y.values c) (fine c l) (unsigned c l)); descends = o };
    }

module _ (f : Format) (a b c : Float) (u v : List Float) where
  three_in_order : finite a ≡ true → finite b ≡ true → finite c ≡ true → InOrder f 3 (signed3_of a b c u v) (order_of a b c u v)
  unfolding order_of
  three_in_order p q r =
      let w = signed3_of a b c u v in
      let fine = below3 (λ (i : ℕ). finite (at w.values i) ≡ true) (magnitude_finite a p) (magnitude_finite b q) (magnitude_finite c r) in
      magnitudes_descend f 3 (same_permutation a b c u v) fine
      (below3 (λ (i : ℕ). sign_bit_of (at w.values i) ≡ false) (magnitude_unsigned a) (magnitude_unsigned b) (magnitude_unsigned c))
      (sorts3 downward (exchange_both 3) w fine)

-- both values are finite where they are so in order
module _ (f : Format) (a b : Float) (u v : List Float) where
  two_in_order : ((c : ℕ) → c < 2 → finite (at (order2_of a b u v).values c) ≡ true) → InOrder f 2 (signed2_of a b u v) (order2_of a b u v)
  unfolding order2_of
  two_in_order h =
      let w = signed2_of a b u v in
      let m = same_permutation2 a b u v in
      let fine = each_before m (λ (x : Float). finite x ≡ true) h in
      magnitudes_descend f 2 m fine (below2 (λ (i : ℕ). sign_bit_of (at w.values i) ≡ false) (magnitude_unsigned a) (magnitude_unsigned b))
      (sorts2 downward (exchange_both 2) w fine)

-- ---- the answers with code 0, and the calls: any answer within the promise that the source states

-- A matrix of the source holds nine numbers. Here its numbers are a list, so their count is a premise.
pub in_order : (f : Format) (a : List Float) → length a ≡ 9 → (svd_of f a).code ≡ 0
    → InOrder f 3 (last_signed f a) (record { values = (svd_of f a).values; carried = record { u = (svd_of f a).u.«data»; v = (svd_of f a).v.«data» } })
unfolding factors_of
in_order f a n e =
    let d = answered f a e in
    let s = last_of f a in
    let l = (last_full f a n).matrix in
    let g = at-finite s.matrix (parts_finite s.matrix ((factors_of s).carried.u ++ (factors_of s).carried.v) d.numbers).0 in
    rw d.answer
    (three_in_order f (entry s.matrix 0 0) (entry s.matrix 1 1) (entry s.matrix 2 2) s.u s.v (g 0 (omega arith)) (g 4 (omega arith))
    (g 8 (omega arith)))

pub in_order_call : (a : Mat3) (r : Svd3) → length a.«data» ≡ 9 → svd3x3-svd.Post tt (a, tt) (Ok r) (a, tt)
    → InOrder F 3 (last_signed F a.«data») (record { values = r.values; carried = record { u = r.u.«data»; v = r.v.«data» } })
in_order_call a r n p =
    subst
    (λ (q : SvdAnswer). InOrder F 3 (last_signed F a.«data») (record { values = q.values; carried = record { u = q.u.«data»; v = q.v.«data» } }))
    (sym p) (in_order F a.«data» n (sym (ap (λ (q : SvdAnswer). q.code) p)))

pub in_order2 : (f : Format) (a : List Float) → (svd2_of f a).code ≡ 0
    → InOrder f 2 (last2_signed f a) (record { values = (svd2_of f a).values; carried = record { u = (svd2_of f a).u.«data»; v = (svd2_of f a).v.«data» } })
unfolding factors2_of
in_order2 f a e =
    let d = answered2 f a e in
    let r = sides2_of f a in
    let w = factors2_of r in
    let l = (factors2_full r).values in
    let g = at-finite w.values (parts_finite w.values (w.carried.u ++ w.carried.v) d.numbers).0 in
    rw d.answer (two_in_order f r.d1 r.d2 (turn2 r.cl r.sl) (turn2 r.cr r.sr) (λ c h. g c (omega arith)))

pub in_order2_call : (a : Mat2) (r : Svd2) → svd2x2-svd.Post tt (a, tt) (Ok r) (a, tt)
    → InOrder F 2 (last2_signed F a.«data») (record { values = r.values; carried = record { u = r.u.«data»; v = r.v.«data» } })
in_order2_call a r p =
    subst
    (λ (q : Svd2Answer). InOrder F 2 (last2_signed F a.«data») (record { values = q.values; carried = record { u = q.u.«data»; v = q.v.«data» } }))
    (sym p) (in_order2 F a.«data» (sym (ap (λ (q : Svd2Answer). q.code) p)))
