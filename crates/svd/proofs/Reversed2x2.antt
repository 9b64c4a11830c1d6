-- Code and mark of a 2x2 matrix and of its negation are the same. Where the hypot of the polar step is not zero, its cosine and sine are negated too,
-- and the symmetrised pair is the same; where it is zero, they are the same, and the pair is negated. Either way the Jacobi rotation is the same, and
-- blind for both or for none. V and the values, which are magnitudes, are the same too, and U differs in signs only. So all numbers of one answer are
-- finite exactly where all those of the other are.
use Rattle.float.proofs.Words.{◌≡◌, refl, sym, ap, ◌∙◌, subst, subst₂, Bool, true, not, List, ℕ, ◌*◌, length, Float, Format, neg, add}
use Rattle.float.proofs.Words.{sub, eq}
use Rattle.std.specs.Prelude.{Result}
use Rattle.float.specs.Width.{F}
use Rattle.float.specs.Constants.{zero_f, one_f}
use Rattle.float.specs.Sign.{magnitude_of, sign_bit_of, all_finite}
use Rattle.float.proofs.Choice.{chosen, both_chosen}
use Rattle.float.proofs.Finite.{lists_finite}
use Rattle.float.proofs.Judged.{both_called}
use Rattle.float.proofs.Negation.{Rel, same, negation, add_rel, neg_rel, sub_rel, mul_rel, div_rel, magnitude_rel, finite_rel}
use Rattle.matrix.specs.Codes.{told}
use Rattle.matrix.specs.Places.{at, negated_of}
use Rattle.matrix.specs.Square.{exchange_of, negate_of, Mat2}
use Rattle.matrix.specs.declared.codes.Refusal.{Refusal}
use Rattle.matrix.proofs.Tables.{negated-finite}
use Rattle.matrix.proofs.Moves.{negate_finite}
use Rattle.jacobi.specs.Rotation.{rotation_of}
use Rattle.jacobi.specs.Order.{Ranked, ordered, descending}
use Rattle.jacobi.specs.Moved.{Moved, ColumnsFollow}
use Rattle.jacobi.specs.declared.rotation.Rotation.{Rotation}
use Rattle.jacobi.proofs.Negated.{blind_same, rotation_same}
use Rattle.jacobi.proofs.Moves.{columns-finite}
use Rattle.svd.specs.Polar.{hypot_of, symmetrised_by, polar_by, polar_of, composed, two_sided_of, blind_sides}
use Rattle.svd.specs.Order.{Factors, signed_column, signed2_of, exchange_both, order2_of}
use Rattle.svd.specs.Svd2x2.{turn2, sides2_of, factors2_of, refused_svd2, numbers2_of, answer2_of, end2_of, svd2_of, Svd2Answer, whole_svd2}
use Rattle.svd.specs.Reversed2x2.{SameCodeAndMark}
use Rattle.svd.specs.declared.polar.Polar.{Polar}
use Rattle.svd.specs.declared.polar.TwoSided.{TwoSided}
use Rattle.svd.specs.declared.svd2x2.Svd2.{Svd2}
use Rattle.svd.proofs.Moved.{same_permutation2}
use Rattle.svd.proofs.Sizes.{signed_full, factors2_full}
use Rattle.svd.proofs.svd2x2.svd.Reads as svd

-- ---- the polar step: cosine and sine are the same or negated, and the symmetrised pair is negated or the same

record PolarAlike (p q : Polar) : Type 0 where
  flipped : Bool
  c : Rel flipped p.c q.c
  s : Rel flipped p.s q.s
  s11 : Rel (not flipped) p.s11 q.s11
  s12 : Rel (not flipped) p.s12 q.s12
  s22 : Rel (not flipped) p.s22 q.s22

hypot_same : {b : Bool} {x x' y y' : Float} (f : Format) → Rel b x x' → Rel b y y' → hypot_of f x y ≡ hypot_of f x' y'
unfolding hypot_of
hypot_same f X Y = cc (magnitude_rel X, magnitude_rel Y)

module _ (f : Format) (app aqp apq aqq : Float) where
  symmetrised_alike : {b : Bool} {c c' s s' : Float} → Rel b c c' → Rel b s s'
      → PolarAlike (symmetrised_by f app aqp apq aqq c s) (symmetrised_by f (neg app) (neg aqp) (neg apq) (neg aqq) c' s')
  symmetrised_alike {b} C S = record {
    flipped = b;
    c = C;
    s = S;
    s11 = sub_rel f (mul_rel f (negation app) C) (mul_rel f (negation aqp) S);
    s12 = sub_rel f (mul_rel f (negation apq) C) (mul_rel f (negation aqq) S);
    s22 = add_rel f (mul_rel f (negation aqq) C) (mul_rel f (negation apq) S);
  }

  polar_by_alike : (d : Float) {x x' y y' : Float} → Rel true x x' → Rel true y y'
      → PolarAlike (polar_by f app aqp apq aqq x y d) (polar_by f (neg app) (neg aqp) (neg apq) (neg aqq) x' y' d)
  unfolding polar_by
  polar_by_alike d X Y =
      both_chosen PolarAlike (eq d (zero_f f)) _ _ _ _ (λ _. symmetrised_alike (same (one_f f)) (same (zero_f f)))
      (λ _. symmetrised_alike (div_rel f X d) (div_rel f (neg_rel Y) d))

  polar_alike : PolarAlike (polar_of f app aqp apq aqq) (polar_of f (neg app) (neg aqp) (neg apq) (neg aqq))
  unfolding polar_of
  polar_alike =
      let X = add_rel f (negation app) (negation aqq) in
      let Y = sub_rel f (negation aqp) (negation apq) in
      rw (← hypot_same f X Y) (polar_by_alike (hypot_of f (add f app aqq) (sub f aqp apq)) X Y)

-- ---- the two-sided rotation

record SidesAlike (f : Format) (r q : TwoSided) : Type 0 where
  left : all_finite (turn2 r.cl r.sl) ≡ all_finite (turn2 q.cl q.sl)
  right : turn2 r.cr r.sr ≡ turn2 q.cr q.sr
  first : magnitude_of r.d1 ≡ magnitude_of q.d1
  second : magnitude_of r.d2 ≡ magnitude_of q.d2
  blind : blind_sides f r ≡ blind_sides f q

composed_alike : (f : Format) {p q : Polar} (j : Rotation) → PolarAlike p q → SidesAlike f (composed f p j) (composed f q j)
unfolding all_finite
composed_alike f j h =
    let cl = sub_rel f (mul_rel f h.c (same j.c)) (mul_rel f h.s (same j.s)) in
    let sl = add_rel f (mul_rel f h.c (same j.s)) (mul_rel f h.s (same j.c)) in
    let m = mul_rel f (same j.t) h.s12 in
    record {
      left = cc (finite_rel cl, finite_rel sl, finite_rel (neg_rel sl));
      right = refl;
      first = magnitude_rel (sub_rel f h.s11 m);
      second = magnitude_rel (add_rel f h.s22 m);
      blind = blind_same f h.s12 h.s11 h.s22;
    }

sides_alike : (f : Format) (a : List Float) → SidesAlike f (sides2_of f a) (sides2_of f (negated_of 4 a))
unfolding two_sided_of
sides_alike f a =
    let p = polar_of f (at a 0) (at a 1) (at a 2) (at a 3) in
    let q = polar_of f (neg (at a 0)) (neg (at a 1)) (neg (at a 2)) (neg (at a 3)) in
    let h = polar_alike f (at a 0) (at a 1) (at a 2) (at a 3) in
    let j = rotation_of f p.s12 p.s11 p.s22 in
    subst (λ (k : Rotation). SidesAlike f (composed f p j) (composed f q k)) (rotation_same f h.s12 h.s11 h.s22) (composed_alike f j h)

-- ---- V and the values: the order looks at the values alone, and exchanges the same columns

abbrev right_of : Factors → Ranked (List Float)
right_of w = record { values = w.values; carried = w.carried.v }

right_apart : (w : Factors) → right_of (ordered 2 descending (exchange_both 2) 0 1 w) ≡ ordered 2 descending (exchange_of 2) 0 1 (right_of w)
unfolding ordered
right_apart w =
    both_chosen (λ (w : Factors) (z : Ranked (List Float)). right_of w ≡ z) (descending (at w.values 0) (at w.values 1)) _ _ _ _ (λ _. refl) (λ _. refl)

right_same : {f : Format} {r q : TwoSided} → SidesAlike f r q → right_of (factors2_of r) ≡ right_of (factors2_of q)
unfolding factors2_of order2_of
right_same h =
    right_apart _ ∙ ap (ordered 2 descending (exchange_of 2) 0 1) (cc (h.first, h.second, h.right)) ∙ sym (right_apart _)

-- ---- U: signs change no number's being finite, and the order only exchanges its columns

signed_finite : (n i : ℕ) (x : Float) (u : List Float) → length u ≡ n * n → all_finite (signed_column n i x u) ≡ all_finite u
unfolding signed_column
signed_finite n i x u e = chosen (λ (v : List Float). all_finite v ≡ all_finite u) (sign_bit_of x) (negate_of n i u) u (negate_finite n i u e) refl

abbrev left_of : Factors → Ranked (List Float)
left_of w = record { values = w.values; carried = w.carried.u }

left-finite : (r : TwoSided) → all_finite (factors2_of r).carried.u ≡ all_finite (turn2 r.cl r.sl)
unfolding factors2_of
left-finite r =
    let u = turn2 r.cl r.sl in
    let v = turn2 r.cr r.sr in
    let m = same_permutation2 r.d1 r.d2 u v in
    let moved : Moved 2 (ColumnsFollow 2) (left_of (signed2_of r.d1 r.d2 u v)) (left_of (factors2_of r)) =
    record { by = m.by; values = m.values; carried = m.carried.0 } in
    let first = signed_full 2 0 r.d1 u refl in
    sym (columns-finite moved (signed_full 2 1 r.d2 _ first) (factors2_full r).u)
    ∙ signed_finite 2 1 r.d2 _ first ∙ signed_finite 2 0 r.d1 u refl

-- ---- the whole call

numbers_alike : {f : Format} (r q : TwoSided) → SidesAlike f r q → all_finite (numbers2_of (factors2_of r)) ≡ all_finite (numbers2_of (factors2_of q))
numbers_alike r q h =
    let w = factors2_of r in
    let z = factors2_of q in
    let values = ap (λ (x : Ranked (List Float)). all_finite x.values) (right_same h) in
    let left = left-finite r ∙ h.left ∙ sym (left-finite q) in
    let right = ap (λ (x : Ranked (List Float)). all_finite x.carried) (right_same h) in
    lists_finite w.values z.values _ _ values (lists_finite w.carried.u z.carried.u w.carried.v z.carried.v left right)

-- for every matrix of four numbers, finite or not, and in either format
pub reversed2 : (f : Format) (a : List Float) → length a ≡ 4 → SameCodeAndMark (svd2_of f a) (svd2_of f (negated_of 4 a))
unfolding svd2_of end2_of
reversed2 f a n =
    let b = negated_of 4 a in
    let r = sides2_of f a in
    let q = sides2_of f b in
    let x = factors2_of r in
    let y = factors2_of q in
    let h = sides_alike f a in
    both_called SameCodeAndMark (refused_svd2 f) a b (numbers2_of x) (numbers2_of y) (answer2_of (blind_sides f r) x) (answer2_of (blind_sides f q) y)
    (negated-finite 4 a n) (numbers_alike r q h)
    (λ _. record { codes = refl; marks = cc h.blind }) (λ k l. record { codes = refl; marks = refl })

-- and the values are the same bits, refused or not
pub same_values2 : (f : Format) (a : List Float) → length a ≡ 4 → (svd2_of f a).values ≡ (svd2_of f (negated_of 4 a)).values
unfolding svd2_of end2_of
same_values2 f a n =
    let b = negated_of 4 a in
    let r = sides2_of f a in
    let q = sides2_of f b in
    let x = factors2_of r in
    let y = factors2_of q in
    let h = sides_alike f a in
    both_called (λ (r q : Svd2Answer). r.values ≡ q.values) (refused_svd2 f) a b (numbers2_of x) (numbers2_of y) (answer2_of (blind_sides f r) x)
    (answer2_of (blind_sides f q) y) (negated-finite 4 a n) (numbers_alike r q h)
    (λ _. ap (λ (w : Ranked (List Float)). w.values) (right_same h)) (λ k l. refl)

-- ---- the call: any answers within the promise that the source states

-- A matrix of the source holds four numbers. Here its numbers are a list, so their count is a premise.
pub reversed2_wiring : (a b : Mat2) → length a.«data» ≡ 4 → b.«data» ≡ negated_of 4 a.«data»
    → (r q : Result Svd2 Refusal) → svd.Post tt (a, tt) r (a, tt) → svd.Post tt (b, tt) q (b, tt)
    → SameCodeAndMark (told (refused_svd2 F) whole_svd2 r) (told (refused_svd2 F) whole_svd2 q)
reversed2_wiring a b h e r q p s = subst₂ SameCodeAndMark (sym p) (sym (s ∙ ap (svd2_of F) e)) (reversed2 F a.«data» h)
