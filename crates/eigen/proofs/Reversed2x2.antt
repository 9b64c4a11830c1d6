-- Code and mark of a 2x2 matrix and of its negation are the same. Both make the same rotation, which is blind for both or for none; the values of one are those
-- of the other, negated; and the order only moves numbers. So all numbers of one answer are finite exactly where all those of the other are.
use Rattle.std.specs.Prelude.{Result}
use Rattle.float.proofs.Words.{◌≡◌, refl, sym, ap, ◌∙◌, subst₂, Bool, true, false, ◌&&◌, List, [], ◌∷◌, map, length, Float, Format}
use Rattle.float.specs.Width.{F}
use Rattle.float.specs.Sign.{finite, all_finite}
use Rattle.float.proofs.Choice.{chosen}
use Rattle.float.proofs.Finite.{lists_finite}
use Rattle.float.proofs.Judged.{both_called}
use Rattle.float.proofs.Negation.{Rel, same, negation, add_rel, sub_rel, mul_rel, finite_rel}
use Rattle.matrix.specs.Codes.{told}
use Rattle.matrix.specs.Places.{at, negated_of}
use Rattle.matrix.specs.declared.codes.Refusal.{Refusal}
use Rattle.matrix.specs.Symmetric.{Sym2}
use Rattle.matrix.proofs.Tables.{negated-finite}
use Rattle.jacobi.specs.Order.{Ranked, ordered}
use Rattle.jacobi.specs.declared.rotation.Rotation.{Rotation}
use Rattle.jacobi.proofs.Negated.{blind_same, rotation_same}
use Rattle.jacobi.proofs.Moves.{values_finite, columns-finite}
use Rattle.eigen.specs.Eigen2x2.{turn2_of, blind2_of, lower_of, upper_of, not_below, axes_of, solved2, refused2, numbers2_of, answer2_of, end2_of, eigen2_of}
use Rattle.eigen.specs.Eigen2x2.{Eigen2Answer, whole_eigen2}
use Rattle.eigen.specs.EigVals.{whole_eig_vals2, refused_values2, values2_of, values_end2_of, eigvals2_of}
use Rattle.eigen.specs.Ordered.{rotation_axes}
use Rattle.eigen.specs.Reversed2x2.{SameCodeAndMark, SameValuesCodeAndMark}
use Rattle.eigen.specs.declared.eigen2x2.Eigen2.{Eigen2}
use Rattle.eigen.specs.declared.eigen2x2.EigVals2.{EigVals2}
use Rattle.eigen.proofs.Moved.{same_permutation2}
use Rattle.eigen.proofs.Full.{solved_full}
use Rattle.eigen.proofs.eigen2x2.eigen.Reads as eigen
use Rattle.eigen.proofs.eigen2x2.eigvals.Reads as eigvals

-- ---- two values in either order

either_order : (s t : Bool) → s && (t && true) ≡ t && (s && true)
either_order true true = refl
either_order true false = refl
either_order false true = refl
either_order false false = refl

order_made : (g : Float → Float) (r : Rotation) (x y : Float) → all_finite (map g (axes_of r x y).values) ≡ all_finite (map g (x ∷ y ∷ []))
unfolding axes_of ordered all_finite
order_made g r x y =
    chosen (λ (w : Ranked (List Float)). all_finite (map g w.values) ≡ all_finite (map g (x ∷ y ∷ []))) (not_below x y) _ _
    (either_order (finite (g y)) (finite (g x))) refl

-- ---- a matrix a and its negation: the same rotation, and values that are negated

module _ (f : Format) (a : List Float) where
  abbrev minus : List Float
  minus = negated_of 3 a

  turn_same : turn2_of f a ≡ turn2_of f minus
  turn_same = rotation_same f (negation (at a 1)) (negation (at a 0)) (negation (at a 2))

  blind2_same : blind2_of f a ≡ blind2_of f minus
  blind2_same = blind_same f (negation (at a 1)) (negation (at a 0)) (negation (at a 2))

  lower_rel : (r : Rotation) → Rel true (lower_of f r a) (lower_of f r minus)
  lower_rel r = sub_rel f (negation (at a 0)) (mul_rel f (same r.t) (negation (at a 1)))

  upper_rel : (r : Rotation) → Rel true (upper_of f r a) (upper_of f r minus)
  upper_rel r = add_rel f (negation (at a 2)) (mul_rel f (same r.t) (negation (at a 1)))

  -- ---- finite together: the values, the vectors

  solved_values : all_finite (solved2 f a).values ≡ all_finite (solved2 f minus).values
  unfolding all_finite
  solved_values =
      let axes : all_finite (rotation_axes f a).values ≡ all_finite (rotation_axes f minus).values =
      cc (turn_same, finite_rel (lower_rel (turn2_of f a)), finite_rel (upper_rel (turn2_of f a))) in
      sym (values_finite (same_permutation2 f a) refl (solved_full f a).0) ∙ axes ∙ values_finite (same_permutation2 f minus) refl (solved_full f minus).0

  solved_vectors : all_finite (solved2 f a).carried ≡ all_finite (solved2 f minus).carried
  solved_vectors =
      let axes : (rotation_axes f a).carried ≡ (rotation_axes f minus).carried = cc turn_same in
      sym (columns-finite (same_permutation2 f a) refl (solved_full f a).1) ∙ ap all_finite axes
      ∙ columns-finite (same_permutation2 f minus) refl (solved_full f minus).1

  -- and so is what is made of each value by a g that is finite for a number and its negation, or for neither
  module _ (g : Float → Float) (alike : (x y : Float) → Rel true x y → finite (g x) ≡ finite (g y)) where
    solved_made : all_finite (map g (solved2 f a).values) ≡ all_finite (map g (solved2 f minus).values)
    unfolding solved2 all_finite
    solved_made =
        order_made g (turn2_of f a) (lower_of f (turn2_of f a) a) (upper_of f (turn2_of f a) a)
        ∙ (cc (turn_same, alike _ _ (lower_rel (turn2_of f a)), alike _ _ (upper_rel (turn2_of f a))))
        ∙ sym (order_made g (turn2_of f minus) (lower_of f (turn2_of f minus) minus) (upper_of f (turn2_of f minus) minus))

-- ---- both calls, for every matrix of three numbers, finite or not, and in either format

pub reversed2 : (f : Format) (a : List Float) → length a ≡ 3 → SameCodeAndMark (eigen2_of f a) (eigen2_of f (negated_of 3 a))
unfolding eigen2_of end2_of
reversed2 f a n =
    let b = negated_of 3 a in
    let x = solved2 f a in
    let y = solved2 f b in
    both_called SameCodeAndMark (refused2 f) a b (numbers2_of x) (numbers2_of y) (answer2_of (blind2_of f a) x) (answer2_of (blind2_of f b) y)
    (negated-finite 3 a n) (lists_finite x.values y.values x.carried y.carried (solved_values f a) (solved_vectors f a))
    (λ _. record { codes = refl; marks = cc (blind2_same f a) }) (λ k h. record { codes = refl; marks = refl })

pub made_reversed2 : (f : Format) (a : List Float) (g : Float → Float) → ((x y : Float) → Rel true x y → finite (g x) ≡ finite (g y)) → length a ≡ 3
    → all_finite (map g (eigen2_of f a).values) ≡ all_finite (map g (eigen2_of f (negated_of 3 a)).values)
unfolding eigen2_of end2_of
made_reversed2 f a g alike n =
    let b = negated_of 3 a in
    let x = solved2 f a in
    let y = solved2 f b in
    both_called (λ (r q : Eigen2Answer). all_finite (map g r.values) ≡ all_finite (map g q.values)) (refused2 f) a b (numbers2_of x) (numbers2_of y)
    (answer2_of (blind2_of f a) x) (answer2_of (blind2_of f b) y)
    (negated-finite 3 a n) (lists_finite x.values y.values x.carried y.carried (solved_values f a) (solved_vectors f a))
    (λ _. solved_made f a g alike) (λ k h. refl)

pub values_reversed2 : (f : Format) (a : List Float) → length a ≡ 3 → SameValuesCodeAndMark (eigvals2_of f a) (eigvals2_of f (negated_of 3 a))
unfolding eigvals2_of values_end2_of
values_reversed2 f a n =
    let b = negated_of 3 a in
    let x = (solved2 f a).values in
    let y = (solved2 f b).values in
    both_called SameValuesCodeAndMark (refused_values2 f) a b x y (values2_of (blind2_of f a) x) (values2_of (blind2_of f b) y)
    (negated-finite 3 a n) (solved_values f a)
    (λ _. record { codes = refl; marks = cc (blind2_same f a) }) (λ k h. record { codes = refl; marks = refl })

-- ---- the calls: any answers within the promises that the source states

-- A matrix of the source holds three numbers. Here its numbers are a list, so their count is a premise.
pub reversed2_wiring : (a b : Sym2) → length a.«data» ≡ 3 → b.«data» ≡ negated_of 3 a.«data»
    → (r q : Result Eigen2 Refusal) → eigen.Post tt (a, tt) r (a, tt) → eigen.Post tt (b, tt) q (b, tt)
    → SameCodeAndMark (told (refused2 F) whole_eigen2 r) (told (refused2 F) whole_eigen2 q)
reversed2_wiring a b h e r q p s = subst₂ SameCodeAndMark (sym p) (sym (s ∙ ap (eigen2_of F) e)) (reversed2 F a.«data» h)

pub values_reversed2_wiring : (a b : Sym2) → length a.«data» ≡ 3 → b.«data» ≡ negated_of 3 a.«data»
    → (r q : Result EigVals2 Refusal) → eigvals.Post tt (a, tt) r (a, tt) → eigvals.Post tt (b, tt) q (b, tt)
    → SameValuesCodeAndMark (told (refused_values2 F) whole_eig_vals2 r) (told (refused_values2 F) whole_eig_vals2 q)
values_reversed2_wiring a b h e r q p s =
    subst₂ SameValuesCodeAndMark (sym p) (sym (s ∙ ap (eigvals2_of F) e)) (values_reversed2 F a.«data» h)
