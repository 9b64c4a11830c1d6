-- Of three finite numbers `largest_of` takes the largest, and the first of equals: finite floats compare as their keys do, which are natural numbers.
use Rattle.float.proofs.Words.{◌≡◌, refl, Bool, true, false, ℕ, ◌≤◌, ◌<◌, arith, Float, lt, is_nan}
use Rattle.float.specs.Choice.{pick}
use Rattle.float.specs.Exactly.{Exactly}
use Rattle.float.specs.Sign.{finite}
use Rattle.float.proofs.Keys.{key, Within, key_below, key-not_below, below_of_keys, not_below_of_keys, keyed}
use Rattle.float.proofs.Under.{under, not_above}
use Rattle.jacobi.specs.Pairs.{larger_pair, largest_of}
use Rattle.jacobi.specs.Largest.{size_at, Earlier, Largest}
use Rattle.jacobi.specs.declared.pairs.Pair.{Pair}
use Rattle.jacobi.specs.declared.pairs.Pair.TheVariants.{P12, P13, P23}
use Rattle.jacobi.specs.declared.pairs.OffDiag.{OffDiag}

-- what holds of each pair
pub by_pair : (P : Pair → Type 0) → P P12 → P P13 → P P23 → (p : Pair) → P p
by_pair P a b c P12 = a
by_pair P a b c P13 = b
by_pair P a b c P23 = c

-- ---- the running maximum

module _ (x y z : Float) where
  abbrev is12 : OffDiag
  is12 = record { pair = P12; size = x }

  abbrev is13 : OffDiag
  is13 = record { pair = P13; size = y }

  abbrev is23 : OffDiag
  is23 = record { pair = P23; size = z }

  -- the second comparison is with y or with x, by the outcome of the first
  second : (t : Bool) → larger_pair (pick t is13 is12) is23 ≡ pick t (pick (lt y z) is23 is13) (pick (lt x z) is23 is12)
  second true = refl
  second false = refl

  module _ (L K : ℕ) (X : Within L K x) (Y : Within L K y) (Z : Within L K z) where
    -- by the order of the keys
    at12 : key L K y ≤ key L K x → key L K z ≤ key L K x → Largest x y z is12
    at12 a b = record {
      own = refl;
      most = by_pair (λ p. lt x (size_at p x y z) ≡ false) (not_below_of_keys L K x x X X (omega arith)) (not_below_of_keys L K x y X Y a)
          (not_below_of_keys L K x z X Z b);
      first = by_pair (λ p. Earlier p P12 → lt (size_at p x y z) x ≡ true) (λ h. absurd (omega arith)) (λ h. absurd (omega arith)) (λ h. absurd (omega arith));
    }

    at13 : key L K x < key L K y → key L K z ≤ key L K y → Largest x y z is13
    at13 a b = record {
      own = refl;
      most = by_pair (λ p. lt y (size_at p x y z) ≡ false) (not_below_of_keys L K y x Y X (omega arith)) (not_below_of_keys L K y y Y Y (omega arith))
          (not_below_of_keys L K y z Y Z b);
      first = by_pair (λ p. Earlier p P13 → lt (size_at p x y z) y ≡ true) (λ h. below_of_keys L K x y X Y a) (λ h. absurd (omega arith))
          (λ h. absurd (omega arith));
    }

    at23 : key L K x < key L K z → key L K y < key L K z → Largest x y z is23
    at23 a b = record {
      own = refl;
      most = by_pair (λ p. lt z (size_at p x y z) ≡ false) (not_below_of_keys L K z x Z X (omega arith)) (not_below_of_keys L K z y Z Y (omega arith))
          (not_below_of_keys L K z z Z Z (omega arith));
      first = by_pair (λ p. Earlier p P23 → lt (size_at p x y z) z ≡ true) (λ h. below_of_keys L K x z X Z a) (λ h. below_of_keys L K y z Y Z b)
          (λ h. absurd (omega arith));
    }

    -- t, u and v are the outcomes of the comparisons
    by_tests : (t u v : Bool) → lt x y ≡ t → lt y z ≡ u → lt x z ≡ v → Largest x y z (pick t (pick u is23 is13) (pick v is23 is12))
    by_tests true true v e f g =
        let b = key_below L K y z Y Z f in at23 (omega (arith, key_below L K x y X Y e)) b
    by_tests true false v e f g = at13 (key_below L K x y X Y e) (key-not_below L K y z Y Z f)
    by_tests false u true e f g =
        let b = key_below L K x z X Z g in at23 b (omega (arith, key-not_below L K x y X Y e))
    by_tests false u false e f g = at12 (key-not_below L K x y X Y e) (key-not_below L K x z X Z g)

  pub largest : finite x ≡ true → finite y ≡ true → finite z ≡ true → Largest x y z (largest_of x y z)
  unfolding largest_of
  largest p q r = let g = keyed x y z p q r in rw (second (lt x y)) (by_tests g.L g.K g.one g.two g.three _ _ _ refl refl refl)

  -- ---- it is under a finite l exactly where all three are: one that was passed over is not above it

  module _ (l : Float) (s : finite l ≡ true) (m : is_nan y ≡ false) (n : is_nan z ≡ false) where
    abbrev AllUnder : Type 0
    AllUnder = (o : Pair) → lt (size_at o x y z) l ≡ true

    each : lt x l ≡ true → lt y l ≡ true → lt z l ≡ true → AllUnder
    each = by_pair (λ o. lt (size_at o x y z) l ≡ true)

    under_by : (t u v : Bool) → lt x y ≡ t → lt y z ≡ u → lt x z ≡ v → Exactly (lt (pick t (pick u is23 is13) (pick v is23 is12)).size l ≡ true) AllUnder
    under_by true true v e f g = ((λ h. let b = under y z l s f h in each (under x y l s e b) b h), (λ h. h P23))
    under_by true false v e f g = ((λ h. each (under x y l s e h) h (not_above y z l s n f h)), (λ h. h P13))
    under_by false u true e f g = ((λ h. let a = under x z l s g h in each a (not_above x y l s m e a) h), (λ h. h P23))
    under_by false u false e f g = ((λ h. each h (not_above x y l s m e h) (not_above x z l s n g h)), (λ h. h P12))

    pub all_under : Exactly (lt (largest_of x y z).size l ≡ true) AllUnder
    unfolding largest_of
    all_under = rw (second (lt x y)) (under_by _ _ _ refl refl refl)

-- the same of the sizes of all pairs
pub sizes_under : (size : Pair → Float) (l : Float) → finite l ≡ true → is_nan (size P13) ≡ false → is_nan (size P23) ≡ false
    → Exactly (lt (largest_of (size P12) (size P13) (size P23)).size l ≡ true) ((o : Pair) → lt (size o) l ≡ true)
sizes_under size l s m n =
    let u = all_under (size P12) (size P13) (size P23) l s m n in (
      (λ h. by_pair (λ o. lt (size o) l ≡ true) (u.0 h P12) (u.0 h P13) (u.0 h P23)),
      (λ h. u.1 (by_pair (λ o. lt (size_at o (size P12) (size P13) (size P23)) l ≡ true) (h P12) (h P13) (h P23))),
    )
