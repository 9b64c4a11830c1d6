-- One thing holds exactly when another does, or exactly one of three tests. Definitions only.
use Rattle.std.specs.Prelude.{◌≡◌, Bool, true, false, ◌⊎◌}

abbrev pub Exactly : Type 0 → Type 0 → Type 0
Exactly P Q = (P → Q) × (Q → P)

abbrev pub OneOfThree : Bool → Bool → Bool → Type 0
OneOfThree a b c =
    ((a ≡ true) × (b ≡ false) × (c ≡ false)) ⊎ (((a ≡ false) × (b ≡ true) × (c ≡ false)) ⊎ ((a ≡ false) × (b ≡ false) × (c ≡ true)))
