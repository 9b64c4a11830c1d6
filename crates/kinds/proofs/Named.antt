-- A kind read from a byte has that byte for its number, and a way read from one has that byte.
use Rattle.float.proofs.Words.{◌≡◌, refl, sym, ap, ◌∙◌, Bool, true, false, not, ◌&&◌, List, [], ◌∷◌, ℕ, arith, eqb, leb, leb-true, eqb-true}
use Rattle.float.proofs.Words.{eqb-false}
use Rattle.float.proofs.Words.{◌⊎◌, inl, inr}
use Rattle.std.specs.Prelude.{Result, Ok, Err}
use Rattle.float.specs.Choice.{pick}
use Rattle.float.proofs.Choice.{by_eqb}
use Rattle.matrix.specs.declared.codes.Refusal.{Refusal}
use Rattle.matrix.specs.declared.codes.Refusal.TheVariants.{Reserved}
use Rattle.kinds.specs.Table.{Kind, kinds, numbered_in, kind_numbered, known_kind, known_way}
use Rattle.kinds.specs.Read.{number_of_kind, row_of, way_of_byte, byte_of_way}
use Rattle.kinds.specs.declared.table.Kind.{Kind as NamedKind}
use Rattle.kinds.specs.declared.table.Kind.TheVariants.{Eigen2x2, Eigen3x3, Svd2x2, Svd3x3, Factor2x2, Factor3x3, Solve2x2, Solve3x3}
use Rattle.kinds.specs.declared.table.Way.{Way}
use Rattle.kinds.specs.declared.table.Way.TheVariants.{Scaled, AsGiven}

pub row_number : (k : NamedKind) → (row_of k).number ≡ number_of_kind k
row_number Eigen2x2 = refl
row_number Eigen3x3 = refl
row_number Svd2x2 = refl
row_number Svd3x3 = refl
row_number Factor2x2 = refl
row_number Factor3x3 = refl
row_number Solve2x2 = refl
row_number Solve3x3 = refl

pub row_known : (k : NamedKind) → eqb (row_of k).number 0 ≡ false
row_known Eigen2x2 = refl
row_known Eigen3x3 = refl
row_known Svd2x2 = refl
row_known Svd3x3 = refl
row_known Factor2x2 = refl
row_known Factor3x3 = refl
row_known Solve2x2 = refl
row_known Solve3x3 = refl

own_or_none : (n : ℕ) (ks : List Kind) → ((numbered_in n ks).number ≡ n) ⊎ ((numbered_in n ks).number ≡ 0)
own_or_none n [] = inr refl
own_or_none n (k ∷ ks) = by_eqb (λ (r : Kind). (r.number ≡ n) ⊎ (r.number ≡ 0)) n k.number k (numbered_in n ks) (λ e. inl (sym e)) (λ _. own_or_none n ks)

pub number_read : (k : NamedKind) (n : ℕ) → kind_numbered n ≡ row_of k → number_of_kind k ≡ n
number_read k n e = by (own_or_none n kinds)
  where
    same : (kind_numbered n).number ≡ number_of_kind k
    same = ap (λ (r : Kind). r.number) e ∙ row_number k

    by : (((kind_numbered n).number ≡ n) ⊎ ((kind_numbered n).number ≡ 0)) → number_of_kind k ≡ n
    by (inl h) = sym same ∙ h
    by (inr h) = absurd (eqb-false (row_of k).number 0 (row_known k) (row_number k ∙ sym same ∙ h))

pub kind_known : (k : NamedKind) (n : ℕ) → kind_numbered n ≡ row_of k → known_kind n ≡ true
kind_known k n e = ap (λ (r : Kind). not (eqb r.number 0)) e ∙ (rw (row_known k))

-- ---- ways: t says whether the kind scales

abbrev read : Bool → ℕ → Result Way Refusal
read t b = pick (leb b (pick t 1 0)) (Ok (pick (t && eqb b 0) Scaled AsGiven)) (Err Reserved)

abbrev back : Bool → Way → ℕ
back t Scaled = 0
back t AsGiven = pick t 1 0

read_back : (t : Bool) (b : ℕ) → leb b (pick t 1 0) ≡ true → back t (pick (t && eqb b 0) Scaled AsGiven) ≡ b
read_back false b h = let l = leb-true b 0 h in omega arith
read_back true b h = by (eqb b 0) refl
  where
    by : (u : Bool) → eqb b 0 ≡ u → back true (pick (eqb b 0) Scaled AsGiven) ≡ b
    by true e = let z = eqb-true b 0 e in rw e (sym z)
    by false e = let l = leb-true b 1 h in let z : b ≡ 0 → ⊥ = eqb-false b 0 e in rw e (omega (arith, z))

read-ok : (t : Bool) (b : ℕ) (w : Way) → read t b ≡ Ok w → (leb b (pick t 1 0) ≡ true) × (back t w ≡ b)
read-ok t b w e = by (leb b (pick t 1 0)) refl
  where
    by : (u : Bool) → leb b (pick t 1 0) ≡ u → (leb b (pick t 1 0) ≡ true) × (back t w ≡ b)
    by false h = let d : Err Reserved ≡ Ok w = (rw h at e) in absurd (cc)
    by true h = let d : Ok (pick (t && eqb b 0) Scaled AsGiven) ≡ Ok w = (rw h at e) in
        let m : w ≡ pick (t && eqb b 0) Scaled AsGiven = cc in
        (h, (rw m (read_back t b h)))

read_err : (t : Bool) (b : ℕ) (r : Refusal) → read t b ≡ Err r → (leb b (pick t 1 0) ≡ false) × (r ≡ Reserved)
read_err t b r e = by (leb b (pick t 1 0)) refl
  where
    by : (u : Bool) → leb b (pick t 1 0) ≡ u → (leb b (pick t 1 0) ≡ false) × (r ≡ Reserved)
    by false h = let d : Err Reserved ≡ Err r = (rw h at e) in (h, cc)
    by true h = let d : Ok (pick (t && eqb b 0) Scaled AsGiven) ≡ Err r = (rw h at e) in absurd (cc)

module _ (k : NamedKind) (n b : ℕ) (e : number_of_kind k ≡ n) where
  scales_alike : (kind_numbered (row_of k).number).scales ≡ (row_of k).scales
  scales_alike = ap (λ (m : ℕ). (kind_numbered m).scales) (row_number k)

  read_alike : way_of_byte (row_of k) b ≡ read (row_of k).scales b
  read_alike = ap (λ (t : Bool). pick (leb b (pick t 1 0)) (Ok (pick ((row_of k).scales && eqb b 0) Scaled AsGiven)) (Err Reserved)) scales_alike

  known_alike : known_way n b ≡ leb b (pick (row_of k).scales 1 0)
  known_alike = ap (λ (m : ℕ). known_way m b) (sym e)

  pub way_read : (w : Way) → way_of_byte (row_of k) b ≡ Ok w → (known_way n b ≡ true) × (byte_of_way (row_of k) w ≡ b)
  way_read w h =
      let r = read-ok (row_of k).scales b w (sym read_alike ∙ h) in
      (known_alike ∙ r.0, byte w r.1)
    where
      byte : (w : Way) → back (row_of k).scales w ≡ b → byte_of_way (row_of k) w ≡ b
      byte Scaled q = q
      byte AsGiven q = q

  pub way_refused : (r : Refusal) → way_of_byte (row_of k) b ≡ Err r → (known_way n b ≡ false) × (r ≡ Reserved)
  way_refused r h = let q = read_err (row_of k).scales b r (sym read_alike ∙ h) in (known_alike ∙ q.0, q.1)
