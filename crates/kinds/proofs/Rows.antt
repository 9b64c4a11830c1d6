-- What holds of each row of the table holds of every kind: a number finds its row, or the row that stands for none.
use Rattle.float.proofs.Words.{◌≡◌, true, not, false≢true, List, [], ◌∷◌, ℕ, ◌≤◌, arith, T, eqb}
use Rattle.float.proofs.Choice.{chosen}
use Rattle.kinds.specs.Table.{Kind, kinds, unknown, numbered_in, kind_numbered, count_of_row}

-- P of each row
abbrev EachOf : (Kind → Type 0) → List Kind → Type 0
EachOf P [] = Unit {0}
EachOf P (k ∷ ks) = P k × EachOf P ks

-- the claim G, for which P is to be shown of each row first, one after the other
abbrev pub Given : (Kind → Type 0) → List Kind → Type 0 → Type 0
Given P [] G = G
Given P (k ∷ ks) G = P k → Given P ks G

given : (P : Kind → Type 0) (ks : List Kind) (G : Type 0) → (EachOf P ks → G) → Given P ks G
given P [] G g = g tt
given P (k ∷ ks) G g = λ (p : P k). given P ks G (λ (each : EachOf P ks). g (p, each))

of_row : (P : Kind → Type 0) (n : ℕ) (ks : List Kind) → P unknown → EachOf P ks → P (numbered_in n ks)
of_row P n [] none each = none
of_row P n (k ∷ ks) none each = chosen P (eqb n k.number) k (numbered_in n ks) each.0 (of_row P n ks none each.1)

pub each_kind : (P : Kind → Type 0) → P unknown → Given P kinds ((n : ℕ) → P (kind_numbered n))
each_kind P none = given P kinds ((n : ℕ) → P (kind_numbered n)) (λ (each : EachOf P kinds) (n : ℕ). of_row P n kinds none each)

-- a kind that is known needs no more than the rows
abbrev pub IfKnown : (Kind → Type 0) → Kind → Type 0
IfKnown P k = not (eqb k.number 0) ≡ true → P k

pub each_known : (P : Kind → Type 0) → Given (IfKnown P) kinds ((n : ℕ) → IfKnown P (kind_numbered n))
each_known P = each_kind (IfKnown P) (λ h. absurd (false≢true h))

-- ---- no kind uses more than nine numbers of the nine, nor more than three of the three

pub nine_most : (n : ℕ) → (kind_numbered n).nine ≤ 9
nine_most =
    each_kind (λ (k : Kind). k.nine ≤ 9) (omega arith) (omega arith) (omega arith) (omega arith) (omega arith) (omega arith) (omega arith) (omega arith)
    (omega arith)

pub nine_counts : (n : ℕ) → T (count_of_row (kind_numbered n).nine)
nine_counts = each_kind (λ (k : Kind). T (count_of_row k.nine)) tt tt tt tt tt tt tt tt tt

pub three_most : (n : ℕ) → (kind_numbered n).three ≤ 3
three_most =
    each_kind (λ (k : Kind). k.three ≤ 3) (omega arith) (omega arith) (omega arith) (omega arith) (omega arith) (omega arith) (omega arith) (omega arith)
    (omega arith)
