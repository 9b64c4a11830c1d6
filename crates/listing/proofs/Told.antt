-- The answer of the call is known by what is told of it.
use Rattle.float.proofs.Words.{◌≡◌, refl, sym, ap, ◌∙◌, List, ℕ}
use Rattle.std.specs.Prelude.{Result}
use Rattle.float.specs.OneAnswer.{OneOutcome}
use Rattle.matrix.specs.declared.codes.Refusal.{Refusal}
use Rattle.matrix.proofs.Refusals.{told_by_code}
use Rattle.listing.specs.Page.{Listed, Written, refused_with, listed_of, Wrote}

one_told : (r q : Result ℕ Refusal) → listed_of r ≡ listed_of q → r ≡ q
one_told =
    told_by_code (λ (l : Listed). l.code) refused_with (λ (n : ℕ). record { code = 0; size = n }) (λ k. refl) (λ n. refl)
    (λ n m e. ap (λ (l : Listed). l.size) e)

pub one_listed : {S : Type 0} (w : Written) (left : S → List ℕ) → OneOutcome (λ (r : Result ℕ Refusal) (s : S). Wrote w (listed_of r) (left s)) left
one_listed w left r q s t p u = (one_told r q (p.0 ∙ sym u.0), p.1 ∙ sym u.1)
