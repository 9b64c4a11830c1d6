-- A call's answer is known by its code.
use Rattle.float.proofs.Words.{◌≡◌, sym, ◌∙◌, ℕ}
use Rattle.std.specs.Prelude.{Result}
use Rattle.float.specs.OneAnswer.{OneOutcome}
use Rattle.matrix.specs.Codes.{code_of}
use Rattle.matrix.specs.declared.codes.Refusal.{Refusal}
use Rattle.matrix.proofs.Refusals.{code_of_one}

-- of a promise that names the code, and what a call leaves
pub one_coded : {S L : Type 0} (k : ℕ) (l : L) (left : S → L) → OneOutcome (λ (r : Result (Unit {0}) Refusal) (s : S). (code_of r ≡ k) × (left s ≡ l)) left
one_coded k l left r q s t p u = (code_of_one (p.0 ∙ sym u.0), p.1 ∙ sym u.1)
