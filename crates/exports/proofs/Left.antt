-- A promise that names its answer, and what it leaves in each of two places, leaves no other.
use Rattle.float.proofs.Words.{◌≡◌, sym, ◌∙◌}
use Rattle.float.specs.OneAnswer.{OneOutcome}

pub all_named : {R S L P : Type 0} (x : R) (l : L) (p : P) (left : S → L) (place : S → P)
    → OneOutcome {L = L × P} (λ (r : R) (s : S). (r ≡ x) × (left s ≡ l) × (place s ≡ p)) (λ (s : S). (left s, place s))
all_named x l p left place r q s t u v = (u.0 ∙ sym v.0, rw (u.1 ∙ sym v.1, u.2 ∙ sym v.2))
