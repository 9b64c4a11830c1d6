-- The bytes of a record: its head and its three groups of numbers, written one after the other, are the whole.
use Rattle.float.proofs.Words.{◌≡◌, sym, ◌∙◌, List, [], ◌∷◌, ◌++◌, append_assoc, ℕ, ◌≤◌, length, take, take_all, Format}
use Rattle.wire.specs.Bytes.{number_bytes_of}
use Rattle.record.specs.Answer.{record_of}
use Rattle.kinds.specs.Work.{WorkedAnswer}

pub record_of_parts : (f : Format) (event : List ℕ) (kind : ℕ) (w : WorkedAnswer) (l₁ l₂ l₃ l₄ : List ℕ) (i j k n : ℕ)
    → take i l₁ ≡ event ++ (kind ∷ w.code ∷ w.count ∷ w.settled ∷ [])
    → take j l₂ ≡ take i l₁ ++ number_bytes_of f w.values
    → take k l₃ ≡ take j l₂ ++ number_bytes_of f w.left
    → take n l₄ ≡ take k l₃ ++ number_bytes_of f w.right
    → length l₄ ≤ n
    → l₄ ≡ record_of f event kind w
unfolding record_of
record_of_parts f event kind w l₁ l₂ l₃ l₄ i j k n p q r s m = sym (take_all n l₄ m) ∙ (rw (s, r, q, p) (simp append_assoc))
