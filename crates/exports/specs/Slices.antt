-- What an entry on slices of doubles answers: 2 where the lent one has a wrong length, else 1 where an input has; both leave the lent one as it was.
-- Definitions only.
use Rattle.std.specs.Prelude.{◌≡◌, ◌≢◌, List, ℕ, leb, eqb, length, Float, Result, MatchResult}
use Rattle.float.specs.Choice.{pick}
use Rattle.matrix.specs.Answer.{Answer, refused}
use Rattle.matrix.specs.declared.codes.Refusal.{Refusal}
use Rattle.matrix.specs.declared.codes.Refusal.TheVariants.{InputLength}

-- out must have n places
abbrev pub into : ℕ → List Float → Answer (List Float) → Answer (List Float)
into n out r = pick (eqb (length out) n) r (refused 2 out)

-- or n places or more
abbrev pub into_first : ℕ → List Float → Answer (List Float) → Answer (List Float)
into_first n out r = pick (leb n (length out)) r (refused 2 out)

-- an input must have n numbers
abbrev pub given : ℕ → List Float → List Float → Answer (List Float) → Answer (List Float)
given n a out r = pick (eqb (length a) n) r (refused 1 out)

-- the numbers of an input that must have n
abbrev pub Read : ℕ → List Float → Result (List Float) Refusal → Type 0
Read n a r = MatchResult r (λ (numbers : List Float). (length a ≡ n) × (numbers ≡ a)) (λ (e : Refusal). (length a ≢ n) × (e ≡ InputLength))
