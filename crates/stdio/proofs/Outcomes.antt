-- A call that moved bytes answers their number.
use Rattle.float.proofs.Words.{◌≡◌, refl, false, ℕ, zero, suc, ◌<◌, min, arith, pos}
use Rattle.stdio.specs.declared.Outcome.TheVariants.{Bytes}
use Rattle.stdio.specs.Calls.{outcome_of}

pub counted : (n most : ℕ) → 0 < n → outcome_of (pos n) most false ≡ Bytes (min n most)
unfolding outcome_of
counted zero most h = absurd (omega arith)
counted (suc k) most h = refl
