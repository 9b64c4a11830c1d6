-- The one way in which a call is refused for a number that is not finite. Definitions only.
use Rattle.std.specs.Prelude.{ℕ, List, Float}
use Rattle.float.specs.Choice.{pick}
use Rattle.float.specs.Sign.{all_finite}

-- r, or the refusal with k where one of the numbers xs is not finite
unfoldable pub judged : {A : Type 0} → (ℕ → A) → ℕ → List Float → A → A
judged refuse k xs r = pick (all_finite xs) r (refuse k)

-- 5 where a number that the call uses is not finite, 7 where one that it worked out is not, and else the answer r
abbrev pub judged_call : {A : Type 0} → (ℕ → A) → List Float → List Float → A → A
judged_call refuse used made r = judged refuse 5 used (judged refuse 7 made r)
