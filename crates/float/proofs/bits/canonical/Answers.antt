-- The logic has one NaN: whichever comes in, it is the one that goes out.
use Rattle.float.proofs.Words.{sym, ◌∙◌}
use Rattle.float.proofs.Patterns.{only_nan}
use Rattle.float.proofs.bits.canonical.Goals as goal

pub returns-then-is_nan : goal.returns-then-is_nan
returns-then-is_nan c = c.not_a_number.ensures ∙ sym (only_nan _ (sym c.is_nan.ensures ∙ c.if-is_nan.true))
