-- A refusal is the answer in both ways.
use Rattle.float.proofs.Words.{◌≡◌, rules}
use Rattle.std.specs.Prelude.{Err}
use Rattle.float.specs.Width.{F}
use Rattle.kinds.specs.Read.{asked}
use Rattle.kinds.proofs.BothWays.{refused_either}
use Rattle.kinds.proofs.ways.work.Goals as goal

pub returns-in_err-w : goal.returns-in_err-w
returns-in_err-w c =
    let e : c.from_residual.result ≡ Err c.in_err-w.field-0.0 = search rules in
    rw e
    (refused_either F (asked c.args.a) (asked c.map_or.result) c.power_for-k.result _ _ _ _ c.power_for-k.ensures.value c.map_or.ensures
    (λ e. search rules) (λ x q. search rules) c.in_err-w.ensures)
