-- Any two answers within the promise of a public function are equal.
use Rattle.float.proofs.Words.{sym, ap, ◌∙◌, Bool, List, ℕ, Float}
use Rattle.std.specs.Prelude.{Result, Ok, Err}
use Rattle.float.specs.OneAnswer.{OneAnswer}
use Rattle.float.proofs.OneAnswer.{named}
use Rattle.matrix.specs.declared.codes.Refusal.{Refusal}
use Rattle.cholesky.specs.declared.answers.FactorError.{FactorError}
use Rattle.eigen.specs.declared.eigen2x2.Eigen2.{Eigen2}
use Rattle.eigen.specs.declared.eigen3x3.Eigen3.{Eigen3}
use Rattle.svd.specs.declared.svd2x2.Svd2.{Svd2}
use Rattle.svd.specs.declared.svd3x3.Svd3.{Svd3}
use Rattle.kinds.specs.declared.table.Kind.{Kind}
use Rattle.kinds.specs.declared.table.Numbered.{Numbered}
use Rattle.kinds.specs.declared.table.Row.{Row}
use Rattle.kinds.specs.declared.table.Way.{Way}
use Rattle.kinds.specs.declared.work.Asked.{Asked}
use Rattle.kinds.specs.declared.work.Worked.{Worked}
use Rattle.kinds.specs.declared.work.Refused.{Refused}
use Rattle.kinds.proofs.Told.{row_one, row_some, numbered_one, whole_worked_one, with_code_one, worked_one}
use Rattle.kinds.proofs.table.U8FromKind.from.Reads as u8-from
use Rattle.kinds.proofs.table.KindTryFromU8.try_from.Reads as try-from
use Rattle.kinds.proofs.table.kind_numbered.Reads as kind-numbered
use Rattle.kinds.proofs.table.is_known.Reads as is-known
use Rattle.kinds.proofs.table.has_way.Reads as has-way
use Rattle.kinds.proofs.coded.refused.Reads as refused
use Rattle.kinds.proofs.work.RefusedFromRefusal.from.Reads as refused-from-refusal
use Rattle.kinds.proofs.work.RefusedFromFactorError.from.Reads as refused-from-factor-error
use Rattle.kinds.proofs.work.WorkedFromEigen2.from.Reads as worked-from-eigen2
use Rattle.kinds.proofs.work.WorkedFromEigen3.from.Reads as worked-from-eigen3
use Rattle.kinds.proofs.work.WorkedFromSvd2.from.Reads as worked-from-svd2
use Rattle.kinds.proofs.work.WorkedFromSvd3.from.Reads as worked-from-svd3
use Rattle.kinds.proofs.table.Kind.row.Reads as row
use Rattle.kinds.proofs.table.Kind.way.Reads as way
use Rattle.kinds.proofs.ways.work.Reads as work
use Rattle.kinds.proofs.ways.work_numbered.Reads as work-numbered

pub one_u8_from : (k : Kind) → OneAnswer (λ (r : ℕ). u8-from.Post tt (k, tt) r (k, tt))
one_u8_from k = named _

pub one_try_from : (n : ℕ) → OneAnswer (λ (r : Result Kind Refusal). try-from.Post tt (n, tt) r (n, tt))
one_try_from n (Ok x) (Ok y) p q = ap Ok (row_one x y (sym p ∙ q))
one_try_from n (Ok x) (Err e) p q = absurd (row_some x (sym p ∙ q.1))
one_try_from n (Err e) (Ok y) p q = absurd (row_some y (sym q ∙ p.1))
one_try_from n (Err e) (Err d) p q = ap Err (p.0 ∙ sym q.0)

pub one_refused_from_refusal : (e : Refusal) → OneAnswer (λ (r : Refused). refused-from-refusal.Post tt (e, tt) r (e, tt))
one_refused_from_refusal e = named _

pub one_refused_from_factor_error : (e : FactorError) → OneAnswer (λ (r : Refused). refused-from-factor-error.Post tt (e, tt) r (e, tt))
one_refused_from_factor_error e = named _

pub one_worked_from_eigen2 : (x : Eigen2) → OneAnswer (λ (w : Worked). worked-from-eigen2.Post tt (x, tt) w (x, tt))
one_worked_from_eigen2 x v w p q = whole_worked_one v w (p ∙ sym q)

pub one_worked_from_eigen3 : (x : Eigen3) → OneAnswer (λ (w : Worked). worked-from-eigen3.Post tt (x, tt) w (x, tt))
one_worked_from_eigen3 x v w p q = whole_worked_one v w (p ∙ sym q)

pub one_worked_from_svd2 : (x : Svd2) → OneAnswer (λ (w : Worked). worked-from-svd2.Post tt (x, tt) w (x, tt))
one_worked_from_svd2 x v w p q = whole_worked_one v w (p ∙ sym q)

pub one_worked_from_svd3 : (x : Svd3) → OneAnswer (λ (w : Worked). worked-from-svd3.Post tt (x, tt) w (x, tt))
one_worked_from_svd3 x v w p q = whole_worked_one v w (p ∙ sym q)

pub one_row : (k : Kind) → OneAnswer (λ (r : Row). row.Post tt (k, tt) r (k, tt))
one_row k = named _

pub one_way : (k : Kind) (byte : ℕ) → OneAnswer (λ (r : Result Way Refusal). way.Post tt (k, (byte, tt)) r (k, (byte, tt)))
one_way k byte = named _

pub one_kind_numbered : (n : ℕ) → OneAnswer (λ (r : Numbered). kind-numbered.Post tt (n, tt) r (n, tt))
one_kind_numbered n r q p s = numbered_one r q (p ∙ sym s)

pub one_is_known : (n : ℕ) → OneAnswer (λ (r : Bool). is-known.Post tt (n, tt) r (n, tt))
one_is_known n = named _

pub one_has_way : (n way : ℕ) → OneAnswer (λ (r : Bool). has-way.Post tt (n, (way, tt)) r (n, (way, tt)))
one_has_way n way = named _

pub one_refused : (code pivot : ℕ) → OneAnswer (λ (r : ℕ × Worked). refused.Post tt (code, (pivot, tt)) r (code, (pivot, tt)))
one_refused code pivot r q p s = with_code_one r q (p ∙ sym s)

pub one_work : (a : Asked) → OneAnswer (λ (r : Result Worked Refused). work.Post tt (a, tt) r (a, tt))
one_work a r q p s = worked_one r q (p ∙ sym s)

pub one_work_numbered : (kind way : ℕ) (nine three : List Float)
    → OneAnswer (λ (r : Result Worked Refused). work-numbered.Post tt (kind, (way, (nine, (three, tt)))) r (kind, (way, (nine, (three, tt)))))
one_work_numbered kind way nine three r q p s = worked_one r q (p ∙ sym s)
