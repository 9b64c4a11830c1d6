-- Any two answers within the promise of a public function are equal, and so is what they leave in what was lent. Each promise is read from the source, as a
-- caller reads it.
use Rattle.float.proofs.Words.{◌≡◌, refl, sym, ap, ◌∙◌, List, ℕ}
use contract.Lifetimes.{Lfts}
use Rattle.float.specs.OneAnswer.{OneAnswer, OneOutcome}
use Rattle.float.proofs.OneAnswer.{left_named}
use Rattle.std.specs.Prelude.{Result}
use Rattle.matrix.specs.Square.{Mat3}
use Rattle.matrix.specs.declared.codes.Refusal.{Refusal}
use Rattle.svd.specs.declared.svd3x3.Svd3.{Svd3}
use Rattle.matrix.proofs.Refusals.{code_of_one, code_named}
use Rattle.row.specs.Row.{FilledAnswer}
use Rattle.row.proofs.Lent.{same_place, same_places}
use Rattle.row.specs.declared.rows.Filled.{Filled}
use Rattle.row.specs.declared.rows.SvdPlace.{SvdPlace}
use Rattle.row.proofs.rows.SvdPlaceFromResultSvd3Refusal.from.Reads as svd-place-from
use Rattle.row.proofs.rows.svd_row.Reads as svd-row
use Rattle.row.proofs.rows.svd_row_of.Reads as svd-row-of
use Rattle.row.proofs.bytes.put_svd.Reads as put-svd
use Rattle.row.proofs.bytes.zanikory_svd_3x3_row.Reads as svd-3x3-row

pub one_svd_place_from : (x : Result Svd3 Refusal) → OneAnswer (λ (p : SvdPlace). svd-place-from.Post tt (x, tt) p (x, tt))
one_svd_place_from x p q h k = same_place p q (h ∙ sym k)

pub one_svd_row : (κs : Lfts 2) (a : _) → OneOutcome (svd-row.Post κs a) (λ s. s.1.0.now)
one_svd_row κs a r q s t p u = (code_of_one (p.0 ∙ sym u.0), same_places s.1.0.now t.1.0.now (p.1 ∙ sym u.1))

pub one_svd_row_of : (mats : List Mat3) (n : ℕ) (answers : List SvdPlace) (m : ℕ)
    → OneAnswer (λ (r : Filled). svd-row-of.Post tt (mats, (n, (answers, (m, tt)))) r (mats, (n, (answers, (m, tt)))))
one_svd_row_of mats n answers m r q p u =
    let e = p ∙ sym u in
    let ended = code_of_one (ap (λ (x : FilledAnswer). x.code) e) in
    let places = same_places r.answers q.answers (ap (λ (x : FilledAnswer). x.answers) e) in
    rw (ended, places) refl

pub one_put_svd : (κs : Lfts 1) (a : _) → OneOutcome (put-svd.Post κs a) (λ s. s.0.now)
one_put_svd κs a = left_named _ (λ s. s.0.now)

pub one_svd_3x3_row : (κs : Lfts 2) (a : _) → OneOutcome (svd-3x3-row.Post κs a) (λ s. s.1.0.now)
one_svd_3x3_row κs a = code_named _ _ (λ s. s.1.0.now)
