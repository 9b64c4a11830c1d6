-- An adding that fits ends with the sum, and one that does not with 14 and zeros: that is the sum of two tallies.
use Rattle.float.proofs.Words.{◌≡◌, refl, ap, ◌∙◌, Bool, true, false, List, ℕ, length}
use Rattle.std.specs.Prelude.{Option, Some, None, Result, Err, ok_or, IsErrAnd}
use Rattle.std.proofs.lemmas.Result.{err_from_is_err_and}
use Rattle.matrix.specs.declared.codes.Refusal.{Refusal}
use Rattle.counts.specs.Cells.{tally_size}
use Rattle.counts.specs.Tally.{Tally, sum_of, Left}
use Rattle.counts.specs.Adding.{Summed, ended_of}

ends : (xs us ys : List ℕ) (b : Bool) → length xs ≡ tally_size → Summed xs us b ys → ended_of b ys ≡ sum_of xs us
unfolding ended_of
ends xs us ys true n p = rw (← p.0, p.2 refl)
ends xs us ys false n p = rw (← p.0, p.1 ∙ n)

pub summed_left : (xs us ys left : List ℕ) (b : Bool) (code : ℕ) → length xs ≡ tally_size → Summed xs us b ys → Left (ended_of b ys) code left
    → Left (sum_of xs us) code left
summed_left xs us ys left b code n p q =
    let e = ends xs us ys b n p in
    (q.0 ∙ ap (λ (t : Tally). t.code) e, q.1 ∙ ap (λ (t : Tally). t.counts) e)

-- the refusal that `ok_or` names and a `?` hands on
pub refused_by : {A B : Type 0} (o : Option A) (k e : Refusal) (r : Result B Refusal) → ok_or o k ≡ Err e → IsErrAnd r (λ (y : Refusal). y ≡ e)
    → r ≡ Err k
refused_by None k e r p q =
    let y = err_from_is_err_and r q in
    let n : e ≡ k = cc in
    y.1 ∙ ap Err (y.2 ∙ n)
refused_by (Some x) k e r p q = absurd (cc)
