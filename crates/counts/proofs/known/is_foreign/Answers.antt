-- 0 is among the codes, so with code 0 only the rest of the head is to be known.
use Rattle.float.proofs.Words.{◌≡◌, refl, ap, ◌∙◌, Bool, true, false, not, ◌||◌, ◌&&◌, ℕ, eqb, ne_eqb}
use Rattle.std.specs.Prelude.{Option, is_some}
use Rattle.counts.specs.Known.{codes, among, known_answer, foreign_of}
use Rattle.counts.proofs.Among.{not_found, swapped}
use Rattle.counts.proofs.known.is_foreign.Goals as goal

not_done : (t u s : Bool) → s ≡ false → t ≡ t || (s && u)
not_done true u s e = refl
not_done false u s e = rw e

pub returns-then-h-eq-DONE : goal.returns-then-h-eq-DONE
unfolding foreign_of
returns-then-h-eq-DONE c = rw (c.known_answer.ensures, c.if-h-eq-DONE.true)

pub returns : goal.returns
unfolding foreign_of
returns c =
    let h = c.args.h in
    let none = swapped (is_some c.code_place.result) c.is_none.result c.is_none.ensures in
    none ∙ ap (λ (p : Option ℕ). not (is_some p)) c.code_place.ensures
    ∙ (not_found h.code codes ∙ not_done (not (among h.code codes)) (not (known_answer h)) (eqb h.code 0) (ne_eqb h.code 0 c.if-h-eq-DONE.false))
