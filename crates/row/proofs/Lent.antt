-- A row of places holds no more than its answers: the same answers stand in the same places.
use Rattle.float.proofs.Words.{◌≡◌, refl, sym, ap, ◌∙◌, List, [], ◌∷◌, map}
use Rattle.svd.specs.Svd3x3.{SvdAnswer}
use Rattle.row.specs.Row.{answer_in, answers_in}
use Rattle.row.specs.declared.rows.SvdPlace.{SvdPlace}

abbrev place_of : SvdAnswer → SvdPlace
place_of r = record { code = r.code; made = r.made; settled = r.settled; values = r.values; u = r.u; v = r.v; worked = r.worked }

-- one place, and then a row
pub same_place : (p q : SvdPlace) → answer_in p ≡ answer_in q → p ≡ q
same_place p q e = ap place_of e

abbrev places_of : List SvdAnswer → List SvdPlace
places_of rs = map place_of rs

places_back : (ps : List SvdPlace) → places_of (answers_in ps) ≡ ps
places_back [] = refl
places_back (p ∷ ps) = ap (λ (qs : List SvdPlace). p ∷ qs) (places_back ps)

pub same_places : (ps qs : List SvdPlace) → answers_in ps ≡ answers_in qs → ps ≡ qs
same_places ps qs e = sym (places_back ps) ∙ ap places_of e ∙ places_back qs
