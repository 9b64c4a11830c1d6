-- Both lengths passed, the numbers that are read are the first three of each slice.
use Rattle.float.proofs.Words.{le-leb, lt-leb}
use Rattle.matrix.specs.Arithmetic.{quad_form_of}
use Rattle.matrix.proofs.core3x3.Sym3.quad_form.Goals as goal

pub returns-in_default : goal.returns-in_default
unfolding quad_form_of
returns-in_default c =
    let read = c.in_default.ensures.cases in
    rw (le-leb 3 _ read.enough, lt-leb 3 _ c.in_default.ensures'.cases)

pub returns-in_default-2 : goal.returns-in_default-2
unfolding quad_form_of
returns-in_default-2 c = rw (lt-leb 3 _ c.in_default.ensures.cases)

pub returns : goal.returns
unfolding quad_form_of
returns c =
    let left = c.in-Some-Some.ensures.cases in
    let right = c.in-Some-Some.ensures'.cases in
    rw (le-leb 3 _ left.enough, le-leb 3 _ right.enough, ← left.same, ← right.same) c.quad_judged.ensures
