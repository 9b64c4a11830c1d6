-- Of each array the front is lent, and comes back: the matrices as they were, the answers as the promise of `svd_row` says. A number above the arrays' length
-- lends all of an array, as the length itself does.
use Rattle.std.proofs.lemmas.List.{length-map, take-map, drop-map}
use mathlib.Core.List.{map-append}
use Rattle.float.proofs.Words.{◌∙◌, rules}
use Rattle.row.specs.Row.{fill_of, answer_in, answers_in}
use Rattle.row.proofs.Filling.{same_fronts}
use Rattle.row.proofs.rows.svd_row_of.Goals as goal

pub returns : goal.returns
unfolding fill_of
returns c =
    let a = c.args in
    let e = c.svd_row-ended.ensures in
    let fronts = same_fronts a.mats a.n (answers_in a.answers) a.m (search rules) (length-map a.answers answer_in ∙ search rules) in
    let front = take-map answer_in c.min-2.result a.answers in
    let back = drop-map answer_in c.min-2.result a.answers in
    rw (map-append, e.0, e.1, ← front, ← back, c.min.ensures, c.min-2.ensures) fronts
