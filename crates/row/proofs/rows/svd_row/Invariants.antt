-- In front of the index each place holds what the single call gives, and the others what was found.
use Rattle.float.proofs.Words.{◌≡◌, length}
use Rattle.float.specs.Width.{F}
use Rattle.row.specs.Row.{single_of, answers_in}
use Rattle.row.proofs.Filling.{filled_to}
use Rattle.row.proofs.rows.svd_row.Given as goal

abbrev pub invariant-loop-i : goal.invariant-loop-i
invariant-loop-i l = (length l.mats ≡ length l.answers) × (answers_in l.answers ≡ filled_to (single_of F) l.i l.mats (answers_in l.initial.answers))
