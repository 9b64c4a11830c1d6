-- Each round answers one matrix more; the matrices are as many as the places of the answers, so that all of these are written.
use Rattle.float.proofs.Words.{◌≡◌, ◌*◌, ◌/◌, length, take}
use Rattle.float.specs.Width.{F}
use Rattle.row.specs.Bytes.{mat_size, svd_size, filled_bytes_of}
use Rattle.row.specs.Codes.{Places}
use Rattle.row.proofs.bytes.zanikory_svd_3x3_row.Given as goal

abbrev pub invariant-loop-i : goal.invariant-loop-i
invariant-loop-i l =
    Places F (length l.mats) (length l.answers) (length l.mats / mat_size F)
    × (take (svd_size F * l.i) l.answers ≡ filled_bytes_of F l.i l.mats)
