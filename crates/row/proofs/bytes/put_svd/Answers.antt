-- Without room nothing is written: the answer's bytes are as many as a place has.
use Rattle.float.proofs.Words.{sym, arith, rules}
use Rattle.float.specs.Width.{F}
use Rattle.wire.proofs.Parts.{no_room}
use Rattle.row.specs.Row.{answer_in}
use Rattle.row.specs.Bytes.{svd_bytes_of}
use Rattle.row.proofs.BytesRow.{svd_bytes_length}
use Rattle.row.proofs.bytes.put_svd.Goals as goal

pub returns-else-saturating_sub-ge-SVD_SIZE : goal.returns-else-saturating_sub-ge-SVD_SIZE
returns-else-saturating_sub-ge-SVD_SIZE c =
    let a = c.args in
    let r = answer_in a.r in
    let n = svd_bytes_length F r (search rules) in
    sym (no_room a.at (svd_bytes_of F r) a.out.now (omega (arith, c.saturating_sub.ensures)))
