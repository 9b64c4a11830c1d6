-- The answer's bytes take their place: they are as many as a place has.
use Rattle.float.proofs.Words.{◌≡◌, refl, ap, ◌∙◌, ◌*◌}
use Rattle.float.specs.Width.{F}
use Rattle.wire.proofs.Parts.{placed_front}
use Rattle.row.specs.Row.{single_of, answer_in}
use Rattle.row.specs.Bytes.{mat_at, svd_size, svd_bytes_of}
use Rattle.row.proofs.BytesRow.{single_bytes_length}
use Rattle.row.proofs.bytes.answer_place.Goals as goal

pub returns : goal.returns
returns c =
    let a = c.args in
    let m = mat_at F a.i a.mats.now in
    let single : answer_in c.from.result ≡ single_of F m = c.from.ensures ∙ c.svd-r.ensures ∙ ap (single_of F) c.mat3_at.ensures in
    rw (c.put_svd.ensures, single)
    (placed_front (svd_size F * a.i) (svd_size F) (svd_bytes_of F (single_of F m)) a.answers.now (single_bytes_length F m refl) c.requires.1)
