-- The head and the four groups of numbers are written one after the other.
use Rattle.std.proofs.lemmas.Slice.{put_mid-paste}
use Rattle.std.specs.Int.{from_bool}
use Rattle.float.proofs.Words.{◌≡◌, refl, Bool, true, false, sym, ap, ◌∙◌, ◌∷◌, ℕ, ◌+◌, ◌≤◌, arith, length, replicate, sets-eq, rules}
use Rattle.float.specs.Width.{F}
use Rattle.jacobi.specs.Blind.{mark_of}
use Rattle.row.specs.Row.{answer_in}
use Rattle.row.specs.Bytes.{svd_head_of}
use Rattle.row.proofs.BytesRow.{FullSvd, svd_of_parts}
use Rattle.row.proofs.bytes.put_parts.Goals as goal

-- the mark as a byte
as_byte : (b : Bool) → from_bool b ≡ mark_of b
as_byte true = refl
as_byte false = refl

pub returns : goal.returns
returns c =
    let a = c.args in
    let r = answer_in a.r in
    let full : FullSvd r = search rules in
    let written = c.copy_from_slice.ensures.after ∙ ap (λ (k : ℕ). a.r.code ∷ a.r.made.count ∷ k ∷ replicate 5 0) (c.from.ensures ∙ as_byte a.r.settled) in
    let room : a.at + 8 ≤ length a.out.now = omega (arith, c.requires) in
    let head = put_mid-paste a.at _ a.out.now _ (svd_head_of r) 8 written (omega arith) refl ∙ sym (sets-eq (svd_head_of r) a.out.now a.at room) in
    svd_of_parts F r a.at a.out.now _ c.put_numbers.new.out c.put_numbers-2.new.out c.put_numbers-3.new.out c.put_numbers-4.new.out full c.requires
    head c.put_numbers.ensures c.put_numbers-2.ensures c.put_numbers-3.ensures c.put_numbers-4.ensures
