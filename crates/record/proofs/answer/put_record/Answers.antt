-- The head and the three groups of numbers are written one after the other, and fill the slice.
use Rattle.float.proofs.Words.{◌≡◌, refl, ap, ◌∙◌, Bool, true, false, ◌++◌, ◌∷◌, [], ℕ, arith, length, take, drop, length-append, length-take, length-drop}
use Rattle.float.proofs.Words.{rules}
use Rattle.std.specs.Int.{from_bool}
use Rattle.float.specs.Width.{F}
use Rattle.wire.proofs.Numbers.{numbers_front}
use Rattle.jacobi.specs.Blind.{mark_of}
use Rattle.kinds.specs.Work.{WorkedAnswer}
use Rattle.kinds.specs.Read.{with_code}
use Rattle.record.specs.Layout.{event_bytes, numbers_at, left_at, right_at, answer_size}
use Rattle.record.specs.Answer.{record_of}
use Rattle.record.proofs.Heads.{head_put}
use Rattle.record.proofs.Records.{record_of_parts}
use Rattle.record.proofs.answer.put_record.Goals as goal

mark_is : (b : Bool) → from_bool b ≡ mark_of b
mark_is true = refl
mark_is false = refl

pub returns : goal.returns
returns c =
    let a = c.args in
    let w = c.with_code-code.result in
    let event = a.event.now in
    let l = a.out.now in
    let l₁ = take event_bytes (event ++ drop event_bytes l)
    ++ ((a.kind ∷ w.0 ∷ w.1.count ∷ c.from.result ∷ []) ++ drop event_bytes (drop event_bytes (event ++ drop event_bytes l))) in
    let l₂ = c.put_numbers.new.out in
    let l₃ = c.put_numbers-2.new.out in
    let l₄ = c.put_numbers-3.new.out in
    let values : length w.1.values ≡ 3 = search rules in
    let left : length w.1.left ≡ 9 = search rules in
    let right : length w.1.right ≡ 9 = search rules in
    let bytes = a.kind ∷ w.0 ∷ w.1.count ∷ c.from.result ∷ [] in
    let room : length l₁ ≡ answer_size F =
    simp (length-append, length-take, length-drop) (omega (arith, c.requires.sizes.0, c.requires.sizes.1)) in
    let written = rw (c.copy_from_slice.ensures.after, c.copy_from_slice-2.ensures.after) at c.put_numbers.ensures in
    record_of_parts F event a.kind (with_code w.0 w.1) l₁ l₂ l₃ l₄ numbers_at (left_at F) (right_at F) (answer_size F)
    (head_put l event bytes event_bytes 4 c.requires.sizes.0 refl
    ∙ ap (λ (m : ℕ). event ++ (a.kind ∷ w.0 ∷ w.1.count ∷ m ∷ [])) (c.from.ensures ∙ mark_is w.1.settled))
    (numbers_front F l₁ l₂ w.1.values numbers_at 3 values (omega arith) written)
    (numbers_front F l₂ l₃ w.1.left (left_at F) 9 left (omega arith) c.put_numbers-2.ensures)
    (numbers_front F l₃ l₄ w.1.right (right_at F) 9 right (omega arith) c.put_numbers-3.ensures)
    (omega arith)
    ∙ ap (λ (v : WorkedAnswer). record_of F event a.kind v) c.with_code-code.ensures
