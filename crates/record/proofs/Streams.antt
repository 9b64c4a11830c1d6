-- An answer in its place: what lies before it and behind it stays as it was.
use Rattle.float.proofs.Words.{◌≡◌, ap, List, ◌++◌, append_assoc, ℕ, ◌+◌, ◌≤◌, arith, length, take, drop, length-take, length-append}
use Rattle.float.proofs.Words.{take_at, drop_at, Format}
use Rattle.record.specs.Layout.{request_size, answer_size}
use Rattle.record.specs.Answer.{answered_of, Step, record_step_of}
use Rattle.record.proofs.Answers.{with_room}

-- a record step on a request and a place of the right sizes
pub stepped : (f : Format) (request answer : List ℕ) → length request ≡ request_size f → length answer ≡ answer_size f
    → (record_step_of f request answer).answer ≡ answered_of f request
stepped f request answer h k = ap (λ (t : Step). t.answer) (with_room f request answer k h)

-- a part of n bytes exchanged for one of its size
pub before_part : (l y r z : List ℕ) (b n : ℕ) → b + n ≤ length l → length y ≡ n → y ≡ z → take (b + n) (take b l ++ (y ++ r)) ≡ take b l ++ z
before_part l y r z b n h k e =
    rw (← append_assoc, e) (take_at (take b l ++ z) r (b + n) (simp (length-append, length-take) (omega (arith, ap length e))))

pub behind-part : (l y r : List ℕ) (b n : ℕ) → b + n ≤ length l → length y ≡ n → drop (b + n) (take b l ++ (y ++ r)) ≡ r
behind-part l y r b n h k = rw (← append_assoc) (drop_at (take b l ++ y) r (b + n) (simp (length-append, length-take) (omega arith)))
