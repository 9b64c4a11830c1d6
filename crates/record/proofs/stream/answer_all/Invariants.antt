-- Each round answers one request more, and what lies behind the answers stays.
use Rattle.float.proofs.Words.{◌≡◌, ◌*◌, length, take, drop}
use Rattle.float.specs.Width.{F}
use Rattle.record.specs.Layout.{answer_size}
use Rattle.record.specs.Stream.{answers_of}
use Rattle.record.proofs.stream.answer_all.Given as goal

abbrev pub invariant-loop-i : goal.invariant-loop-i
invariant-loop-i l =
    (length l.answers ≡ length l.initial.answers)
    × (take (answer_size F * l.i) l.answers ≡ answers_of F l.i l.requests)
    × (drop (answer_size F * l.i) l.answers ≡ drop (answer_size F * l.i) l.initial.answers)
