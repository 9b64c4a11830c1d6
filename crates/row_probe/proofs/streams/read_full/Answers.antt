-- What came before a read stays at the front, and what the read took from the reader stands behind it.
use Rattle.std.proofs.Common.{◌≡◌, ℕ, ◌+◌, ◌≤◌, List, ◌++◌, rules, length, take, sym, ap, ◌∙◌, subst, length-take-le}
use Rattle.std.proofs.Math.Seq.{take-append-add}
use Rattle.std.proofs.lemmas.List.{take-append-le}
use Rattle.std.proofs.KnownBytes.{Consumes-trans}
use Rattle.std.specs.Io.KnownBytes.{Consumes}
use Rattle.row_probe.proofs.streams.read_full.Goals as goal

behind : (a n : ℕ) (old new rest : List ℕ) → a ≤ length old → n ≤ length new
    → take (a + n) (take a old ++ (new ++ rest)) ≡ take a old ++ take n new
behind a n old new rest h k =
    ap (λ m. take (m + n) (take a old ++ (new ++ rest))) (sym (length-take-le a old h))
    ∙ take-append-add (take a old) (new ++ rest) n
    ∙ ap (λ l. take a old ++ l) (take-append-le n new rest k)

pub loop-done-preserved : goal.loop-done-preserved
loop-done-preserved g c =
    let joined = behind c.loop-done.done c.in-Ok.came c.loop-done.buf c.read.new.buf _ (search rules) c.in-Ok.ensures.bound.0 in
    let all = Consumes-trans _ _ _ _ _ c.loop-done.invariant.2 c.in-Ok.ensures.bytes.0 in
    (search rules, search rules, subst (Consumes _ _) (sym joined) all)
