-- What a write takes stands behind what was taken before.
use Rattle.std.proofs.Common.{◌≡◌, ℕ, ◌+◌, ◌-◌, List, ◌++◌, rules, length, take, drop, sym, ap, ◌∙◌, subst}
use Rattle.std.proofs.Math.Seq.{take-add}
use Rattle.std.proofs.lemmas.List.{take_rest}
use Rattle.std.proofs.KnownBytes.{Appends-trans}
use Rattle.std.specs.Io.KnownBytes.{Appends}
use Rattle.row_probe.proofs.streams.write_all.Goals as goal

joined : (a n : ℕ) (all : List ℕ) → take a all ++ take n (take (length all - a) (drop a all)) ≡ take (a + n) all
joined a n all = ap (λ l. take a all ++ take n l) (take_rest all a) ∙ sym (take-add a n all)

pub loop-done-preserved : goal.loop-done-preserved
loop-done-preserved g c =
    let taken = Appends-trans _ _ _ _ _ c.loop-done.invariant.1 c.in-Ok.ensures.bytes in
    (search rules, subst (Appends _ _) (joined c.loop-done.done c.in-Ok.taken c.args.bytes.now) taken)
