-- Each return has one kind of pattern: zeros and +infinity, those with no root, and the finite numbers above 0.
use Rattle.float.proofs.Words.{◌≡◌, sym, ap, ◌∙◌, ⊎_elim, ◌*◌, ◌%◌, mod-eq_of_lt, arith, hid, ones, top, to_bits}
use Rattle.float.specs.Width.{F}
use Rattle.float.specs.Root.{root_bits_of}
use Rattle.float.proofs.Patterns.{same_pattern}
use Rattle.float.proofs.Assembled.{root_zero, root_infinity, no_root}
use Rattle.float.proofs.root.root_bits.Goals as goal

infinity_stays : ones F * hid F ≡ root_bits_of F (ones F * hid F)
infinity_stays = sym (ap (to_bits F) (root_infinity F) ∙ same_pattern F (ones F * hid F) (omega arith) (omega arith))

pub returns-then-b-eq-INFINITY : goal.returns-then-b-eq-INFINITY
returns-then-b-eq-INFINITY c =
    ⊎_elim (λ z. sym (ap (to_bits F) (root_zero F c.args.b z) ∙ same_pattern F c.args.b (omega arith) (omega arith))) (λ h. rw h.1 infinity_stays)
    c.if-b-eq-INFINITY.either

pub returns-then-b-gt-INFINITY : goal.returns-then-b-gt-INFINITY
unfolding to_bits
returns-then-b-gt-INFINITY c =
    sym (ap (to_bits F) (no_root F c.args.b c.if-b-gt-INFINITY.true (omega (arith, c.if-b-eq-INFINITY.false.0))))

pub returns-else-b-gt-INFINITY : goal.returns-else-b-gt-INFINITY
returns-else-b-gt-INFINITY c = let r = c.root_pattern.result in
    let l = c.root_pattern.ensures.finite in
    let own : r % top F ≡ r = mod-eq_of_lt (omega arith) in
    sym (ap (to_bits F) (sym c.root_pattern.ensures.is) ∙ same_pattern F r (omega arith) (omega arith))
