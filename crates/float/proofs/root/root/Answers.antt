-- A NaN has none. Of a number the root is the quick one where there is one, and else the form on patterns, between a writing and a reading of the bits. What
-- either answers is the nearest value by `correct`.
use Rattle.float.proofs.Words.{sym, ap, ◌∙◌, ℕ, of_bits}
use denote.Floats.{passes}
use lib.Ieee.Bits.{of_bits-to_bits}
use Rattle.float.specs.Width.{F}
use Rattle.float.specs.Root.{root_of}
use Rattle.float.proofs.Patterns.{only_nan, through_bits}
use Rattle.float.proofs.Correct.{root_fits, promised}
use Rattle.float.proofs.root.root.Goals as goal

pub returns-then-is_nan : goal.returns-then-is_nan
unfolding root_of
returns-then-is_nan c = let x = c.args.x in
    promised F x c.not_a_number.result (passes _ c.well_formed.0.1)
    (c.not_a_number.ensures ∙ sym (ap (root_of F) (only_nan x (sym c.is_nan.ensures ∙ c.if-is_nan.true))))

pub returns-in-Some : goal.returns-in-Some
returns-in-Some c = let x = c.args.x in
    let fit = passes _ c.well_formed.0.1 in
    promised F x c.of_number.result fit
    (c.of_number.ensures
    ∙ c.in-Some.ensures.is
    ∙ ap (λ (b : ℕ). root_of F (of_bits F b)) c.to_bits-b.ensures
    ∙ ap (root_of F) (of_bits-to_bits F x fit))

pub returns-in-None : goal.returns-in-None
returns-in-None c = let x = c.args.x in
    let fit = passes _ c.well_formed.0.1 in
    promised F x c.of_bits.result fit
    (rw (c.of_bits.ensures, c.root_bits.ensures, c.to_bits-b.ensures)
    (through_bits F (root_of F) x fit (root_fits F x fit)))
