-- A NaN's pattern is above +infinity's, and any other's sign is read off it: the two constants are the patterns of 1 and -1.
use Rattle.float.proofs.Words.{sym, ap, to_bits, le-leb, lt-leb}
use Rattle.float.specs.Width.{F}
use Rattle.float.specs.Sign.{signum_of}
use Rattle.float.proofs.Patterns.{above_infinity, no_nan_value, sign_of}
use Rattle.float.proofs.sign.signum_bits.Goals as goal

pub returns-then-b-gt-INFINITY : goal.returns-then-b-gt-INFINITY
unfolding to_bits signum_of
returns-then-b-gt-INFINITY c = sym (ap (λ x. to_bits F (signum_of x)) (above_infinity F c.args.b c.if-b-gt-INFINITY.true))

pub returns-then-b-ge-SIGN : goal.returns-then-b-ge-SIGN
returns-then-b-ge-SIGN c = let b = c.args.b in unfold to_bits in
    rw ((sign_of F b (no_nan_value F b c.if-b-gt-INFINITY.false)).1, le-leb _ b c.if-b-ge-SIGN.true)

pub returns-else-b-ge-SIGN : goal.returns-else-b-ge-SIGN
returns-else-b-ge-SIGN c = let b = c.args.b in unfold to_bits in
    rw ((sign_of F b (no_nan_value F b c.if-b-gt-INFINITY.false)).1, lt-leb _ b c.if-b-ge-SIGN.false)
