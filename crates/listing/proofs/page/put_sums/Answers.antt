-- Three lines one behind the other.
use Rattle.float.proofs.Words.{arith, length-append}
use Rattle.listing.proofs.Pieces.{sums_put, sums_length}
use Rattle.listing.proofs.page.put_sums.Goals as goal

pub put_line-requires : goal.put_line-requires
put_line-requires c = rw c.requires.1 (omega (arith, sums_length c.args.counts.now))

pub put_line-requires-2 : goal.put_line-requires-2
put_line-requires-2 c = rw (c.put_line.ensures, c.requires.1, length-append) (omega (arith, sums_length c.args.counts.now))

pub put_line-requires-3 : goal.put_line-requires-3
put_line-requires-3 c =
    rw (c.put_line-2.ensures, c.put_line.ensures, c.requires.1, length-append, length-append) (omega (arith, sums_length c.args.counts.now))

pub returns : goal.returns
returns c =
    rw (c.put_line-3.ensures, c.put_line-2.ensures, c.put_line.ensures, c.requires.1) (sums_put c.args.counts.now c.args.page.now.bytes)
