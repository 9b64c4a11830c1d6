-- Three texts one behind the other, which fit the page since no listing is longer.
use Rattle.float.proofs.Words.{arith, length-append}
use Rattle.listing.proofs.Pieces.{listing_put, listing_length}
use Rattle.listing.proofs.Lengths.{listing_fits}
use Rattle.listing.proofs.page.page_of.Goals as goal

pub put_rows-requires : goal.put_rows-requires
put_rows-requires c =
    let t = c.args.counts.now in
    (rw c.new-page.ensures (omega (arith, listing_length t, listing_fits t)), c.requires.0)

pub put_sums-requires : goal.put_sums-requires
put_sums-requires c =
    let t = c.args.counts.now in
    (rw (c.put_rows.ensures, c.new-page.ensures) (omega (arith, listing_length t, listing_fits t)), c.requires.1)

pub put_turns-requires : goal.put_turns-requires
put_turns-requires c =
    let t = c.args.counts.now in
    rw (c.put_sums.ensures, c.put_rows.ensures, c.new-page.ensures, length-append) (omega (arith, listing_length t, listing_fits t))

pub returns : goal.returns
returns c = rw (c.put_turns.ensures, c.put_sums.ensures, c.put_rows.ensures, c.new-page.ensures) (listing_put c.args.counts.now)
