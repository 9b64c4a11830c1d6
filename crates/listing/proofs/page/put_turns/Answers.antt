-- The heading, and a block of lines behind it.
use Rattle.float.proofs.Words.{lit<, arith, length-append}
use Rattle.listing.specs.Text.{decimal_in, fields_of}
use Rattle.listing.specs.Page.{turns_heading}
use Rattle.listing.proofs.Pieces.{turns-put, turns_put, turns_length}
use Rattle.listing.proofs.page.put_turns.Goals as goal

pub push_str-requires : goal.push_str-requires
unfolding turns_heading fields_of decimal_in
push_str-requires c = (lit< tt, omega (arith, turns_length c.args.counts.now))

pub put_block-requires : goal.put_block-requires
unfolding turns_heading fields_of decimal_in
put_block-requires c =
    let t = c.args.counts.now in
    let turns = turns-put t c.told-counts _ c.as_chunks.ensures.front in
    (lit< tt, (rw (turns, c.push_str.ensures.bytes, length-append) (omega (arith, turns_length t)), omega (arith, c.as_chunks.ensures.front_len)))

pub returns : goal.returns
unfolding turns_heading fields_of decimal_in
returns c =
    let t = c.args.counts.now in
    let turns = turns-put t c.told-counts _ c.as_chunks.ensures.front in
    rw (c.put_block.ensures, turns, c.push_str.ensures.bytes) (turns_put t c.args.page.now.bytes)
