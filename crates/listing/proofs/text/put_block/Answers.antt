-- The text with the lines that are still to come stays the same in each round.
use Rattle.float.proofs.Words.{◌≡◌, ◌∙◌, append_assoc, append-nil, arith, ◌+◌, length, drop-length, get_or}
use Rattle.listing.specs.Text.{decimal_of, counts_line}
use Rattle.listing.specs.Putting.{block_of}
use Rattle.listing.proofs.Decimals.{decimal_is}
use Rattle.listing.proofs.Stores.{room_left, room-front}
use Rattle.listing.proofs.Blocks.{block_none, block_more}
use Rattle.listing.proofs.text.put_block.Goals as goal

pub put_line-requires : goal.put_line-requires
put_line-requires g c =
    let a = c.args in
    let i = c.loop-i.i in
    let line = c.index-lines-i.result in
    let text = c.format.ensures.text ∙ decimal_is (a.first + i) (omega (arith, c.requires.1)) in
    let left = room_left a.page.now.bytes (block_of a.first a.lines.now) c.loop-i.page.bytes _ c.requires.0 c.loop-i.invariant in
    let room = rw (block_more a.lines.now line a.first i c.loop-i-test.true) at left in
    rw (← text, ← c.index-lines-i.is) at
    (room-front c.loop-i.page.bytes (counts_line (decimal_of (a.first + i)) (get_or a.lines.now i line)) _ room)

pub loop-i-preserved : goal.loop-i-preserved
loop-i-preserved g c =
    let a = c.args in
    let i = c.loop-i.i in
    let line = c.index-lines-i.result in
    let text = c.format.ensures.text ∙ decimal_is (a.first + i) (omega (arith, c.requires.1)) in
    let before = rw (block_more a.lines.now line a.first i c.loop-i-test.true) at c.loop-i.invariant in
    rw (c.put_line.ensures, append_assoc) (rw (← text, ← c.index-lines-i.is) at before)

pub returns : goal.returns
returns g c =
    let last : c.loop-i.i ≡ length c.args.lines.now = omega arith in
    (rw (last, drop-length, block_none, append-nil) at c.loop-i.invariant)
