-- Four texts one behind the other, each the definition's.
use Rattle.float.proofs.Words.{lit<, arith, length-append}
use Rattle.listing.specs.Text.{decimal_in, fields_of}
use Rattle.listing.specs.Page.{heading}
use Rattle.listing.proofs.Pieces.{kinds_put, rows_put, rows-length}
use Rattle.listing.proofs.page.put_rows.Goals as goal

pub push_str-requires : goal.push_str-requires
unfolding heading fields_of decimal_in
push_str-requires c = (lit< tt, omega (arith, rows-length c.args.counts.now))

pub put_block-requires : goal.put_block-requires
unfolding heading fields_of decimal_in
put_block-requires c =
    let t = c.args.counts.now in
    let e = c.as_chunks.ensures in
    let kinds = kinds_put t c.told-counts _ c.as_chunks.ensures.front in
    (lit< tt, (rw (kinds, c.push_str.ensures.bytes, length-append) (omega (arith, rows-length t)), omega (arith, e.front_len)))

pub put_line-requires : goal.put_line-requires
unfolding heading fields_of decimal_in
put_line-requires c =
    let t = c.args.counts.now in
    let kinds = kinds_put t c.told-counts _ c.as_chunks.ensures.front in
    rw (c.put_block.ensures, kinds, c.push_str.ensures.bytes, length-append, length-append) (omega (arith, rows-length t))

pub put_line-requires-2 : goal.put_line-requires-2
unfolding heading fields_of decimal_in
put_line-requires-2 c =
    let t = c.args.counts.now in
    let kinds = kinds_put t c.told-counts _ c.as_chunks.ensures.front in
    rw (c.put_line.ensures, c.put_block.ensures, kinds, c.push_str.ensures.bytes, c.requires.1, length-append, length-append, length-append)
    (omega (arith, rows-length t))

pub returns : goal.returns
unfolding heading fields_of decimal_in
returns c =
    let t = c.args.counts.now in
    let kinds = kinds_put t c.told-counts _ c.as_chunks.ensures.front in
    rw (c.put_line-2.ensures, c.put_line.ensures, c.put_block.ensures, kinds, c.push_str.ensures.bytes, c.requires.1) (rows_put t c.args.page.now.bytes)
