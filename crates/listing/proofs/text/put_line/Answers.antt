-- A name and the counts behind it are the line.
use Rattle.float.proofs.Words.{append_assoc, lit<, arith}
use Rattle.listing.specs.Putting.{counts_end}
use Rattle.listing.proofs.Stores.{line_parts, line_length, room-behind}
use Rattle.listing.proofs.text.put_line.Goals as goal

pub push_str-requires : goal.push_str-requires
push_str-requires c = (lit< tt, omega (arith, line_length c.args.name.now c.args.counts.now))

pub put_counts-requires : goal.put_counts-requires
put_counts-requires c =
    let a = c.args in
    room-behind a.page.now.bytes a.name.now (counts_end a.counts.now) _ (rw (line_parts a.name.now a.counts.now) at c.requires) c.push_str.ensures.bytes

pub returns : goal.returns
returns c = rw (c.put_counts.ensures, c.push_str.ensures.bytes, line_parts c.args.name.now c.args.counts.now) (append_assoc c.args.page.now.bytes _ _)
