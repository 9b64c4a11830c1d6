-- The text with the counts that are still to come stays the same in each round.
use Rattle.float.proofs.Words.{◌≡◌, ◌∙◌, append_assoc, lit<, arith, length, length-append, get_or, drop, drop-length}
use Rattle.std.proofs.lemmas.Str.{encode_ascii}
use Rattle.listing.specs.Putting.{counts_end}
use Rattle.listing.proofs.Decimals.{decimal_is}
use Rattle.listing.proofs.Stores.{counts_none, counts_more, room_left}
use Rattle.listing.proofs.text.put_counts.Goals as goal

pub push-requires : goal.push-requires
push-requires c =
    let counts = c.args.counts.now in
    let i = c.loop-n.n-index in
    let left = room_left c.args.page.now.bytes (counts_end counts) c.loop-n.page.bytes (counts_end (drop i counts)) c.requires c.loop-n.invariant in
    let room = rw (counts_more counts i c.loop-n-test.true) at left in
    (lit< tt, rw (encode_ascii 9 (lit< tt)) (omega (arith, room)))

pub push_str-requires : goal.push_str-requires
push_str-requires c =
    let counts = c.args.counts.now in
    let i = c.loop-n.n-index in
    let left = room_left c.args.page.now.bytes (counts_end counts) c.loop-n.page.bytes (counts_end (drop i counts)) c.requires c.loop-n.invariant in
    let room = simp length-append at (rw (counts_more counts i c.loop-n-test.true) at left) in
    let text = c.format.ensures.text ∙ decimal_is (get_or counts i 0) (c.type_inv.counts i).fits in
    (lit< tt, rw (text, c.push.ensures.ascii (lit< tt), length-append) (omega (arith, room)))

pub loop-n-preserved : goal.loop-n-preserved
loop-n-preserved c =
    let counts = c.args.counts.now in
    let i = c.loop-n.n-index in
    let text = c.format.ensures.text ∙ decimal_is (get_or counts i 0) (c.type_inv.counts i).fits in
    let before = rw (counts_more counts i c.loop-n-test.true) at c.loop-n.invariant in
    rw (c.push_str.ensures.bytes, text, c.push.ensures.ascii (lit< tt), append_assoc, append_assoc) before

pub push-requires-2 : goal.push-requires-2
push-requires-2 c =
    let counts = c.args.counts.now in
    let i = c.loop-n.n-index in
    let last : i ≡ length counts = omega arith in
    let left = room_left c.args.page.now.bytes (counts_end counts) c.loop-n.page.bytes (counts_end (drop i counts)) c.requires c.loop-n.invariant in
    let room = rw (last, drop-length, counts_none) at left in
    (lit< tt, rw (encode_ascii 10 (lit< tt)) (omega (arith, room)))

pub returns : goal.returns
returns c =
    let counts = c.args.counts.now in
    let i = c.loop-n.n-index in
    let last : i ≡ length counts = omega arith in
    c.push-2.ensures.ascii (lit< tt) ∙ (rw (last, drop-length, counts_none) at c.loop-n.invariant)
