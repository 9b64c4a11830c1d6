-- The text with the lines that are still to come stays the same in each round.
use Rattle.float.proofs.Words.{◌≡◌, ◌+◌, ◌++◌, drop}
use Rattle.listing.specs.Putting.{block_of}
use Rattle.listing.proofs.text.put_block.Given as goal

abbrev pub invariant-loop-i : goal.invariant-loop-i
invariant-loop-i g l = l.page.bytes ++ block_of (l.first + l.i) (drop l.i l.lines) ≡ l.initial.page.bytes ++ block_of l.first l.lines
