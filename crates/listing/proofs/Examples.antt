-- The definitions, worked out on a small file, give the text that a person expects.
use Rattle.float.proofs.Words.{◌≡◌, refl, map, binary64}
use Rattle.counts.specs.Known.{foreign_of}
use Rattle.counts.specs.Cells.{counted_in}
use Rattle.counts.specs.Tally.{counted_of, tally_of, total}
use Rattle.listing.specs.Text.{word_bytes, decimal_in, fields_of, counts_line, lines_of}
use Rattle.listing.specs.Page.{heading, turns_heading, kind_lines, turns_lines, rows_text, sums_text, turns_text, listing_of}
use Rattle.listing.specs.Examples.{small_file, small_listing}

pub small_listing_lem : listing_of (tally_of binary64 small_file) ≡ lines_of (map word_bytes small_listing)
unfolding listing_of rows_text sums_text turns_text heading turns_heading kind_lines turns_lines lines_of counts_line fields_of decimal_in
    tally_of counted_of counted_in foreign_of total
small_listing_lem = refl
