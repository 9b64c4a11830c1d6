-- Where a tally counts an answer of the record step. Definitions only.
use Rattle.std.specs.Prelude.{◌≡◌, true, false, List, ℕ, eqb, length}
use Rattle.std.specs.Float.{Format}
use Rattle.float.specs.Choice.{pick}
use Rattle.counts.specs.Known.{head_of, foreign_of}
use Rattle.counts.specs.Cells.{coded, row_of, counted_in}
use Rattle.promises.specs.Scope.{request_length, kind_in}

-- of the code that is handed back, and of what is left in the slice
pub record Counted (f : Format) (request : List ℕ) (code : ℕ) (left : List ℕ) : Type 0 where
  -- its kind is the request's, and 0 where the request has a wrong length; its code is the one handed back
  pub kind : (head_of left).kind ≡ pick (eqb (length request) (request_length f)) (kind_in request) 0
  pub handed_back : (head_of left).code ≡ code
  -- it is not foreign, and is counted with its code in the row of its kind
  pub known : foreign_of (head_of left) ≡ false
  pub in_row : counted_in (coded (row_of (head_of left)) code) (head_of left) ≡ true
