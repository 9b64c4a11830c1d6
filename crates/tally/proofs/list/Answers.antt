-- The listing stands first, and is what `put` is lent; where the call is refused there is none.
use Rattle.float.proofs.Words.{refl, ap, ◌∙◌, arith, length-take}
use Rattle.std.specs.Prelude.{Ok, Err}
use Rattle.std.proofs.lemmas.Result.{err_from_is_err_and}
use Rattle.listing.specs.Page.{listed_of}
use Rattle.tally.specs.States.{ending, failed}
use Rattle.tally.proofs.Rounds.{over_0}
use Rattle.tally.proofs.Shown.{within, first, shown, unshown}
use Rattle.tally.proofs.list.Goals as goal

pub shared_ref_as_front-put : goal.shared_ref_as_front-put
shared_ref_as_front-put c =
    let l = listed_of (Ok c.in_ok-size.size) in
    let w = within c.args.counts.now c.args.out.now c.listing.new.out l (omega arith) (omega arith) c.in_ok-size.ensures refl in
    omega (arith, w)

pub put-w-requires : goal.put-w-requires
put-w-requires c =
    let l = listed_of (Ok c.in_ok-size.size) in
    record {
      counts = c.args.counts.now;
      listed = first c.args.counts.now c.args.out.now c.listing.new.out l (omega arith) (omega arith) c.in_ok-size.ensures refl;
    }

pub returns-in_err-size : goal.returns-in_err-size
returns-in_err-size c =
    let e = c.in_err-size.field-0.0 in
    let back = err_from_is_err_and c.from_residual.result c.from_residual.ensures.1 in
    unshown c.args.counts.now c.args.out.now c.listing.new.out (listed_of (Err e)) (omega arith) (omega arith) c.in_err-size.ensures
    (ending c.from_residual.result) (over_0 e) (ap ending back.1 ∙ ap failed back.2)

pub returns : goal.returns
returns c =
    let l = listed_of (Ok c.in_ok-size.size) in
    let m = simp length-take at c.put-w.ensures.1 in
    shown c.args.counts.now c.args.out.now c.listing.new.out l (omega arith) (omega arith) c.in_ok-size.ensures c.put-w.result.written
    (ending c.after_listing.result) refl (omega arith) c.after_listing.ensures
