-- After i rounds the first i records are counted.
use Rattle.float.proofs.Words.{◌≡◌, sym, ap, ◌∙◌, subst, Bool, true, List, [], ℕ, ◌+◌, ◌*◌, ◌<◌, arith, length, get_or, take}
use Rattle.std.specs.Prelude.{is_ok}
use Rattle.float.specs.Width.{F}
use Rattle.std.specs.Simd.{first_chunks}
use Rattle.record.specs.Layout.{answer_size}
use Rattle.record.specs.Stream.{answer_of}
use Rattle.counts.specs.Known.{head_of}
use Rattle.counts.specs.Cells.{left_at, tally_size}
use Rattle.counts.specs.Tally.{records_of, tally_of}
use Rattle.counts.specs.Adding.{Summed, only, head_tally}
use Rattle.counts.specs.declared.known.Head.{Head}
use Rattle.counts.proofs.Sums.{none_summed, handed_on}
use Rattle.counts.proofs.Files.{no_tally, record_in, file_more, file_past, file_ends}
use Rattle.counts.proofs.tally.count_file.Goals as goal

pub loop-r-init : goal.loop-r-init
loop-r-init c =
    let xs = c.args.counts.now in
    subst (λ (u : List ℕ). Summed xs u true xs) (sym (no_tally F)) (none_summed xs tally_size c.told-counts c.fits-counts)

-- the head counted is that of record i, and with it one record more is counted
next : (s : List ℕ) (chunks : List (List ℕ)) (xs ys zs : List ℕ) (i : ℕ) (h : Head) (b : Bool) → chunks ≡ first_chunks (answer_size F) (records_of F s) s
    → length xs ≡ tally_size → i < records_of F s → Summed xs (tally_of F (take (answer_size F * i) s)) true ys → h ≡ head_of (get_or chunks i [])
    → Summed ys (head_tally h) b zs → Summed xs (tally_of F (take (answer_size F * (i + 1)) s)) b zs
next s chunks xs ys zs i h b front room below p e q =
    let here : get_or chunks i [] ≡ answer_of F i s = rw front (record_in F s (records_of F s) i [] below) in
    file_more F s xs room i ys zs b (omega arith) p (subst (λ (k : Head). Summed ys (head_tally k) b zs) (e ∙ ap head_of here) q)

pub returns-in_err-count_head : goal.returns-in_err-count_head
returns-in_err-count_head c =
    let xs = c.args.counts.now in
    let s = c.args.answers.now in
    let l = c.loop-r in
    let t = c.count_head in
    let e = c.as_chunks.ensures in
    let below : l.r-index < records_of F s = omega (arith, e.front_len) in
    let more = next s _ xs l.counts t.new.counts l.r-index _ (is_ok t.result) e.front c.told-counts below l.invariant c.from.ensures t.ensures in
    rw (handed_on c.from_residual.result c.from_residual.ensures.0)
    (file_past F s xs c.told-counts (l.r-index + 1) t.new.counts (is_ok t.result) (omega (arith, e.front_len)) (ap is_ok c.in_err-count_head.was) more)

pub loop-r-preserved : goal.loop-r-preserved
loop-r-preserved c =
    let xs = c.args.counts.now in
    let s = c.args.answers.now in
    let l = c.loop-r in
    let t = c.count_head in
    let e = c.as_chunks.ensures in
    let below : l.r-index < records_of F s = omega (arith, e.front_len) in
    let more = next s _ xs l.counts t.new.counts l.r-index _ (is_ok t.result) e.front c.told-counts below l.invariant c.from.ensures t.ensures in
    subst (λ (b : Bool). Summed xs (tally_of F (take (answer_size F * (l.r-index + 1)) s)) b t.new.counts) (ap is_ok c.in_ok-count_head.was) more

pub returns : goal.returns
returns c =
    let xs = c.args.counts.now in
    let s = c.args.answers.now in
    let l = c.loop-r in
    let last : l.r-index ≡ records_of F s = omega (arith, c.as_chunks.ensures.front_len) in
    file_ends F s xs c.told-counts l.counts c.add_at.new.counts (is_ok c.add_at.result)
    (subst (λ (k : ℕ). Summed xs (tally_of F (take (answer_size F * k) s)) true l.counts) last l.invariant)
    (subst (λ (n : ℕ). Summed l.counts (only tally_size left_at n) (is_ok c.add_at.result) c.add_at.new.counts) c.as_chunks.ensures.back_len c.add_at.ensures)
