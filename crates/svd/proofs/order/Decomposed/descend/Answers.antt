-- The values and the columns change places as in the definition, or nothing does.
use Rattle.float.proofs.Words.{◌≡◌, refl, ◌∙◌, length, rules}
use Rattle.jacobi.specs.Order.{ordered}
use Rattle.svd.proofs.Placed.{columns_swapped, same_v, values_swapped}
use Rattle.svd.proofs.order.Decomposed.descend.Goals as goal

pub returns-then-self-i : goal.returns-then-self-i
unfolding ordered
returns-then-self-i g c =
    let a = c.args in
    let w = a.self.now in
    let n : length w.values ≡ g.row.N = search rules in
    let p = w.u.square in
    let h = c.requires in
    let u = c.unwrap_or-self.ensures ∙ columns_swapped a.i a.j w.u w.u _ p c.swap_columns.ensures h.0 h.1 in
    let v = c.unwrap_or-self-then-self-i.ensures ∙ columns_swapped a.i a.j w.v w.v _ p c.swap_columns-then-self-i.ensures h.0 h.1 in
    let x = c.swap.ensures.after ∙ values_swapped w.values a.i a.j (rw n h.0) (rw n h.1) in
    rw (u, v, x, n, c.if-self-i.true) refl

pub returns-else-self-i : goal.returns-else-self-i
unfolding ordered
returns-else-self-i g c =
    let w = c.args.self.now in
    rw c.if-self-i.false (same_v w w.u.square)
