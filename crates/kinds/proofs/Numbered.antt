-- What a kind is worked by: its row and whether its way is 0. So the byte of a way and the way that stands for it give the same.
use Rattle.float.proofs.Words.{◌≡◌, refl, ◌∙◌, Bool, true, false, List, ℕ, eqb, Float, Format}
use Rattle.float.specs.Choice.{pick}
use Rattle.kinds.specs.Table.{Kind, kind_numbered, unknown}
use Rattle.kinds.specs.Work.{Asked, WorkedAnswer, refused_kind, answered_by, plain_of}
use Rattle.kinds.specs.Ways.{work_of}
use Rattle.kinds.specs.Read.{number_of_kind, row_of, asked, asked_by}
use Rattle.kinds.specs.declared.table.Kind.{Kind as NamedKind}
use Rattle.kinds.specs.declared.table.Kind.TheVariants.{Eigen2x2, Eigen3x3, Svd2x2, Svd3x3, Factor2x2, Factor3x3, Solve2x2, Solve3x3}
use Rattle.kinds.specs.declared.table.Way.TheVariants.{Scaled, AsGiven}

pub by_number : (f : Format) (k : NamedKind) (b : ℕ) (t : Bool) (nine three : List Float) → eqb b 0 ≡ t
    → work_of f (asked (record { kind = k; way = pick t Scaled AsGiven; nine = nine; three = three })) ≡ work_of f (asked_by (number_of_kind k) b nine three)
unfolding answered_by
by_number f Eigen2x2 b true nine three e = rw e
by_number f Eigen2x2 b false nine three e = rw e
by_number f Eigen3x3 b true nine three e = rw e
by_number f Eigen3x3 b false nine three e = rw e
by_number f Svd2x2 b true nine three e = rw e
by_number f Svd2x2 b false nine three e = rw e
by_number f Svd3x3 b true nine three e = rw e
by_number f Svd3x3 b false nine three e = rw e
by_number f Factor2x2 b true nine three e = refl
by_number f Factor2x2 b false nine three e = refl
by_number f Factor3x3 b true nine three e = refl
by_number f Factor3x3 b false nine three e = refl
by_number f Solve2x2 b true nine three e = refl
by_number f Solve2x2 b false nine three e = refl
by_number f Solve3x3 b true nine three e = refl
by_number f Solve3x3 b false nine three e = refl

-- a number that has no row is refused with 3
pub no_kind : (f : Format) (n b : ℕ) (nine three : List Float) → kind_numbered n ≡ unknown → refused_kind f 3 0 ≡ work_of f (asked_by n b nine three)
unfolding answered_by
no_kind f n b nine three e = rw e
