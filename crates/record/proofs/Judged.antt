-- The ways through the tests on a request of the right size: refused by its form, by a used number that is not finite, and answered.
use Rattle.float.proofs.Words.{◌≡◌, sym, ◌∙◌, Bool, true, false, ◌&&◌, List, ℕ, ◌<◌, arith, take, Float, Format, ne_eqb}
use Rattle.float.specs.Sign.{all_finite}
use Rattle.kinds.specs.Table.{known_kind, known_way}
use Rattle.kinds.specs.Work.{refused_kind, used_finite}
use Rattle.kinds.specs.Ways.{work_of}
use Rattle.kinds.specs.Read.{number_of_kind, row_of, byte_of_way, asked}
use Rattle.kinds.specs.declared.table.Kind.{Kind}
use Rattle.kinds.specs.declared.work.Asked.{Asked}
use Rattle.wire.specs.Bytes.{numbers_from}
use Rattle.record.specs.Layout.{nine_at, three_at}
use Rattle.record.specs.Request.{kind_of, way_of, asked_of, form_of, judged_of}
use Rattle.record.proofs.Used.{used_first}

module _ (f : Format) (s : List ℕ) where
  pub form_way : known_kind (kind_of s) ≡ true → known_way (kind_of s) (way_of s) ≡ false → form_of f s ≡ 4
  unfolding form_of
  form_way k w = rw (k, w)

  pub judged_form : (k : ℕ) → k ≡ form_of f s → 0 < k → refused_kind f k 0 ≡ judged_of f s
  unfolding judged_of
  judged_form k e h = rw (← e, ne_eqb k 0 (λ z. omega arith))

  pub judged_five : 0 ≡ form_of f s → used_finite (asked_of f s) ≡ false → refused_kind f 5 0 ≡ judged_of f s
  unfolding judged_of
  judged_five e u = rw (← e, u)

  pub judged_worked : 0 ≡ form_of f s → used_finite (asked_of f s) ≡ true → work_of f (asked_of f s) ≡ judged_of f s
  unfolding judged_of
  judged_worked e u = rw (← e, u)

  pub used_read : (k : Kind) (nine three : List Float) (t : Bool) → number_of_kind k ≡ kind_of s → nine ≡ numbers_from f 9 nine_at s
      → three ≡ numbers_from f 3 (three_at f) s → t ≡ (all_finite (take (row_of k).nine nine) && all_finite (take (row_of k).three three))
      → used_finite (asked_of f s) ≡ t
  used_read k nine three t e p q r = sym (used_first f s) ∙ sym (r ∙ (rw (e, p, q)))

  pub asked_read : (a : Asked) → number_of_kind a.kind ≡ kind_of s → byte_of_way (row_of a.kind) a.way ≡ way_of s
      → a.nine ≡ numbers_from f 9 nine_at s → a.three ≡ numbers_from f 3 (three_at f) s → asked a ≡ asked_of f s
  asked_read a e h p q = rw (h, e, p, q)
