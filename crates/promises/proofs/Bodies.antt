-- Two requests of one kind that differ in nothing but the numbers that the kind uses: the tests of 3 and 4 read the same bytes of both. So what every refusal
-- keeps, and the kernel's answers keep, the answers to both requests keep.
use Rattle.float.proofs.Words.{◌≡◌, sym, ap, ◌∙◌, true, List, ℕ, ◌+◌, ◌-◌, ◌≤◌, ◌<◌, arith, eqb, length, get_or, take, drop, drop-drop}
use Rattle.float.proofs.Words.{take-append-drop, get_or-take, length-take-le, mul-le-mul_left, mul-zero, Format, eqb-false}
use Rattle.float.proofs.Choice.{both_chosen}
use Rattle.kinds.specs.Table.{kind_numbered}
use Rattle.kinds.specs.Work.{WorkedAnswer, refused_kind, used_finite}
use Rattle.kinds.specs.Ways.{work_of}
use Rattle.wire.specs.Bytes.{number_bytes, place_of, part, all_zero}
use Rattle.wire.proofs.Parts.{part_within}
use Rattle.record.specs.Layout.{reserved_at, nine_at, three_at, request_size}
use Rattle.record.specs.Request.{kind_of, way_of, asked_of, reserved_zero, unused_zero, form_of, judged_of}

-- lists that are the same from k on are so from any later place on
pub further : (k m : ℕ) (s t : List ℕ) → k ≤ m → drop k t ≡ drop k s → drop m t ≡ drop m s
further k m s t h e =
    let q : m ≡ k + (m - k) = omega arith in
    let behind : (r : List ℕ) → drop m r ≡ drop (m - k) (drop k r) = λ (r : List ℕ). ap (λ (j : ℕ). drop j r) q ∙ sym (drop-drop (m - k) k r) in
    behind t ∙ ap (drop (m - k)) e ∙ sym (behind s)

-- the kind of s uses the first n of the nine numbers and none of the three, and t is s but for these
module _ (f : Format) (s t : List ℕ) (n : ℕ) (nine : (kind_numbered (kind_of s)).nine ≡ n) (three : (kind_numbered (kind_of s)).three ≡ 0) (most : n ≤ 9)
    (size : length s ≡ request_size f) (size' : length t ≡ request_size f)
    (head : take nine_at t ≡ take nine_at s) (rest : drop (place_of f nine_at n) t ≡ drop (place_of f nine_at n) s) where
  byte_same : (i : ℕ) → i < nine_at → get_or t i 0 ≡ get_or s i 0
  byte_same i l = sym (get_or-take nine_at t i 0 l) ∙ ap (λ (h : List ℕ). get_or h i 0) head ∙ get_or-take nine_at s i 0 l

  pub kind_same : kind_of t ≡ kind_of s
  kind_same = byte_same 4 (omega arith)

  pub way_same : way_of t ≡ way_of s
  way_same = byte_same 5 (omega arith)

  -- the reserved bytes lie in the head
  in_head : (r : List ℕ) → length r ≡ request_size f → part reserved_at 2 r ≡ part reserved_at 2 (take nine_at r)
  in_head r e =
      ap (part reserved_at 2) (sym (take-append-drop nine_at r))
      ∙ part_within reserved_at 2 (take nine_at r) (drop nine_at r) (omega (arith, length-take-le nine_at r (omega arith)))

  reserved_same : reserved_zero t ≡ reserved_zero s
  reserved_same = ap all_zero (in_head t size' ∙ ap (part reserved_at 2) head ∙ sym (in_head s size))

  -- all that lies behind the numbers
  behind-same : (m : ℕ) → place_of f nine_at n ≤ m → drop m t ≡ drop m s
  behind-same m h = further (place_of f nine_at n) m s t h rest

  unused_same : unused_zero f (kind_numbered (kind_of s)) t ≡ unused_zero f (kind_numbered (kind_of s)) s
  unused_same =
      let last = mul-le-mul_left (number_bytes f) most in
      let none = mul-zero (number_bytes f) in
      rw (nine, three, behind-same (place_of f nine_at n) (omega arith), behind-same (place_of f (three_at f) 0) (omega arith))

  same_form : form_of f t ≡ form_of f s
  unfolding form_of
  same_form = rw (kind_same, way_same, reserved_same, unused_same)

  -- the same tests on both sides, so the same side of each choice is taken
  pub kept : (R : WorkedAnswer → WorkedAnswer → Type 0) → ((k : ℕ) → (k ≡ 0 → ⊥) → R (refused_kind f k 0) (refused_kind f k 0))
      → used_finite (asked_of f t) ≡ used_finite (asked_of f s) → (used_finite (asked_of f s) ≡ true → R (work_of f (asked_of f s)) (work_of f (asked_of f t)))
      → R (judged_of f s) (judged_of f t)
  unfolding judged_of
  kept R refused used worked =
      let k = form_of f s in
      rw (same_form, used)
      (both_chosen R (eqb k 0) _ _ _ _
      (λ _. both_chosen R (used_finite (asked_of f s)) _ _ _ _ worked (λ _. refused 5 (λ e. absurd (omega arith))))
      (λ e. refused k (eqb-false k 0 e)))
