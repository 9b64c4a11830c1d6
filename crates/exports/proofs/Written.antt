-- Numbers that are written part behind part: each part stands behind those before it, and the last ends at the end.
use borrow.Rule.Slice.PartMut.{put_mid}
use Rattle.std.proofs.lemmas.List.{drop_all}
use Rattle.float.proofs.Words.{◌≡◌, ap, sym, ◌∙◌, List, ◌++◌, append-nil, append_assoc, ℕ, ◌-◌, arith, length}
use Rattle.float.proofs.Words.{drop, take_at, drop_at, length-append, Float}

-- a part of k places behind the a numbers in front
behind : (a k : ℕ) (front rest ys : List Float) → length front ≡ a → put_mid a k (front ++ rest) ys ≡ (front ++ ys) ++ drop k rest
behind a k front rest ys e = rw (take_at front rest a e, drop_at front rest a e) (sym (append_assoc front ys (drop k rest)))

-- the part up to the end of the slice m
abbrev last : ℕ → List Float → List Float → List Float
last a m ys = put_mid a (length m - a) m ys

at_end : (a : ℕ) (front rest ys : List Float) → length front ≡ a → last a (front ++ rest) ys ≡ front ++ ys
at_end a front rest ys e =
    behind a (length (front ++ rest) - a) front rest ys e
    ∙ rw (drop_all (length (front ++ rest) - a) rest (omega (arith, length-append front rest))) (append-nil (front ++ ys))

-- three numbers and nine, and the rest of out; or nine twice
module _ (out v u : List Float) (three : length v ≡ 3) (nine : length u ≡ 9) where
  abbrev after_nine : List Float
  after_nine = put_mid 3 9 (v ++ drop 3 out) u

  both : after_nine ≡ (v ++ u) ++ drop 9 (drop 3 out)
  both = behind 3 9 v (drop 3 out) u three

  twelve : length (v ++ u) ≡ 12
  twelve = rw (length-append v u, three, nine)

  pub three_parts : (z : List Float) → last 12 after_nine z ≡ (v ++ u) ++ z
  three_parts z = ap (λ (m : List Float). last 12 m z) both ∙ at_end 12 (v ++ u) (drop 9 (drop 3 out)) z twelve

  pub four_parts : (w z : List Float) → length w ≡ 9 → last 21 (put_mid 12 9 after_nine w) z ≡ ((v ++ u) ++ w) ++ z
  four_parts w z nine-2 =
      ap (λ (m : List Float). last 21 (put_mid 12 9 m w) z) both
      ∙ ap (λ (m : List Float). last 21 m z) (behind 12 9 (v ++ u) (drop 9 (drop 3 out)) w twelve)
      ∙ at_end 21 ((v ++ u) ++ w) (drop 9 (drop 9 (drop 3 out))) z (rw (length-append (v ++ u) w, twelve, nine-2))
