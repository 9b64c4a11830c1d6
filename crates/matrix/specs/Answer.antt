-- Answers: a code and a value. Where a call is refused the code says why, and the value is made of zeros. Definitions only.
use Rattle.std.specs.Prelude.{◌≡◌, List, [], ◌∷◌, ◌++◌, ℕ, leb, eqb, length, take, drop, Float, Option, Some, None, Result}
use Rattle.std.specs.Float.{Format}
use Rattle.float.specs.Choice.{pick}
use Rattle.float.specs.Constants.{zero_f}
use Rattle.float.specs.Judged.{judged, judged_call}
use Rattle.matrix.specs.Codes.{told}
use Rattle.matrix.specs.Places.{zeros}
use Rattle.matrix.specs.declared.codes.Refusal.{Refusal}

pub record Answer (A : Type 0) : Type 0 where
  pub code : ℕ
  pub value : A

abbrev pub done : {A : Type 0} → A → Answer A
done x = record { code = 0; value = x }

abbrev pub refused : {A : Type 0} → ℕ → A → Answer A
refused k x = record { code = k; value = x }

-- the code of a call, and its value, or z where it is refused
abbrev pub answered : {A : Type 0} → A → Result A Refusal → Answer A
answered z r = told (λ (k : ℕ). refused k z) done r

-- ---- the code and the value of a place, which may be outside, and of a number

abbrev pub place : Option ℕ → Answer ℕ
place (Some i) = done i
place None = refused 8 0

abbrev pub entry : Format → Option Float → Answer Float
entry f (Some x) = done x
entry f None = refused 8 (zero_f f)

abbrev pub scalar : Format → Result Float Refusal → Answer Float
scalar f r = answered (zero_f f) r

-- ---- one number, or n of them, worked out: 7 where one is not finite

abbrev pub refused_one : Format → ℕ → Answer Float
refused_one f k = refused k (zero_f f)

abbrev pub refused_all : Format → ℕ → ℕ → Answer (List Float)
refused_all f n k = refused k (zeros f n)

abbrev pub judged_one : Format → Float → Answer Float
judged_one f x = judged (refused_one f) 7 (x ∷ []) (done x)

abbrev pub judged_all : Format → ℕ → List Float → Answer (List Float)
judged_all f n xs = judged (refused_all f n) 7 xs (done xs)

-- ---- the same worked out of the numbers `used`: 5 where one of these is not finite

abbrev pub answer_one : Format → List Float → Float → Answer Float
answer_one f used x = judged_call (refused_one f) used (x ∷ []) (done x)

abbrev pub answer_all : Format → ℕ → List Float → List Float → Answer (List Float)
answer_all f n used xs = judged_call (refused_all f n) used xs (done xs)

-- ---- a lent slice: n numbers take its first places where the code is 0, and what lies past them stays; a slice of fewer places is refused with 2

unfoldable pub put_of : ℕ → Answer (List Float) → List Float → Answer (List Float)
put_of n a y = pick (leb n (length y)) (record { code = a.code; value = pick (eqb a.code 0) (a.value ++ drop n y) y }) (refused 2 y)

-- a call on slices of n places or more, of which the first n count: x is read, and y is lent
abbrev pub on_first : ℕ → (List Float → Answer (List Float)) → List Float → List Float → Answer (List Float)
on_first n call x y = pick (leb n (length y)) (pick (leb n (length x)) (put_of n (call (take n x)) y) (refused 1 y)) (refused 2 y)

-- what is lent takes the value where the code is 0
abbrev pub when_done : {A : Type 0} → Answer A → A → Answer A
when_done r found = record { code = r.code; value = pick (eqb r.code 0) r.value found }

-- what a call on something lent promises: the code, and what is there at exit
abbrev pub Outcome : {A : Type 0} → Answer A → ℕ → A → Type 0
Outcome a code left = (code ≡ a.code) × (left ≡ a.value)
