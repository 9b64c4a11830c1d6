-- A refusal has a number of its own, never 0: so what is told of a call leaves one answer, and its code tells the refusal.
use Rattle.float.proofs.Words.{◌≡◌, refl, sym, ap, ◌∙◌, [], ◌∷◌, ℕ, ◌<◌, lit<, arith, get_or}
use Rattle.std.specs.Prelude.{Result, Ok, Err}
use Rattle.float.specs.OneAnswer.{OneAnswer, OneOutcome}
use Rattle.matrix.specs.Codes.{number_of, told, code_of}
use Rattle.matrix.specs.declared.codes.Refusal.{Refusal}
use Rattle.matrix.specs.declared.codes.Refusal.TheVariants.{InputLength, OutputLength, UnknownKind, Reserved, InputNotFinite, Pivot, AnswerNotFinite}
use Rattle.matrix.specs.declared.codes.Refusal.TheVariants.{Outside, NanPivot, RowsUnequal, RowTooLong, CountTooLarge}

pub number_above : (r : Refusal) → 0 < number_of r
number_above InputLength = lit< tt
number_above OutputLength = lit< tt
number_above UnknownKind = lit< tt
number_above Reserved = lit< tt
number_above InputNotFinite = lit< tt
number_above Pivot = lit< tt
number_above AnswerNotFinite = lit< tt
number_above Outside = lit< tt
number_above NanPivot = lit< tt
number_above RowsUnequal = lit< tt
number_above RowTooLong = lit< tt
number_above CountTooLarge = lit< tt

-- the refusal of a number
abbrev numbered : ℕ → Refusal
numbered k =
    get_or
    (InputLength ∷ InputLength ∷ OutputLength ∷ UnknownKind ∷ Reserved ∷ InputNotFinite ∷ Pivot ∷ AnswerNotFinite
    ∷ Outside ∷ NanPivot ∷ RowsUnequal ∷ RowTooLong ∷ [])
    k CountTooLarge

numbered_is : (r : Refusal) → numbered (number_of r) ≡ r
numbered_is InputLength = refl
numbered_is OutputLength = refl
numbered_is UnknownKind = refl
numbered_is Reserved = refl
numbered_is InputNotFinite = refl
numbered_is Pivot = refl
numbered_is AnswerNotFinite = refl
numbered_is Outside = refl
numbered_is NanPivot = refl
numbered_is RowsUnequal = refl
numbered_is RowTooLong = refl
numbered_is CountTooLarge = refl

pub number_of_one : {r q : Refusal} → number_of r ≡ number_of q → r ≡ q
number_of_one {r} {q} e = sym (numbered_is r) ∙ ap numbered e ∙ numbered_is q

-- what is told of a call, where a whole answer tells the value and no refusal looks like one, tells what was returned
pub told_one : {A B : Type 0} (refuse : ℕ → B) (whole : A → B) → ((x y : A) → whole x ≡ whole y → x ≡ y) → ((j k : ℕ) → refuse j ≡ refuse k → j ≡ k)
    → ((k : ℕ) (x : A) → 0 < k → refuse k ≡ whole x → ⊥) → (r q : Result A Refusal) → told refuse whole r ≡ told refuse whole q → r ≡ q
told_one refuse whole same number apart (Ok x) (Ok y) e = ap Ok (same x y e)
told_one refuse whole same number apart (Ok x) (Err b) e = absurd (apart (number_of b) x (number_above b) (sym e))
told_one refuse whole same number apart (Err a) (Ok y) e = absurd (apart (number_of a) y (number_above a) e)
told_one refuse whole same number apart (Err a) (Err b) e = ap Err (number_of_one (number (number_of a) (number_of b) e))

-- where each answer names its code
pub told_by_code : {A B : Type 0} (code : B → ℕ) (refuse : ℕ → B) (whole : A → B) → ((k : ℕ) → code (refuse k) ≡ k) → ((x : A) → code (whole x) ≡ 0)
    → ((x y : A) → whole x ≡ whole y → x ≡ y) → (r q : Result A Refusal) → told refuse whole r ≡ told refuse whole q → r ≡ q
told_by_code code refuse whole own zero same =
    told_one refuse whole same (λ j k e. sym (own j) ∙ ap code e ∙ own k)
    (λ k x l e. let h : k ≡ 0 = sym (own k) ∙ ap code e ∙ zero x in omega arith)

-- ---- calls that hand out nothing but their code

pub code_of_number : (A : Type 0) (r : Refusal) → code_of {A = A} (Err r) ≡ 0 → ⊥
code_of_number A r e = let l = number_above r in omega arith

pub code_of_one : {r q : Result (Unit {0}) Refusal} → code_of r ≡ code_of q → r ≡ q
code_of_one {r} {q} e = told_by_code (λ (k : ℕ). k) (λ (k : ℕ). k) (λ (x : Unit {0}). 0) (λ k. refl) (λ x. refl) (λ x y h. refl) r q e

-- of a call that leaves something in what it was lent
pub code_named : {S L : Type 0} (k : ℕ) (l : L) (left : S → L) → OneOutcome (λ (r : Result (Unit {0}) Refusal) (s : S). (code_of r ≡ k) × (left s ≡ l)) left
code_named k l left r q s t p u = (code_of_one (p.0 ∙ sym u.0), p.1 ∙ sym u.1)

-- of one whose answer is told by its code and its value
pub told_named : {A B : Type 0} (code : B → ℕ) (refuse : ℕ → B) (whole : A → B) → ((k : ℕ) → code (refuse k) ≡ k) → ((x : A) → code (whole x) ≡ 0)
    → ((x y : A) → whole x ≡ whole y → x ≡ y) → (b : B) → OneAnswer (λ (r : Result A Refusal). told refuse whole r ≡ b)
told_named code refuse whole own zero same b r q p u = told_by_code code refuse whole own zero same r q (p ∙ sym u)
