-- A place, a number and a matrix are each told by a code and a value, which give them back.
use Rattle.float.proofs.Words.{◌≡◌, refl, sym, ap, ◌∙◌, List, ℕ, arith, eqb, Float, Format}
use Rattle.std.specs.Prelude.{Option, Some, None, Result, Ok, Err}
use Rattle.float.specs.Choice.{pick}
use Rattle.float.specs.Constants.{zero_f}
use Rattle.float.specs.OneAnswer.{OneAnswer}
use Rattle.matrix.specs.Answer.{Answer, done, refused, answered, place, entry, scalar}
use Rattle.matrix.specs.Indexed.{handed, moved, written, packed_or}
use Rattle.matrix.specs.declared.answers.Unchanged.{Unchanged}
use Rattle.matrix.specs.declared.codes.Refusal.{Refusal}
use Rattle.matrix.specs.declared.shape.DenseMatrixN.{DenseMatrixN}
use Rattle.matrix.specs.declared.shape.DenseMatrixSymN.{DenseMatrixSymN}
use Rattle.matrix.proofs.Refusals.{number_above, number_of_one, told_named}
use Rattle.matrix.proofs.Stored.{square_known, packed_known}

-- a reading that can be taken back names one thing
named_by : {A B : Type 0} (read : A → B) (back : B → A) → ((x : A) → back (read x) ≡ x) → (b : B) → OneAnswer (λ (x : A). read x ≡ b)
named_by read back is b x y e h = sym (is x) ∙ ap back (e ∙ sym h) ∙ is y

-- ---- what is inside or outside

-- the value where the code is 0
inner : {A : Type 0} → Answer A → Option A
inner a = pick (eqb a.code 0) (Some a.value) None

inner_place : (p : Option ℕ) → inner (place p) ≡ p
unfolding inner
inner_place (Some i) = refl
inner_place None = refl

pub named_place : (a : Answer ℕ) → OneAnswer (λ (p : Option ℕ). place p ≡ a)
named_place = named_by place inner inner_place

inner_entry : (f : Format) (x : Option Float) → inner (entry f x) ≡ x
unfolding inner
inner_entry f (Some x) = refl
inner_entry f None = refl

pub named_entry : (f : Format) (a : Answer Float) → OneAnswer (λ (x : Option Float). entry f x ≡ a)
named_entry f = named_by (entry f) inner (inner_entry f)

-- ---- what was worked out

pub named_answered : {A : Type 0} (z : A) (a : Answer A) → OneAnswer (λ (r : Result A Refusal). answered z r ≡ a)
named_answered {A} z =
    told_named (λ (a : Answer A). a.code) (λ (k : ℕ). refused k z) done (λ k. refl) (λ x. refl) (λ x y e. ap (λ (a : Answer A). a.value) e)

pub named_scalar : (f : Format) (a : Answer Float) → OneAnswer (λ (r : Result Float Refusal). scalar f r ≡ a)
named_scalar f = named_answered (zero_f f)

-- ---- a matrix, handed out or back

pub named_handed : {M : Type 0} (numbers : M → List Float) → ((x y : M) → numbers x ≡ numbers y → x ≡ y) → (a : Answer (List Float))
    → OneAnswer (λ (r : Result M (Unchanged M)). handed numbers r ≡ a)
named_handed numbers same a (Ok x) (Ok y) p q = ap Ok (same x y (ap (λ (b : Answer (List Float)). b.value) (p ∙ sym q)))
named_handed numbers same a (Ok x) (Err e) p q =
    let z = ap (λ (b : Answer (List Float)). b.code) (q ∙ sym p) in let l = number_above e.why in absurd (omega arith)
named_handed numbers same a (Err e) (Ok y) p q =
    let z = ap (λ (b : Answer (List Float)). b.code) (p ∙ sym q) in let l = number_above e.why in absurd (omega arith)
named_handed {M} numbers same a (Err e) (Err d) p q =
    let h = p ∙ sym q in
    let why = number_of_one {r = e.why} {q = d.why} (ap (λ (b : Answer (List Float)). b.code) h) in
    let matrix = same e.matrix d.matrix (ap (λ (b : Answer (List Float)). b.value) h) in
    ap Err (ap (λ (w : Refusal). record { why = w; matrix = e.matrix }) why ∙ ap (λ (m : M). record { why = d.why; matrix = m }) matrix)

pub named_moved : {n s : ℕ} (a : Answer (List Float)) → OneAnswer (λ (r : Result (DenseMatrixN n s) (Unchanged (DenseMatrixN n s))). moved r ≡ a)
named_moved {n} {s} = named_handed (λ (m : DenseMatrixN n s). m.«data») (λ x y e. square_known x.square y.square e)

pub named_written : {n s : ℕ} (a : Answer (List Float)) → OneAnswer (λ (r : Result (DenseMatrixSymN n s) (Unchanged (DenseMatrixSymN n s))). written r ≡ a)
named_written {n} {s} = named_handed (λ (m : DenseMatrixSymN n s). m.«data») (λ x y e. packed_known x.packed y.packed e)

-- a matrix, or the numbers xs where it is refused
pub named_packed : {n s : ℕ} (xs : List Float) (a : Answer (List Float)) → OneAnswer (λ (r : Result (DenseMatrixSymN n s) Refusal). packed_or xs r ≡ a)
named_packed xs =
    told_named (λ (a : Answer (List Float)). a.code) (λ (k : ℕ). refused k xs) (λ m. done m.«data») (λ k. refl) (λ m. refl)
    (λ x y e. packed_known x.packed y.packed (ap (λ (a : Answer (List Float)). a.value) e))
