-- Answers that are equal have equal codes, and leave equal numbers.
use Rattle.float.proofs.Words.{◌≡◌, sym, ap, ◌∙◌, List, ℕ, Float}
use Rattle.float.specs.OneAnswer.{OneOutcome}
use Rattle.matrix.specs.Answer.{Answer}
use Rattle.matrix.specs.Square.{Mat2, Mat3}
use Rattle.matrix.specs.Symmetric.{Sym2, Sym3}
use Rattle.matrix.specs.Indexed.{mat2_answer, mat3_answer, sym2_answer, sym3_answer}
use Rattle.shown.specs.Left.{left}

both : {W L : Type 0} (code : W → ℕ) (value : W → L) {x y z : W} → x ≡ z → y ≡ z → (code x ≡ code y) × (value x ≡ value y)
both code value p u = (ap code (p ∙ sym u), ap value (p ∙ sym u))

pub number-left : {S : Type 0} (w : Answer Float) (at : S → Float) → OneOutcome (λ (r : ℕ) (s : S). left r (at s) ≡ w) at
number-left w at r q s t p u = both (λ (w : Answer Float). w.code) (λ (w : Answer Float). w.value) p u

pub mat2-left : {S : Type 0} (w : Answer Mat2) (at : S → List Float) → OneOutcome (λ (r : ℕ) (s : S). mat2_answer (left r (at s)) ≡ w) at
mat2-left w at r q s t p u = both (λ (w : Answer Mat2). w.code) (λ (w : Answer Mat2). w.value.«data») p u

pub mat3-left : {S : Type 0} (w : Answer Mat3) (at : S → List Float) → OneOutcome (λ (r : ℕ) (s : S). mat3_answer (left r (at s)) ≡ w) at
mat3-left w at r q s t p u = both (λ (w : Answer Mat3). w.code) (λ (w : Answer Mat3). w.value.«data») p u

pub sym2-left : {S : Type 0} (w : Answer Sym2) (at : S → List Float) → OneOutcome (λ (r : ℕ) (s : S). sym2_answer (left r (at s)) ≡ w) at
sym2-left w at r q s t p u = both (λ (w : Answer Sym2). w.code) (λ (w : Answer Sym2). w.value.«data») p u

pub sym3-left : {S : Type 0} (w : Answer Sym3) (at : S → List Float) → OneOutcome (λ (r : ℕ) (s : S). sym3_answer (left r (at s)) ≡ w) at
sym3-left w at r q s t p u = both (λ (w : Answer Sym3). w.code) (λ (w : Answer Sym3). w.value.«data») p u
