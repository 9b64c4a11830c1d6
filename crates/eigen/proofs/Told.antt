-- The code of a call is that of the answer which is told of it: a refusal's number is the code of the refused answer. So what holds of the definition's answer
-- with code 0 holds of what a call hands out.
use Rattle.std.specs.Prelude.{Result, Ok, Err}
use Rattle.float.proofs.Words.{◌≡◌, refl, sym, ap, ◌∙◌, subst⁻¹, ℕ}
use Rattle.float.specs.Width.{F}
use Rattle.matrix.specs.Codes.{told, code_of}
use Rattle.matrix.specs.declared.codes.Refusal.{Refusal}
use Rattle.eigen.specs.Eigen3x3.{refused_eigen, whole_eigen}
use Rattle.eigen.specs.EigVals.{refused_values, whole_eig_vals}
use Rattle.eigen.specs.declared.eigen3x3.Eigen3.{Eigen3}
use Rattle.eigen.specs.declared.eigen3x3.EigVals3.{EigVals3}

-- w is what is told of a call that hands something out, and b is the definition's answer
pub handed_out : {B : Type 0} (code : B → ℕ) (P : B → Type 0) {w b : B} → w ≡ b → code w ≡ 0 → (code b ≡ 0 → P b) → P w
handed_out code P e z h = subst⁻¹ P e (h (sym (ap code e) ∙ z))

pub code_told : (r : Result Eigen3 Refusal) → code_of r ≡ (told (refused_eigen F) whole_eigen r).code
code_told (Ok x) = refl
code_told (Err e) = refl

pub values_code_told : (r : Result EigVals3 Refusal) → code_of r ≡ (told (refused_values F) whole_eig_vals r).code
values_code_told (Ok x) = refl
values_code_told (Err e) = refl
