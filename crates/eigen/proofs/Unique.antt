-- Any two answers within the promise of a public function are equal. Each promise is read from the source, as a caller reads it.
use Rattle.std.specs.Prelude.{Result}
use Rattle.float.proofs.Words.{refl, ap, List, Float}
use Rattle.float.specs.Width.{F}
use Rattle.float.specs.OneAnswer.{OneAnswer}
use Rattle.float.proofs.OneAnswer.{named}
use Rattle.matrix.specs.declared.codes.Refusal.{Refusal}
use Rattle.matrix.specs.Square.{Mat3}
use Rattle.matrix.specs.Symmetric.{Sym3, Sym2}
use Rattle.jacobi.specs.declared.rotation.Rotation.{Rotation}
use Rattle.jacobi.specs.declared.pairs.Pair.{Pair}
use Rattle.jacobi.specs.declared.pairs.OffDiag.{OffDiag}
use Rattle.eigen.specs.declared.order.Sorted.{Sorted}
use Rattle.eigen.specs.declared.eigen2x2.Eigen2.{Eigen2}
use Rattle.eigen.specs.declared.eigen2x2.EigVals2.{EigVals2}
use Rattle.eigen.specs.declared.eigen3x3.Eigen3.{Eigen3}
use Rattle.eigen.specs.declared.eigen3x3.EigVals3.{EigVals3}
use Rattle.eigen.specs.Eigen2x2.{Eigen2Answer, refused2, whole_eigen2}
use Rattle.eigen.specs.EigVals.{EigVals2Answer, refused_values2, whole_eig_vals2, EigValsAnswer, refused_values, whole_eig_vals}
use Rattle.eigen.specs.Eigen3x3.{EigenAnswer, refused_eigen, whole_eigen}
use Rattle.matrix.proofs.Refusals.{told_named}
use Rattle.eigen.proofs.pairs.find_largest_off_diag.Reads as find-largest-off-diag
use Rattle.eigen.proofs.pairs.apply_rotation.Reads as apply-rotation
use Rattle.eigen.proofs.pairs.update_eigenvectors.Reads as update-eigenvectors
use Rattle.eigen.proofs.order.sort3.Reads as sort3
use Rattle.eigen.proofs.order.sort3_with_columns.Reads as sort3-with-columns
use Rattle.eigen.proofs.eigen2x2.eigen.Reads as eigen
use Rattle.eigen.proofs.eigen2x2.eigvals.Reads as eigvals
use Rattle.eigen.proofs.eigen3x3.eigen_jacobi.Reads as eigen-jacobi
use Rattle.eigen.proofs.eigen3x3.eigvals_jacobi.Reads as eigvals-jacobi

pub one_find_largest_off_diag : (a : Sym3) → OneAnswer (λ (r : OffDiag). find-largest-off-diag.Post tt (a, tt) r (a, tt))
one_find_largest_off_diag a = named _

pub one_apply_rotation : (a : Sym3) (p : Pair) (t : Rotation) → OneAnswer (λ (r : Sym3). apply-rotation.Post tt (a, (p, (t, tt))) r (a, (p, (t, tt))))
one_apply_rotation a p t = named _

pub one_update_eigenvectors : (v : Mat3) (p : Pair) (t : Rotation) → OneAnswer (λ (r : Mat3). update-eigenvectors.Post tt (v, (p, (t, tt))) r (v, (p, (t, tt))))
one_update_eigenvectors v p t = named _

pub one_sort3 : (a b c : Float) → OneAnswer (λ (r : List Float). sort3.Post tt (a, (b, (c, tt))) r (a, (b, (c, tt))))
one_sort3 a b c = named _

pub one_sort3_with_columns : (a b c : Float) (m : Mat3) → OneAnswer (λ (r : Sorted). sort3-with-columns.Post tt (a, (b, (c, (m, tt)))) r (a, (b, (c, (m, tt)))))
one_sort3_with_columns a b c m = named _

pub one_eigen : (a : Sym2) → OneAnswer (λ (r : Result Eigen2 Refusal). eigen.Post tt (a, tt) r (a, tt))
one_eigen a =
    told_named (λ (b : Eigen2Answer). b.code) (refused2 F) whole_eigen2 (λ k. refl) (λ x. refl)
    (λ x y. ap (λ (b : Eigen2Answer). record { settled = b.settled; values = b.values; vectors = b.vectors })) _

pub one_eigvals : (a : Sym2) → OneAnswer (λ (r : Result EigVals2 Refusal). eigvals.Post tt (a, tt) r (a, tt))
one_eigvals a =
    told_named (λ (b : EigVals2Answer). b.code) (refused_values2 F) whole_eig_vals2 (λ k. refl) (λ x. refl)
    (λ x y. ap (λ (b : EigVals2Answer). record { settled = b.settled; values = b.values })) _

pub one_eigen_jacobi : (a : Sym3) → OneAnswer (λ (r : Result Eigen3 Refusal). eigen-jacobi.Post tt (a, tt) r (a, tt))
one_eigen_jacobi a =
    told_named (λ (b : EigenAnswer). b.code) (refused_eigen F) whole_eigen (λ k. refl) (λ x. refl)
    (λ x y. ap (λ (b : EigenAnswer). record { made = b.made; settled = b.settled; values = b.values; vectors = b.vectors; worked = b.worked })) _

pub one_eigvals_jacobi : (a : Sym3) → OneAnswer (λ (r : Result EigVals3 Refusal). eigvals-jacobi.Post tt (a, tt) r (a, tt))
one_eigvals_jacobi a =
    told_named (λ (b : EigValsAnswer). b.code) (refused_values F) whole_eig_vals (λ k. refl) (λ x. refl)
    (λ x y. ap (λ (b : EigValsAnswer). record { made = b.made; settled = b.settled; values = b.values; worked = b.worked })) _
