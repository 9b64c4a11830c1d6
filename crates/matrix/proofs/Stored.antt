-- What a size says of its storage; it is a test, so a matrix is known by its numbers alone.
use Rattle.float.proofs.Words.{◌≡◌, ap, ◌∙◌, Bool, true, false, ◌&&◌, List, ℕ, ◌*◌, Float, leb, eqb, T, eqb→eq}
use Rattle.std.proofs.Math.Dec.{T_prop}
use Rattle.matrix.specs.Places.{triangular, IsSquare, IsPacked}
use Rattle.matrix.specs.Square.{square_with}
use Rattle.matrix.specs.Symmetric.{packed_with}

right_test : (t u : Bool) → T (t && u) → T u
right_test true u h = h
right_test false u h = elim h [ ]

pub square_numbers : (n s : ℕ) → IsSquare n s → s ≡ n * n
square_numbers n s h = eqb→eq s (n * n) (right_test (leb 2 n) (eqb s (n * n)) h)

pub packed_numbers : (n s : ℕ) → IsPacked n s → s ≡ triangular n
packed_numbers n s h = eqb→eq s (triangular n) (right_test (leb n 3) (eqb s (triangular n)) h)

pub square_known : {n s : ℕ} (p q : IsSquare n s) {xs ys : List Float} → xs ≡ ys → square_with {n = n} {s = s} p xs ≡ square_with q ys
square_known {n} {s} p q {xs} {ys} e =
    ap (λ (zs : List Float). square_with {n = n} {s = s} p zs) e ∙ ap (λ (r : IsSquare n s). square_with {n = n} {s = s} r ys) (T_prop _ p q)

pub packed_known : {n s : ℕ} (p q : IsPacked n s) {xs ys : List Float} → xs ≡ ys → packed_with {n = n} {s = s} p xs ≡ packed_with q ys
packed_known {n} {s} p q {xs} {ys} e =
    ap (λ (zs : List Float). packed_with {n = n} {s = s} p zs) e ∙ ap (λ (r : IsPacked n s). packed_with {n = n} {s = s} r ys) (T_prop _ p q)
