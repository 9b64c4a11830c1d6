-- The calls that reckon: products, multiples, the form y' H x and the norm, each sum in the order of the crate. Definitions only.
use Rattle.std.specs.Prelude.{List, [], ◌∷◌, ◌++◌, ℕ, zero, suc, leb, eqb, length, take, Float}
use Rattle.std.specs.Float.{Format}
use Rattle.std.specs.Float.Ieee.{add, mul}
use Rattle.float.specs.Choice.{pick}
use Rattle.float.specs.Constants.{zero_f, two_f}
use Rattle.float.specs.Root.{root_of}
use Rattle.matrix.specs.Answer.{Answer, refused, refused_one, answer_one, answer_all, put_of, on_first}
use Rattle.matrix.specs.Places.{at, tabulate, triangular}
use Rattle.matrix.specs.Square.{entry_of}

-- ---- y = A x, of a square matrix of size n

-- +0, and then g 0, g 1, .. of n numbers added in order
abbrev pub sum_of : Format → ℕ → (ℕ → Float) → Float
sum_of f zero g = zero_f f
sum_of f (suc n) g = add f (sum_of f n g) (g n)

abbrev pub times_of : Format → ℕ → List Float → List Float → List Float
times_of f n xs x = tabulate n (λ (r : ℕ). sum_of f n (λ (c : ℕ). mul f (entry_of n xs r c) (at x c)))

unfoldable pub product_of : Format → ℕ → List Float → List Float → Answer (List Float)
product_of f n xs x = answer_all f n (xs ++ x) (times_of f n xs x)

-- on slices, both of length n
unfoldable pub mul_of : Format → ℕ → List Float → List Float → List Float → Answer (List Float)
mul_of f n xs x y = pick (eqb (length y) n) (pick (eqb (length x) n) (put_of n (product_of f n xs x) y) (refused 1 y)) (refused 2 y)

-- ---- c times each number, of a symmetric matrix of size n

abbrev pub scaled_of : Format → ℕ → Float → List Float → List Float
scaled_of f n c xs = tabulate (triangular n) (λ (i : ℕ). mul f c (at xs i))

unfoldable pub scaled_from_of : Format → ℕ → Float → List Float → Answer (List Float)
scaled_from_of f n c xs = answer_all f (triangular n) (c ∷ xs) (scaled_of f n c xs)

-- ---- of a symmetric matrix of size 3, in the order of operations of core.rs

-- a x0 + b x1 + c x2
abbrev pub row_of : Format → Float → Float → Float → List Float → Float
row_of f a b c x = add f (add f (mul f a (at x 0)) (mul f b (at x 1))) (mul f c (at x 2))

abbrev pub row1_of : Format → List Float → List Float → Float
row1_of f h x = row_of f (at h 0) (at h 1) (at h 3) x

abbrev pub row2_of : Format → List Float → List Float → Float
row2_of f h x = row_of f (at h 1) (at h 2) (at h 4) x

abbrev pub row3_of : Format → List Float → List Float → Float
row3_of f h x = row_of f (at h 3) (at h 4) (at h 5) x

abbrev pub sym_times_of : Format → List Float → List Float → List Float
sym_times_of f h x = row1_of f h x ∷ row2_of f h x ∷ row3_of f h x ∷ []

unfoldable pub sym_product_of : Format → List Float → List Float → Answer (List Float)
sym_product_of f h x = answer_all f 3 (h ++ x) (sym_times_of f h x)

unfoldable pub sym_mul_of : Format → List Float → List Float → List Float → Answer (List Float)
sym_mul_of f h x y = on_first 3 (sym_product_of f h) x y

-- y' H x
abbrev pub quad_of : Format → List Float → List Float → List Float → Float
quad_of f h y x =
    add f (add f (add f (zero_f f) (mul f (at y 0) (row1_of f h x))) (mul f (at y 1) (row2_of f h x))) (mul f (at y 2) (row3_of f h x))

unfoldable pub quad_judged_of : Format → List Float → List Float → List Float → Answer Float
quad_judged_of f h y x = answer_one f (h ++ (y ++ x)) (quad_of f h y x)

unfoldable pub quad_form_of : Format → List Float → List Float → List Float → Answer Float
quad_form_of f h y x = pick (leb 3 (length y)) (pick (leb 3 (length x)) (quad_judged_of f h (take 3 y) (take 3 x)) (refused_one f 1)) (refused_one f 1)

-- a a + b b + c c
abbrev pub squares_of : Format → Float → Float → Float → Float
squares_of f a b c = add f (add f (mul f a a) (mul f b b)) (mul f c c)

-- the Frobenius norm: each number beside the diagonal counts twice
abbrev pub norm_of : Format → List Float → Float
norm_of f h =
    root_of f (add f (add f (zero_f f) (squares_of f (at h 0) (at h 2) (at h 5))) (mul f (squares_of f (at h 1) (at h 3) (at h 4)) (two_f f)))

unfoldable pub norm_fro_of : Format → List Float → Answer Float
norm_fro_of f h = answer_one f h (norm_of f h)
