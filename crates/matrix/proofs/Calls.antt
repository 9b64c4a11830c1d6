-- The codes of the calls on matrices, by their rows: lengths first, the output's before the input's, then the numbers; 8 where a place is named.
use Rattle.float.proofs.Words.{◌≡◌, refl, sym, ◌∙◌, subst, Bool, true, false, ◌&&◌, true≢false, List, [], ◌∷◌, ◌++◌, inl, inr, ℕ, ◌≤◌, ◌<◌, arith, ltb, leb}
use Rattle.float.proofs.Words.{length, take, Float, Format, le-leb, leb-true, lt-ltb, ltb-true}
use Rattle.float.specs.Choice.{pick}
use Rattle.float.proofs.Choice.{by_test, by_eqb}
use Rattle.matrix.specs.Answer.{Answer, done, refused, refused_one, refused_all, answer_one, answer_all, put_of, on_first}
use Rattle.matrix.specs.Arithmetic.{times_of, product_of, mul_of, scaled_of, scaled_from_of, sym_times_of, sym_product_of, sym_mul_of, quad_of, quad_judged_of}
use Rattle.matrix.specs.Arithmetic.{quad_form_of, norm_of, norm_fro_of}
use Rattle.matrix.specs.Indexed.{inside, flip_column_of}
use Rattle.matrix.specs.Places.{triangular}
use Rattle.matrix.specs.Rows.{Row, on, Gives, WrongLength, TooShort, Outside, kernel_rows}
use Rattle.matrix.proofs.Owed.{call_code}
use Rattle.matrix.proofs.Rows.{last_row, by_inside, kernel_codes}

-- ---- a row and a column

inside_code : {A : Type 0} (t u : Bool) (x z : A) → (pick t (pick u (done x) (refused 8 z)) (refused 8 z)).code ≡ pick (t && u) 0 8
inside_code true true x z = refl
inside_code true false x z = refl
inside_code false u x z = refl

-- of the place, of reading and writing it, and of two columns that change places
pub inside-codes : {A : Type 0} (n r c : ℕ) (x z : A) → Gives (on 8 (Outside n r c) ∷ []) (inside n r c x z).code
unfolding inside
inside-codes n r c x z = rw (inside_code (ltb r n) (ltb c n) x z) (last_row (ltb r n && ltb c n) (on 8 (Outside n r c)) [] 0 (by_inside n r c) refl)

pub flip-codes : (n i : ℕ) (xs : List Float) → Gives (on 8 (i < n → ⊥) ∷ []) (flip_column_of n i xs).code
unfolding flip_column_of
flip-codes n i xs =
    by_test (λ (a : Answer (List Float)). Gives (on 8 (i < n → ⊥) ∷ []) a.code) (ltb i n) _ _ (λ e. inr ((λ w. w (ltb-true i n e)), refl))
    (λ e. inl ((λ h. true≢false (sym (lt-ltb i n h) ∙ e)), refl))

-- ---- numbers worked out of numbers

pub all_codes : (f : Format) (n : ℕ) (used made : List Float) → Gives (kernel_rows used made) (answer_all f n used made).code
all_codes f n used made = kernel_codes used made (call_code (λ (a : Answer (List Float)). a.code) (refused_all f n) (λ k. refl) used made (done made))

one_codes : (f : Format) (used : List Float) (x : Float) → Gives (kernel_rows used (x ∷ [])) (answer_one f used x).code
one_codes f used x = kernel_codes used (x ∷ []) (call_code (λ (a : Answer Float). a.code) (refused_one f) (λ k. refl) used (x ∷ []) (done x))

pub scaled_codes : (f : Format) (n : ℕ) (c : Float) (xs : List Float) → Gives (kernel_rows (c ∷ xs) (scaled_of f n c xs)) (scaled_from_of f n c xs).code
unfolding scaled_from_of
scaled_codes f n c xs = all_codes f (triangular n) (c ∷ xs) (scaled_of f n c xs)

pub norm_codes : (f : Format) (h : List Float) → Gives (kernel_rows h (norm_of f h ∷ [])) (norm_fro_of f h).code
unfolding norm_fro_of
norm_codes f h = one_codes f h (norm_of f h)

-- ---- on slices

put_code : (n : ℕ) (a : Answer (List Float)) (y : List Float) → n ≤ length y → (put_of n a y).code ≡ a.code
unfolding put_of
put_code n a y h = rw (le-leb n (length y) h)

short : (n : ℕ) (z : List Float) → leb n (length z) ≡ false → TooShort z n
short n z e h = true≢false (sym (le-leb n (length z) h) ∙ e)

-- of two slices that both have n places
pub mul-codes : (f : Format) (n : ℕ) (xs x y : List Float)
    → Gives (on 2 (WrongLength y n) ∷ on 1 (WrongLength x n) ∷ kernel_rows (xs ++ x) (times_of f n xs x)) (mul_of f n xs x y).code
unfolding mul_of product_of
mul-codes f n xs x y =
    let rows : List Row = kernel_rows (xs ++ x) (times_of f n xs x) in
    let P : Answer (List Float) → Type 0 = λ (a : Answer (List Float)). Gives (on 2 (WrongLength y n) ∷ on 1 (WrongLength x n) ∷ rows) a.code in
    by_eqb P (length y) n _ _
    (λ e. by_eqb P (length x) n _ _
    (λ q. inr (
      (λ w. w e),
      inr (
        (λ w. w q),
        subst (Gives rows) (sym (put_code n (product_of f n xs x) y (omega arith))) (all_codes f n (xs ++ x) (times_of f n xs x)),
      ),
    ))
    (λ q. inr ((λ w. w e), inl (q, refl))))
    (λ e. inl (e, refl))

-- of two slices of n places or more, with the rows of the call on the first n
pub first_codes : (n : ℕ) (call : List Float → Answer (List Float)) (x y : List Float) (rows : List Row) → Gives rows (call (take n x)).code
    → Gives (on 2 (TooShort y n) ∷ on 1 (TooShort x n) ∷ rows) (on_first n call x y).code
first_codes n call x y rows g =
    let P : Answer (List Float) → Type 0 = λ (a : Answer (List Float)). Gives (on 2 (TooShort y n) ∷ on 1 (TooShort x n) ∷ rows) a.code in
    by_test P (leb n (length y)) _ _
    (λ e. by_test P (leb n (length x)) _ _
    (λ q. inr (
      (λ w. w (leb-true n (length y) e)),
      inr (
        (λ w. w (leb-true n (length x) q)),
        subst (Gives rows) (sym (put_code n (call (take n x)) y (leb-true n (length y) e))) g,
      ),
    ))
    (λ q. inr ((λ w. w (leb-true n (length y) e)), inl (short n x q, refl))))
    (λ e. inl (short n y e, refl))

pub sym_mul_codes : (f : Format) (h x y : List Float)
    → Gives (on 2 (TooShort y 3) ∷ on 1 (TooShort x 3) ∷ kernel_rows (h ++ take 3 x) (sym_times_of f h (take 3 x))) (sym_mul_of f h x y).code
unfolding sym_mul_of sym_product_of
sym_mul_codes f h x y =
    let made = sym_times_of f h (take 3 x) in
    first_codes 3 (sym_product_of f h) x y (kernel_rows (h ++ take 3 x) made) (all_codes f 3 (h ++ take 3 x) made)

pub form_codes : (f : Format) (h y x : List Float)
    → Gives (on 1 (TooShort y 3) ∷ on 1 (TooShort x 3) ∷ kernel_rows (h ++ (take 3 y ++ take 3 x)) (quad_of f h (take 3 y) (take 3 x) ∷ []))
    (quad_form_of f h y x).code
unfolding quad_form_of quad_judged_of
form_codes f h y x =
    let rows : List Row = kernel_rows (h ++ (take 3 y ++ take 3 x)) (quad_of f h (take 3 y) (take 3 x) ∷ []) in
    let P : Answer Float → Type 0 = λ (a : Answer Float). Gives (on 1 (TooShort y 3) ∷ on 1 (TooShort x 3) ∷ rows) a.code in
    by_test P (leb 3 (length y)) _ _
    (λ e. by_test P (leb 3 (length x)) _ _
    (λ q. inr ((λ w. w (leb-true 3 (length y) e)), inr ((λ w. w (leb-true 3 (length x) q)), one_codes f _ _)))
    (λ q. inr ((λ w. w (leb-true 3 (length y) e)), inl (short 3 x q, refl))))
    (λ e. inl (short 3 y e, refl))
