-- How many binary digits a number has: the powers of two under it and over it tell. A shift adds its places.
use Rattle.float.proofs.Words.{◌≡◌, sym, ◌∙◌, subst, ℕ, suc, ◌+◌, ◌-◌, ◌*◌, ◌^◌, ◌≤◌, ◌<◌, mul-le-mul_right, lt_of_le_of_lt, le_trans, le_of_eq}
use Rattle.float.proofs.Words.{le_antisymm, arith, pow-add, shl_lt, size}
use lib.Ieee.Digits.{size-lt, size-le, size_reaches}
use Rattle.float.proofs.Powers.{exponent_lt}

pub size_exact : (a n : ℕ) → 2 ^ a ≤ n → n < 2 ^ suc a → size n ≡ suc a
size_exact a n lo hi = le_antisymm (size-le n (suc a) hi) (exponent_lt a (size n) (lt_of_le_of_lt lo (size-lt n)))

pub size_pos : (n : ℕ) → 0 < n → 0 < size n
size_pos n p = exponent_lt 0 (size n) (lt_of_le_of_lt p (size-lt n))

pub size-shifted : (n k : ℕ) → 0 < n → size (n * 2 ^ k) ≡ size n + k
size-shifted n k p =
    let i = size n - 1 in
    let z = size_pos n p in
    let e : size n + k ≡ suc (i + k) = omega arith in
    size_exact (i + k) (n * 2 ^ k)
    (le_trans (le_of_eq (pow-add 2 i k)) (mul-le-mul_right (2 ^ k) (size_reaches n i (omega arith))))
    (subst (λ (x : ℕ). n * 2 ^ k < 2 ^ x) e (shl_lt (size n) k (size-lt n)))
    ∙ sym e
