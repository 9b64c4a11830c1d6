-- The first i counts of a tally with zeros behind them, and zeros with the other counts behind: together they are the tally.
use Rattle.float.proofs.Words.{◌≡◌, refl, ap, ◌∙◌, subst, Bool, true, false, List, [], ◌∷◌, ℕ, zero, suc, ◌<◌, add-zero, zero-add, arith, length, get_or}
use Rattle.float.proofs.Words.{replicate, le_of_suc-le-suc}
use lib.ListN.{length-replicate}
use Rattle.counts.specs.Tally.{plus_of}
use Rattle.counts.specs.Adding.{Summed, only}
use Rattle.counts.proofs.Sums.{plus_zero, plus_zeros, plus_comm, then_summed, stays_past}

abbrev pub front : ℕ → List ℕ → List ℕ
front zero xs = replicate (length xs) 0
front (suc i) [] = []
front (suc i) (x ∷ xs) = x ∷ front i xs

abbrev pub behind : ℕ → List ℕ → List ℕ
behind zero xs = xs
behind (suc i) [] = []
behind (suc i) (x ∷ xs) = 0 ∷ behind i xs

pub front_length : (i : ℕ) (xs : List ℕ) → length (front i xs) ≡ length xs
front_length zero xs = length-replicate (length xs) 0
front_length (suc i) [] = refl
front_length (suc i) (x ∷ xs) = ap suc (front_length i xs)

pub behind-length : (i : ℕ) (xs : List ℕ) → length (behind i xs) ≡ length xs
behind-length zero xs = refl
behind-length (suc i) [] = refl
behind-length (suc i) (x ∷ xs) = ap suc (behind-length i xs)

pub front-behind : (i : ℕ) (xs : List ℕ) → plus_of (front i xs) (behind i xs) ≡ xs
unfolding plus_of
front-behind zero xs = plus_comm (replicate (length xs) 0) xs ∙ plus_zero xs
front-behind (suc i) [] = refl
front-behind (suc i) (x ∷ xs) = rw (add-zero x, front-behind i xs)

pub front_all : (xs : List ℕ) → front (length xs) xs ≡ xs
front_all [] = refl
front_all (x ∷ xs) = ap (λ (l : List ℕ). x ∷ l) (front_all xs)

-- one count more
pub front_more : (i : ℕ) (xs : List ℕ) → i < length xs → plus_of (front i xs) (only (length xs) i (get_or xs i 0)) ≡ front (suc i) xs
unfolding plus_of
front_more i [] h = absurd (omega arith)
front_more zero (x ∷ xs) h =
    let zeros : List ℕ = replicate (length xs) 0 in
    rw (zero-add x) (ap (λ (l : List ℕ). x ∷ l) (plus_zeros zeros (length xs) (length-replicate (length xs) 0)))
front_more (suc i) (x ∷ xs) h = rw (add-zero x, front_more i xs (le_of_suc-le-suc h))

-- ---- an adding, count by count

module _ (xs ms : List ℕ) (n : length ms ≡ length xs) (i : ℕ) where
  pub count_more : (ys zs : List ℕ) (b : Bool) → i < length ms → Summed xs (front i ms) true ys → Summed ys (only (length ms) i (get_or ms i 0)) b zs
      → Summed xs (front (suc i) ms) b zs
  count_more ys zs b h p q =
      subst (λ (u : List ℕ). Summed xs u b zs) (front_more i ms h)
      (then_summed xs (front i ms) (only (length ms) i (get_or ms i 0)) ys zs true b refl p q)

  -- a count that does not fit
  pub count_past : (zs : List ℕ) (b : Bool) → b ≡ false → Summed xs (front i ms) b zs → Summed xs ms false zs
  count_past zs b t p =
      subst (λ (u : List ℕ). Summed xs u false zs) (front-behind i ms)
      (stays_past xs (front i ms) (behind i ms) zs b (front_length i ms ∙ n) (behind-length i ms ∙ n) t p)
