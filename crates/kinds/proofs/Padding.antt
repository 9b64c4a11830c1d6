-- Numbers laid into places, and numbers taken one by one.
use Rattle.float.proofs.Words.{◌≡◌, refl, sym, ap, ◌∙◌, Bool, true, false, List, [], ◌∷◌, ◌++◌, ℕ, zero, suc, ◌≤◌, arith, length, drop, replicate, ltb}
use Rattle.float.proofs.Words.{le-ltb, lt-ltb, ltb-true, ltb-false, Float, Format}
use Rattle.std.specs.List.{fold}
use Rattle.float.specs.Choice.{pick}
use Rattle.float.specs.Constants.{zero_f}
use Rattle.float.specs.Scaled.{larger_pattern, largest_pattern_from}
use Rattle.matrix.specs.Places.{at, tabulate}
use Rattle.matrix.proofs.Tables.{tabulate-same}
use Rattle.kinds.specs.Work.{padded}

below_suc : (i k : ℕ) → ltb (suc i) (suc k) ≡ ltb i k
below_suc i k = by (ltb i k) refl
  where
    by : (t : Bool) → ltb i k ≡ t → ltb (suc i) (suc k) ≡ t
    by true e = let l = ltb-true i k e in lt-ltb (suc i) (suc k) (omega arith)
    by false e = let l = ltb-false i k e in le-ltb (suc i) (suc k) (omega arith)

none_laid : (f : Format) (n : ℕ) (g : ℕ → Float) → ((i : ℕ) → g i ≡ zero_f f) → replicate n (zero_f f) ≡ tabulate n g
none_laid f zero g h = refl
none_laid f (suc n) g h = rw (h 0) (ap (λ (l : List Float). zero_f f ∷ l) (none_laid f n (λ (i : ℕ). g (suc i)) (λ i. h (suc i))))

pub laid : (f : Format) (n k : ℕ) (xs : List Float) → length xs ≡ k → k ≤ n → xs ++ drop k (replicate n (zero_f f)) ≡ padded f n k xs
laid f n zero [] e h = none_laid f n (λ (i : ℕ). pick (ltb i 0) (at [] i) (zero_f f)) (λ i. rw (le-ltb i 0 (omega arith)))
laid f n (suc k) [] e h = absurd (omega arith)
laid f n zero (x ∷ xs) e h = absurd (omega arith)
laid f zero (suc k) (x ∷ xs) e h = absurd (omega arith)
laid f (suc n) (suc k) (x ∷ xs) e h =
    rw (lt-ltb 0 (suc k) (omega arith))
    (ap (λ (l : List Float). x ∷ l)
    (laid f n k xs (omega arith) (omega arith) ∙ tabulate-same n _ _ (λ i l. ap (λ (t : Bool). pick t (at xs i) (zero_f f)) (sym (below_suc i k)))))

pub largest_folded : (f : Format) (b : ℕ) (xs : List Float) → fold (larger_pattern f) b xs ≡ largest_pattern_from f b xs
largest_folded f b [] = refl
largest_folded f b (x ∷ xs) = largest_folded f (larger_pattern f b x) xs
