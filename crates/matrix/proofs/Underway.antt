-- A loop over n numbers that writes each in its place: those before i are made, and the others are as they were.
use Rattle.float.proofs.Words.{◌≡◌, refl, sym, ◌∙◌, subst⁻¹, List, ℕ, ◌+◌, ◌<◌, ◌≤◌, arith, length, set, length-set, Float, nan}
use Rattle.std.proofs.lemmas.List.{get_or-set_same, get_or-set_other}
use borrow.Author.Count.{below_more}
use Rattle.matrix.specs.Places.{at, tabulate}
use Rattle.matrix.proofs.Tables.{tabulate-same, tabulate_all}

pub record Underway (Made : ℕ → Float → Type 0) (n i : ℕ) (xs ys : List Float) : Type 0 where
  pub full : length ys ≡ n
  pub made : (k : ℕ) → k < i → Made k (at ys k)
  pub rest : (k : ℕ) → i ≤ k → at ys k ≡ at xs k

module _ (Made : ℕ → Float → Type 0) (n : ℕ) where
  pub begun : (xs : List Float) → length xs ≡ n → Underway Made n 0 xs xs
  begun xs e = record { full = e; made = λ k h. absurd (omega arith); rest = λ k h. refl }

  pub stored_next : {i : ℕ} {xs ys : List Float} {y : Float} → Underway Made n i xs ys → i < n → Made i y → Underway Made n (i + 1) xs (set ys i y)
  stored_next {i} {xs} {ys} {y} u l here = record {
    full = length-set ys i y ∙ u.full;
    made =
        below_more (λ (k : ℕ). Made k (at (set ys i y) k)) i
        (λ k h. subst⁻¹ (Made k) (get_or-set_other ys i k y nan (λ e. omega arith)) (u.made k h))
        (subst⁻¹ (Made i) (get_or-set_same ys i y nan (omega (arith, u.full))) here);
    rest = λ k h. get_or-set_other ys i k y nan (λ e. omega arith) ∙ u.rest k (omega arith);
  }

-- all are made
pub table_made : (g : ℕ → Float) (n : ℕ) {i : ℕ} {xs ys : List Float} → Underway (λ (k : ℕ) (y : Float). y ≡ g k) n i xs ys → n ≤ i → ys ≡ tabulate n g
table_made g n {i} {xs} {ys} u l = sym (tabulate_all n ys u.full) ∙ tabulate-same n (at ys) g (λ k h. u.made k (omega arith))
