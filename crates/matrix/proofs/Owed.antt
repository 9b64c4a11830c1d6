-- A judged call owes what every kernel owes: each of its three ways ends in the answer or in the refusal with 5 or 7.
use Rattle.float.proofs.Words.{◌≡◌, sym, ap, ◌∙◌, subst⁻¹, true, true≢false, List, inl, inr, ⊎_elim, ℕ, arith, Float}
use Rattle.float.specs.Choice.{pick}
use Rattle.float.specs.Sign.{all_finite}
use Rattle.float.specs.Judged.{judged_call}
use Rattle.float.proofs.Judged.{by_call}
use Rattle.matrix.specs.Owed.{Part, AllFull, Owed}

module _ {A : Type 0} (code : A → ℕ) (refuse : ℕ → A) (own : (k : ℕ) → code (refuse k) ≡ k) (used made : List Float) (r : A) where
  -- the code of each way
  pub call_code : code (judged_call refuse used made r) ≡ pick (all_finite used) (pick (all_finite made) (code r) 7) 5
  call_code =
      by_call refuse used made r (λ (q : A). code q ≡ pick (all_finite used) (pick (all_finite made) (code r) 7) 5)
      (λ e h. rw (e, h)) (λ e h. rw (e, h) (own 7)) (λ e. rw e (own 5))

  pub call_owed : (parts : A → List Part) → code r ≡ 0 → (all_finite used ≡ true → all_finite made ≡ true → AllFull (parts r))
      → Owed code refuse parts used (judged_call refuse used made r)
  call_owed parts zero full =
      let five = own 5 in
      let seven = own 7 in
      by_call refuse used made r (Owed code refuse parts used)
      (λ e h. record {
        known = inl zero;
        five = ((λ k. absurd (omega arith)), (λ k. absurd (true≢false (sym e ∙ k))));
        clear = (λ n. absurd (n zero));
        full = (λ _. full e h);
      })
      (λ e h. record {
        known = inr (inr (inr (inl seven)));
        five = ((λ k. absurd (omega arith)), (λ k. absurd (true≢false (sym e ∙ k))));
        clear = (λ _. ap refuse (sym seven));
        full = (λ k. absurd (omega arith));
      })
      (λ e. record {
        known = inr (inl five);
        five = ((λ _. e), (λ _. five));
        clear = (λ _. ap refuse (sym five));
        full = (λ k. absurd (omega arith));
      })

-- an answer that is owed is full, or it is the refusal of its code
pub by_owed : {A : Type 0} {code : A → ℕ} {refuse : ℕ → A} {parts : A → List Part} {used : List Float} {r : A} → Owed code refuse parts used r
    → (P : A → Type 0) → (AllFull (parts r) → P r) → P (refuse (code r)) → P r
by_owed o P full refused =
    ⊎_elim (λ z. full (o.full z))
    (⊎_elim (λ five. subst⁻¹ P (o.clear (λ z. omega arith)) refused)
    (⊎_elim (λ six. subst⁻¹ P (o.clear (λ z. omega arith)) refused)
    (⊎_elim (λ seven. subst⁻¹ P (o.clear (λ z. omega arith)) refused) (λ nine. subst⁻¹ P (o.clear (λ z. omega arith)) refused))))
    o.known

-- where the used numbers are finite its code is not 5
pub not_five : {A : Type 0} {code : A → ℕ} {refuse : ℕ → A} {parts : A → List Part} {used : List Float} {r : A} → Owed code refuse parts used r
    → all_finite used ≡ true → code r ≡ 5 → ⊥
not_five o e five = true≢false (sym e ∙ o.five.0 five)
