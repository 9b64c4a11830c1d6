-- What a checked rotation keeps, whatever the rotation: each side of each test keeps it.
use Rattle.float.proofs.Words.{◌≡◌, refl, sym, ap, ◌∙◌, true, List, [], ◌∷◌, ℕ, arith, Float, Format}
use Rattle.float.specs.Sign.{all_finite}
use Rattle.float.proofs.Choice.{chosen, by_test}
use Rattle.matrix.specs.Answer.{Answer, refused}
use Rattle.matrix.specs.Codes.{number_of}
use Rattle.matrix.specs.declared.codes.Refusal.{Refusal}
use Rattle.matrix.proofs.Refusals.{number_above}
use Rattle.jacobi.specs.declared.rotation.Rotation.{Rotation}
use Rattle.eigen.specs.Pairs.{applied_of}
use Rattle.jacobi.specs.declared.pairs.Pair.{Pair}
use Rattle.lent.specs.InPlace.{rotated_of}

module _ (f : Format) (p : Pair) (r : Rotation) (a : List Float) where
  -- of any property of an answer: it is enough that the rotated numbers, if finite, and the old ones with 5 and 7 have it
  each : (P : Answer (List Float) → Type 0) → (all_finite (applied_of f p r a) ≡ true → P (record { code = 0; value = applied_of f p r a }))
      → P (record { code = 5; value = a }) → P (record { code = 7; value = a }) → P (rotated_of f p r a)
  unfolding rotated_of
  each P new on5 on7 =
      chosen P (all_finite a) _ _ (chosen P (all_finite (r.c ∷ r.s ∷ r.t ∷ [])) _ _ (by_test P (all_finite (applied_of f p r a)) _ _ new (λ _. on7)) on5) on5

  -- refused, the numbers are the old ones
  pub unchanged : ((rotated_of f p r a).code ≡ 0 → ⊥) → (rotated_of f p r a).value ≡ a
  unchanged = each (λ (w : Answer (List Float)). (w.code ≡ 0 → ⊥) → w.value ≡ a) (λ _ no. absurd (no refl)) (λ _. refl) (λ _. refl)

  -- finite numbers stay finite
  pub stays_finite : all_finite a ≡ true → all_finite (rotated_of f p r a).value ≡ true
  stays_finite h = each (λ (w : Answer (List Float)). all_finite w.value ≡ true) (λ new. new) h h

  -- so that a refusal and the old numbers tell all of it
  pub told_refused : (e : Refusal) → number_of e ≡ (rotated_of f p r a).code → refused (number_of e) a ≡ rotated_of f p r a
  told_refused e h =
      let w = rotated_of f p r a in
      let n = number_above e in
      ap (λ (k : ℕ). refused k a) h ∙ ap (refused w.code) (sym (unchanged (λ z. omega arith)))
