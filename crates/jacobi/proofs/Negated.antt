-- The rotation chosen for a pair is the same, to the bit, for the pair negated: every test reads magnitudes or compares with zero, and theta is a quotient of
-- two numbers that both change sign. The one thing that could tell the two apart is the sign of a zero. It never reaches theta: where the diagonal's difference
-- is zero the 45 degree rotation is taken, since epsilon times the larger diagonal number, itself no less than epsilon, does not vanish.
use Rattle.float.proofs.Words.{◌≡◌, refl, sym, ap, ◌∙◌, Bool, true, false, not, Bool·beq, cond, false≢true, ℕ, ℤ, Float, nan, inf, fin, Format, neg, add, sub}
use Rattle.float.proofs.Words.{mul, lt, eq}
use Rattle.float.specs.Choice.{pick}
use Rattle.float.specs.Constants.{zero_f, two_f, epsilon_f}
use Rattle.float.specs.Sign.{magnitude_of, finite}
use Rattle.float.proofs.Choice.{chosen}
use Rattle.float.proofs.Negation.{Rel, flip, sub_rel, magnitude_rel, eq_rel, zero_rel, exact, mul-flip, div-flip}
use Rattle.float.proofs.Zeros.{finite_of_eq, zero_level}
use Rattle.jacobi.specs.Rotation.{larger_of, is_gone, tiny_diagonal, level_diagonal, theta_of, tangent_of, no_turn, even_turn, turn_by, rotation_of}
use Rattle.jacobi.specs.Blind.{blind_of}
use Rattle.jacobi.specs.declared.rotation.Rotation.{Rotation}

-- ---- a difference that is zero is level

-- either of two magnitudes, as `larger_of` takes it
of_larger : (P : Float → Type 0) (m : ℕ) (e : ℤ) (n : ℕ) (d : ℤ) → ((k : ℕ) (g : ℤ) → P (fin false k g)) → P (larger_of (fin false m e) (fin false n d))
of_larger P m e n d h = chosen P (lt (fin false n d) (fin false m e)) (fin false m e) (fin false n d) (h m e) (h n d)

no_infinite : (t s : Bool) → finite (cond t (inf s) nan) ≡ true → ⊥
unfolding finite
no_infinite true s h = false≢true h
no_infinite false s h = false≢true h

level_of_zero : (f : Format) (a q : Float) → eq (sub f q a) (zero_f f) ≡ true → finite (sub f q a) ≡ true → tiny_diagonal f a q ≡ false
    → level_diagonal f a q ≡ true
unfolding sub neg add finite magnitude_of
level_of_zero f nan nan h i = absurd (false≢true i)
level_of_zero f nan (inf t) h i = absurd (false≢true i)
level_of_zero f nan (fin t n d) h i = absurd (false≢true i)
level_of_zero f (inf s) nan h i = absurd (false≢true i)
level_of_zero f (inf s) (inf t) h i = absurd (no_infinite (Bool·beq t (not s)) t i)
level_of_zero f (inf s) (fin t n d) h i = absurd (false≢true i)
level_of_zero f (fin s m e) nan h i = absurd (false≢true i)
level_of_zero f (fin s m e) (inf t) h i = absurd (false≢true i)
level_of_zero f (fin s m e) (fin t n d) h i =
    let x = sub f (fin t n d) (fin s m e) in
    of_larger (λ (D : Float). lt D (epsilon_f f) ≡ false → lt (magnitude_of x) (mul f (epsilon_f f) D) ≡ true) m e n d (λ k g. zero_level f x k g h i)

-- ---- three tests, and what stands behind them

by_tests : {t t' u u' v v' : Bool} (x y w w' : Rotation) → t ≡ t' → u ≡ u' → v ≡ v' → (t ≡ false → u ≡ false → v ≡ false → w ≡ w')
    → pick t x (pick u y (pick v y w)) ≡ pick t' x (pick u' y (pick v' y w'))
by_tests {t} {t'} {u} {u'} {v} {v'} x y w w' p q r h = rw (← p, ← q, ← r) (go t u v h)
  where
    go : (t u v : Bool) → (t ≡ false → u ≡ false → v ≡ false → w ≡ w') → pick t x (pick u y (pick v y w)) ≡ pick t x (pick u y (pick v y w'))
    go true u v h = refl
    go false true v h = refl
    go false false true h = refl
    go false false false h = h refl refl refl

-- ---- theta

not_zero : (f : Format) (a q : Float) → tiny_diagonal f a q ≡ false → level_diagonal f a q ≡ false → eq (sub f q a) (zero_f f) ≡ false
not_zero f a q u v = go (eq (sub f q a) (zero_f f)) refl
  where
    go : (t : Bool) → eq (sub f q a) (zero_f f) ≡ t → t ≡ false
    go true e = sym (level_of_zero f a q e (finite_of_eq f (sub f q a) e) u) ∙ v
    go false e = refl

module _ (f : Format) {b : Bool} {p p' a a' q q' : Float} (P : Rel b p p') (A : Rel b a a') (Q : Rel b q q') where
  theta_same : is_gone f p ≡ false → tiny_diagonal f a q ≡ false → level_diagonal f a q ≡ false → theta_of f p a q ≡ theta_of f p' a' q'
  theta_same t u v =
      let x : sub f q' a' ≡ flip b (sub f q a) = exact f (sub_rel f Q A) (not_zero f a q u v) in
      let y : mul f p' (two_f f) ≡ flip b (mul f p (two_f f)) = ap (λ (z : Float). mul f z (two_f f)) (exact f P t) ∙ mul-flip b f p (two_f f) in
      sym (cc (x, y, div-flip b f (sub f q a) (mul f p (two_f f))))

  -- ---- the choice

  gone_same : is_gone f p ≡ is_gone f p'
  gone_same = eq_rel P (zero_rel b f)

  tiny-same : tiny_diagonal f a q ≡ tiny_diagonal f a' q'
  tiny-same = cc (magnitude_rel A, magnitude_rel Q)

  level_same : level_diagonal f a q ≡ level_diagonal f a' q'
  level_same = cc (magnitude_rel A, magnitude_rel Q, magnitude_rel (sub_rel f Q A))

  pub blind_same : blind_of f p a q ≡ blind_of f p' a' q'
  blind_same = cc (gone_same, tiny-same, eq_rel A Q)

  pub rotation_same : rotation_of f p a q ≡ rotation_of f p' a' q'
  unfolding rotation_of
  rotation_same =
      by_tests (no_turn f) (even_turn f) (turn_by f (tangent_of f (theta_of f p a q)))
      (turn_by f (tangent_of f (theta_of f p' a' q'))) gone_same tiny-same level_same
      (λ t u v. ap (λ (z : Float). turn_by f (tangent_of f z)) (theta_same t u v))
