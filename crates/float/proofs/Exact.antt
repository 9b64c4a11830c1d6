-- A value of the format rounds to itself: it is a whole number of units with digits that the format has, and it is written in one way.
use Rattle.float.proofs.Words.{◌≡◌, sym, ap, ◌∙◌, Bool, true, false, true≢false, ℕ, zero, suc, ◌+◌, ◌*◌, ◌^◌, ◌<◌, mul_right_comm}
use Rattle.float.proofs.Words.{eq_of_mul-eq-mul_right, lt_of_le_of_lt, le_of_eq, zero-mul, add_comm, pow_pos, T, ℤ, Float, nan, inf, fin, Format, emax}
use Rattle.float.proofs.Words.{low, up, down, round, fits, neg}
use lib.Ieee.Exact.{HasValue, round_exact}
use lib.Ieee.Fits.{down_pos, neg-fits, round-fits}
use Rattle.float.specs.Nearest.{in_units}
use Rattle.float.proofs.Negation.{flip, round-flip}
use Rattle.float.proofs.Units.{InUnits, in_units_lem, units_lt, units_of, same_units}

-- in units it is below the first power of two that the format does not hold
room : (f : Format) (m : ℕ) (e : ℤ) → T (fits f (fin false m e)) → in_units f m e < 2 ^ (low f + suc (emax f))
room f zero e t =
    let z = in_units_lem f false zero e t in lt_of_le_of_lt (le_of_eq (z.is ∙ zero-mul (2 ^ z.j))) (pow_pos (low f + suc (emax f)))
room f (suc m) e t = rw (add_comm (low f) (suc (emax f))) (units_lt f false m e t)

module _ (f : Format) (m : ℕ) (e : ℤ) (t : T (fits f (fin false m e))) where
  own : InUnits f m e
  own = in_units_lem f false m e t

  pub own_size : HasValue (round f false (m * up e) (down e)) false (m * up e) (down e)
  own_size = round_exact f false (m * up e) (down e) m own.j (down_pos e) own.small (rw own.is at (room f m e t)) own.whole

  -- what has its size, and fits, is the value itself
  same_size : (v : Float) → T (fits f v) → HasValue v false (m * up e) (down e) → v ≡ fin false m e
  same_size nan s h = absurd h
  same_size (inf r) s h = absurd h
  same_size (fin true n d) s h = absurd (true≢false h.0)
  same_size (fin false n d) s h =
      let u : ℕ = m * 2 ^ own.j in
      let k : n * up d * 2 ^ low f * down e ≡ u * down d * down e =
      mul_right_comm (n * up d) (2 ^ low f) (down e)
      ∙ ap (λ (x : ℕ). x * 2 ^ low f) h.1
      ∙ mul_right_comm (m * up e) (down d) (2 ^ low f)
      ∙ ap (λ (x : ℕ). x * down d) own.whole
      ∙ mul_right_comm u (down e) (down d) in
      same_units f n d m e s t (units_of f n d u (eq_of_mul-eq-mul_right (down e) (down_pos e) _ _ k) ∙ sym own.is)

  pub own_value : round f false (m * up e) (down e) ≡ fin false m e
  own_value = same_size (round f false (m * up e) (down e)) (round-fits f false (m * up e) (down e)) own_size

-- of either sign
pub own_rounded : (f : Format) (s : Bool) (m : ℕ) (e : ℤ) → T (fits f (fin s m e)) → round f s (m * up e) (down e) ≡ fin s m e
own_rounded f false m e t = own_value f m e t
own_rounded f true m e t =
    sym (round-flip true f false (m * up e) (down e)) ∙ ap (flip true) (own_value f m e (unfold neg in neg-fits f (fin true m e) t))
