-- What is below a number, or not above it, is under each finite l that the number is under: infinities by cases, and finite floats compare as their keys do.
use Rattle.float.proofs.Words.{◌≡◌, refl, sym, ◌∙◌, Bool, true, false, not, ◌&&◌, Bool·beq, cond, true≢false, false≢true, ℕ, zero, suc, ◌+◌, ◌-◌, ◌*◌}
use Rattle.float.proofs.Words.{◌^◌, arith, ltb, Float, nan, inf, fin, Format, binary32, binary64, of_bits, prec, emax, low, lt, sum, add, round, units}
use Rattle.float.proofs.Words.{odd, is_nan, ℤ, pos}
use Rattle.float.specs.Constants.{limit_f}
use Rattle.float.specs.Sign.{finite}
use Rattle.float.proofs.Finite.{both_true}
use Rattle.float.proofs.Keys.{key_below, key-not_below, below_of_keys, keyed}

-- ---- any floats

pub under : (a b l : Float) → finite l ≡ true → lt a b ≡ true → lt b l ≡ true → lt a l ≡ true
unfolding lt finite
under a b nan f e h = absurd (false≢true f)
under a b (inf u) f e h = absurd (false≢true f)
under nan b (fin u k g) f e h = absurd (false≢true e)
under (inf s) nan (fin u k g) f e h = absurd (false≢true e)
under (inf s) (inf t) (fin u k g) f e h = (both_true s (not t) e).0
under (inf s) (fin t n d) (fin u k g) f e h = e
under (fin s m i) nan (fin u k g) f e h = absurd (false≢true e)
under (fin s m i) (inf true) (fin u k g) f e h = absurd (false≢true e)
under (fin s m i) (inf false) (fin u k g) f e h = absurd (false≢true h)
under (fin s m i) (fin t n d) (fin u k g) f e h =
    let a = fin s m i in
    let b = fin t n d in
    let l = fin u k g in
    let o = keyed a b l refl refl refl in
    below_of_keys o.L o.K a l o.one o.three
    (omega (arith, key_below o.L o.K a b o.one o.two e, key_below o.L o.K b l o.two o.three h))

pub not_above : (b x l : Float) → finite l ≡ true → is_nan x ≡ false → lt b x ≡ false → lt b l ≡ true → lt x l ≡ true
unfolding lt finite is_nan
not_above b x nan f n e h = absurd (false≢true f)
not_above b x (inf u) f n e h = absurd (false≢true f)
not_above nan x (fin u k g) f n e h = absurd (false≢true h)
not_above (inf s) nan (fin u k g) f n e h = absurd (true≢false n)
not_above (inf true) (inf true) (fin u k g) f n e h = refl
not_above (inf true) (inf false) (fin u k g) f n e h = absurd (true≢false e)
not_above (inf false) (inf t) (fin u k g) f n e h = absurd (false≢true h)
not_above (inf s) (fin t m d) (fin u k g) f n e h = absurd (true≢false (sym h ∙ e))
not_above (fin s m i) nan (fin u k g) f n e h = absurd (true≢false n)
not_above (fin s m i) (inf true) (fin u k g) f n e h = refl
not_above (fin s m i) (inf false) (fin u k g) f n e h = absurd (true≢false e)
not_above (fin s m i) (fin t q d) (fin u k g) f n e h =
    let b = fin s m i in
    let x = fin t q d in
    let l = fin u k g in
    let o = keyed b x l refl refl refl in
    below_of_keys o.L o.K x l o.two o.three
    (omega (arith, key-not_below o.L o.K b x o.one o.two e, key_below o.L o.K b l o.one o.three h))

-- ---- numbers that are no NaN: finite ones, and their sums

pub finite_no_nan : (x : Float) → finite x ≡ true → is_nan x ≡ false
unfolding finite is_nan
finite_no_nan nan e = absurd (false≢true e)
finite_no_nan (inf s) e = refl
finite_no_nan (fin s m e) h = refl

of_cond : (P : Float → Type 0) (t : Bool) (x y : Float) → P x → P y → P (cond t x y)
of_cond P true x y p q = p
of_cond P false x y p q = q

-- what is rounded with a sign is a finite number with this sign, or the infinity with it
module _ (P : Float → Type 0) (f : Format) (s : Bool) (i : P (inf s)) (h : (m : ℕ) (e : ℤ) → P (fin s m e)) where
  of_odd : (d q k l : ℕ) → P (odd d s q k l)
  unfolding odd
  of_odd d zero k l = h 0 (pos 0)
  of_odd d (suc q) k l = h _ _

  of_units : (q k : ℕ) → P (units f s q k)
  unfolding units
  of_units q k = of_cond P (ltb (q * 2 ^ k) (2 ^ (low f + suc (emax f)))) (odd (suc (prec f)) s q k (low f)) (inf s) (of_odd (suc (prec f)) q k (low f)) i

  pub of_round : (n d : ℕ) → P (round f s n d)
  unfolding round
  of_round n d = of_units _ _

pub round_no_nan : (f : Format) (s : Bool) (n d : ℕ) → is_nan (round f s n d) ≡ false
unfolding is_nan
round_no_nan f s = of_round (λ (x : Float). is_nan x ≡ false) f s refl (λ m e. refl)

sum_no_nan : (f : Format) (s : Bool) (a : ℕ) (t : Bool) (b c : ℕ) → is_nan (sum f s a t b c) ≡ false
unfolding sum
sum_no_nan f s a t b c =
    let P : Float → Type 0 = λ (x : Float). is_nan x ≡ false in
    of_cond P (Bool·beq s t) _ _ (round_no_nan f s (a + b) c) (of_cond P (ltb a b) _ _ (round_no_nan f t (b - a) c) (round_no_nan f (s && ltb b a) (a - b) c))

pub add_no_nan : (f : Format) (x y : Float) → finite x ≡ true → finite y ≡ true → is_nan (add f x y) ≡ false
unfolding add finite
add_no_nan f nan y p q = absurd (false≢true p)
add_no_nan f (inf s) y p q = absurd (false≢true p)
add_no_nan f (fin s m e) nan p q = absurd (false≢true q)
add_no_nan f (fin s m e) (inf t) p q = absurd (false≢true q)
add_no_nan f (fin s m e) (fin t n d) p q = sum_no_nan f s _ t _ _

-- ---- the limit of the settled test

pub limit_finite : (f : Format) → finite (limit_f f) ≡ true
unfolding finite of_bits
limit_finite binary32 = refl
limit_finite binary64 = refl
