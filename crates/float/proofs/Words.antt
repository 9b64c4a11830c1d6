-- The words that proofs are written in: paths, numbers, lists, floats and what answers a need, from the libraries of the toolchain.
pub use mathlib.Core.Path.{◌≡◌, sym, ap, ◌∙◌, refl, subst, subst₂, subst⁻¹}
pub use mathlib.Core.Bool.{Bool, true, false, true≢false, ◌||◌, not, false≢true, cond, ◌&&◌, and_assoc, beq as Bool·beq, and-true}
pub use mathlib.Core.List.{List, [], ◌∷◌, ◌++◌, append-nil, append_assoc, map}
pub use mathlib.Core.Logic.{◌⊎◌, inl, inr, ⊎_elim}
pub use Prim.Native.Nat.Ordering.{eq as Ordering·eq}
pub use Prim.Native.Nat.Ordering.{gt as Ordering·gt}
pub use Prim.Native.Nat.Ordering.{lt as Ordering·lt}
pub use Prim.Native.Nat.{ℕ, ◌+◌, ◌<◌, ◌/◌, ◌≤◌, ◌-◌, ◌*◌, ◌^◌, suc, min, max, zero, ◌%◌, compare, Ordering}
pub use native.Mathlib.Nat.{add-zero, mul_assoc, zero-mul, zero-div, zero-mod, mod-eq_of_lt, mul-pos, mul-le-mul_right, lt_of_lt_of_le, ne_of_lt}
pub use native.Mathlib.Nat.{lt_of_le_of_lt, le_trans, le_of_eq, one-mul, add-mul, add_comm, zero-lt-suc, lt_irrefl, lt_trans, le_of_lt, le_antisymm}
pub use native.Mathlib.Nat.{not-le_of_lt, lt_of_not-le, le_of_suc-le-suc, mul-le-mul, mul-lt-mul_of_pos_right, lt_of_mul-lt-mul_right, le_of_mul-le-mul_right}
pub use native.Mathlib.Nat.{mul_comm, mul_left_comm, eq_of_mul-eq-mul_right, eq-zero-or-pos, mul-one, pow-le-pow_right, div-lt_iff_lt-mul, mod-lt, div-add-mod'}
pub use native.Mathlib.Nat.{mul-div_cancel, mul-zero, zero-add, sub-zero, mod-mod_of_dvd, dvd-mul_right, le-suc, pow-suc, one-le-pow, mul-add, mul-le-mul_left}
pub use native.Mathlib.Nat.{mul_right_comm, pow-succ', suc-mul, div-one, div-mul-le_self, le_refl, eq-or-lt_of_le, div-eq_of_lt, add-mul-div_right}
pub use native.Mathlib.Nat.{add-mul-mod_self_right, div-le_of_le-mul, pow-zero, mul-suc, add_assoc}
pub use native.Mathlib.Nat.{le-div_iff_mul-le, mul-mod_left, min-eq_left, min-eq_right, min-le_right, zero-min}
pub use native.Mathlib.Omega.{arith}
pub use native.Mathlib.Numerals.{add-one}
pub use lib.Dec.{eqb, T, leb, ltb, leb→le, nleb→lt, ltb→lt, nltb→le, lit≤, le→leb, eqb→eq, lt→ltb, lit<, eqb-suc-zero as eqb·suc-zero}
pub use lib.Dec.{eqb-zero-suc as eqb·zero-suc, is_le, compare_is_eq}
pub use lib.ListN.{length, get_or, take, drop, set, length-drop, length-take, length-set, length-append, replicate, replicate-append-replicate}
pub use lib.ListN.{take-append-drop}
pub use lib.Seq.{take-suc, take-suc-set, get_or-drop, get_or-take, drop-drop, drop-set-lt, take_all, take-length, drop-cons, drop-length, sets, sets-eq}
pub use lib.Seq.{take-append_seam, drop-append-add, take-append-add, length-take-le, get_or-append-add, take_at, drop_at}
pub use lib.IntN.{pos, ℤ, negsuc, neg_ℤ, sub_ℕ, ◌+ℤ◌, ◌-ℤ◌, nat_abs}
pub use lib.Pow.{pow-add, pow_pos, pow-lt, pow_mono, shl_lt, shl_exact}
pub use lib.Ieee.{Float, Format, nan, inf, fin, binary32, binary64, prec, emax, low, up, down, hid, ones, top, size, minus, below, level, unlike, nan_bits, ne}
pub use lib.Ieee.{nearest}
unfoldable pub use lib.Ieee.{sub, mul, div, le, lt, is_nan, odd, of_fields, of_bits, units, fits, to_bits, neg, eq, round, sum, add, rem}
pub use borrow.Author.Tests.{eq-eqb, le-leb, lt-leb, ne_eqb, ltb-true, ltb-false, not-true, not-false, eqb-true, eqb-false, lt-ltb, le-ltb, leb-true, leb-false}
pub use borrow.Author.Rules.{rules}
