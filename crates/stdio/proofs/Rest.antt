-- What is moved to the front from behind the whole records is the rest behind them.
use Rattle.float.proofs.Words.{◌≡◌, ◌∙◌, true, List, ℕ, ◌+◌, ◌-◌, ◌*◌, ◌/◌, ◌≤◌, arith, leb, le-leb, length, take, drop, length-take, length-drop, take_at}
use Rattle.float.proofs.Words.{drop_at, mul_comm, div-mul-le_self}
use lib.Seq.{take-add}
use Rattle.stdio.specs.Kept.{rest_of, kept_of}

kept_front : (s : List ℕ) (from n : ℕ) → from + n ≤ length s → take n (kept_of from n s) ≡ drop from (take (from + n) s)
kept_front s from n h =
    let e : leb (from + n) (length s) ≡ true = le-leb (from + n) (length s) h in
    let k : length (take n (drop from s)) ≡ n = simp (length-take, length-drop) (omega arith) in
    let m : length (take from s) ≡ from = simp length-take (omega arith) in
    let front : drop from (take (from + n) s) ≡ take n (drop from s) = rw take-add (drop_at (take from s) (take n (drop from s)) from m) in
    rw (e, front) (take_at (take n (drop from s)) (drop n s) n k)

pub rest_kept : (size total : ℕ) (s : List ℕ) → total ≤ length s
    → take (total - size * (total / size)) (kept_of (size * (total / size)) (total - size * (total / size)) s) ≡ rest_of size (take total s)
rest_kept size total s h =
    let t : length (take total s) ≡ total = simp length-take (omega arith) in
    let l : size * (total / size) ≤ total = rw (mul_comm size (total / size)) (div-mul-le_self total size) in
    let f : size * (total / size) + (total - size * (total / size)) ≡ total = omega arith in
    kept_front s (size * (total / size)) (total - size * (total / size)) (omega arith) ∙ (rw (f, t))
