-- The head of a record: the event's bytes, and four behind them.
use Rattle.float.proofs.Words.{◌≡◌, List, ◌++◌, append_assoc, ℕ, ◌+◌, arith, length, take, drop, take_at, length-append}

pub head_put : (l event h : List ℕ) (n m : ℕ) → length event ≡ n → length h ≡ m
    → take (n + m) (take n (event ++ drop n l) ++ (h ++ drop m (drop n (event ++ drop n l)))) ≡ event ++ h
head_put l event h n m e k =
    rw (take_at event (drop n l) n e, ← append_assoc) (take_at (event ++ h) (drop m (drop n (event ++ drop n l))) (n + m) (simp length-append (omega arith)))
