-- The text of a line: its name, then each count behind a tab, and the end.
use Rattle.float.proofs.Words.{◌≡◌, refl, ap, List, [], ◌∷◌, ◌++◌, append_assoc, ℕ, ◌+◌, ◌<◌, add-one, arith}
use Rattle.float.proofs.Words.{length, length-append, get_or, drop, drop-cons}
use Rattle.listing.specs.Text.{decimal_of, fields_of, counts_line}
use Rattle.listing.specs.Putting.{Room, counts_end}

pub counts_none : counts_end [] ≡ 10 ∷ []
unfolding counts_end fields_of
counts_none = refl

pub counts_more : (counts : List ℕ) (i : ℕ) → i < length counts
    → counts_end (drop i counts) ≡ 9 ∷ (decimal_of (get_or counts i 0) ++ counts_end (drop (i + 1) counts))
unfolding counts_end fields_of
counts_more counts i h = rw (drop-cons counts i 0 h, add-one) (ap (λ (l : List ℕ). 9 ∷ l) (append_assoc (decimal_of (get_or counts i 0)) _ _))

pub line_parts : (name counts : List ℕ) → counts_line name counts ≡ name ++ counts_end counts
unfolding counts_line counts_end
line_parts name counts = refl

pub line_length : (name counts : List ℕ) → length (counts_line name counts) ≡ length name + length (counts_end counts)
line_length name counts = rw (line_parts name counts) (length-append name (counts_end counts))

-- ---- room

-- what is still to come has the room that was there for all
pub room_left : (was all now rest : List ℕ) → Room was all → now ++ rest ≡ was ++ all → Room now rest
room_left was all now rest h e = let l = simp length-append at (ap length e) in omega (arith, l)

-- a text put, and the one behind it
pub room-behind : (was x y now : List ℕ) → Room was (x ++ y) → now ≡ was ++ x → Room now y
room-behind was x y now h e = room_left was (x ++ y) now y h (rw (e, append_assoc))

pub room-front : (was x y : List ℕ) → Room was (x ++ y) → Room was x
room-front was x y h = let l = simp length-append at h in omega (arith, l)
