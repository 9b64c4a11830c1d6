-- What stands in a row at exit: a row that is not refused is the map of the single call, and a map works on each place by itself.
use Rattle.float.proofs.Words.{◌≡◌, refl, sym, ap, ◌∙◌, List, [], ◌++◌, map, ℕ, ◌+◌, ◌≤◌, arith, length, get_or, set, length-append, length-set, Format}
use Rattle.float.proofs.Words.{eq-eqb, ne_eqb}
use mathlib.Core.List.{map-append}
use lib.ListN.{get_or-map}
use lib.Seq.{get_or-set_other}
use contract.Lifetimes.{Lfts}
use Rattle.std.specs.Prelude.{Result}
use Rattle.std.proofs.lemmas.List.{length-map}
use Rattle.float.specs.Width.{F}
use Rattle.float.proofs.Choice.{whether}
use Rattle.matrix.specs.Answer.{done}
use Rattle.matrix.specs.Codes.{code_of}
use Rattle.matrix.specs.declared.codes.Refusal.{Refusal}
use Rattle.matrix.specs.Square.{Mat3}
use Rattle.svd.specs.Svd3x3.{SvdAnswer}
use Rattle.row.specs.Row.{most_places, row_code_of, single_of, svd_row_of, answer_in, answers_in}
use Rattle.row.proofs.Filling.{code_zero}
use Rattle.row.proofs.Codes.{row-codes, zero_told}
use Rattle.row.proofs.rows.svd_row.Reads as svd-row

module _ (f : Format) where
  pub row_empty : svd_row_of f [] [] ≡ done []
  unfolding svd_row_of row_code_of
  row_empty = refl

  -- ---- all places

  pub row_done : (ms : List Mat3) (found : List SvdAnswer) → (svd_row_of f ms found).code ≡ 0 → (svd_row_of f ms found).value ≡ map (single_of f) ms
  unfolding svd_row_of
  row_done ms found e = rw (eq-eqb _ 0 e)

  -- refused, the row is as it was found
  pub row_kept : (ms : List Mat3) (found : List SvdAnswer) → ((svd_row_of f ms found).code ≡ 0 → ⊥) → (svd_row_of f ms found).value ≡ found
  unfolding svd_row_of
  row_kept ms found n = rw (ne_eqb _ 0 n)

  -- ---- place i, which depends on matrix i alone

  pub place-done : (ms : List Mat3) (found : List SvdAnswer) (i : ℕ) (d : Mat3) → (svd_row_of f ms found).code ≡ 0
      → get_or (svd_row_of f ms found).value i (single_of f d) ≡ single_of f (get_or ms i d)
  place-done ms found i d e = rw (row_done ms found e) (get_or-map (single_of f) ms i d)

  same_code : (ms ms' : List Mat3) (found : List SvdAnswer) → length ms ≡ length ms' → (svd_row_of f ms found).code ≡ (svd_row_of f ms' found).code
  unfolding svd_row_of
  same_code ms ms' found l = rw l

  pub place-alone : (ms ms' : List Mat3) (found : List SvdAnswer) (i : ℕ) (d : Mat3) → length ms ≡ length ms' → get_or ms i d ≡ get_or ms' i d
      → ((svd_row_of f ms found).code ≡ (svd_row_of f ms' found).code)
      × (get_or (svd_row_of f ms found).value i (single_of f d) ≡ get_or (svd_row_of f ms' found).value i (single_of f d))
  place-alone ms ms' found i d l e =
      let c = same_code ms ms' found l in (
        c,
        whether (svd_row_of f ms found).code 0
            (λ z. place-done ms found i d z ∙ ap (single_of f) e ∙ sym (place-done ms' found i d (sym c ∙ z)))
            (λ n. ap (λ (ys : List SvdAnswer). get_or ys i (single_of f d)) (row_kept ms found n ∙ sym (row_kept ms' found (λ z. n (c ∙ z))))),
      )

  -- so a matrix that is exchanged touches no other place
  pub others_stay : (ms : List Mat3) (found : List SvdAnswer) (j : ℕ) (m : Mat3) (i : ℕ) (d : Mat3) → (i ≡ j → ⊥)
      → get_or (svd_row_of f (set ms j m) found).value i (single_of f d) ≡ get_or (svd_row_of f ms found).value i (single_of f d)
  others_stay ms found j m i d n = (place-alone (set ms j m) ms found i d (length-set ms j m) (get_or-set_other ms j i m d n)).1

  -- ---- a row that is split is the two calls' rows in order

  pub row_split : (ms ns : List Mat3) (found others : List SvdAnswer) → length ms ≡ length found → length ns ≡ length others
      → (svd_row_of f (ms ++ ns) (found ++ others)).code ≡ 0
      → ((svd_row_of f ms found).code ≡ 0) × ((svd_row_of f ns others).code ≡ 0)
      × ((svd_row_of f (ms ++ ns) (found ++ others)).value ≡ (svd_row_of f ms found).value ++ (svd_row_of f ns others).value)
  unfolding svd_row_of
  row_split ms ns found others h k e =
      let n : length ms + length ns ≤ most_places = rw (← length-append ms ns) (code_zero (length (ms ++ ns)) (length (found ++ others)) e).1 in
      let a = zero_told (length ms) (length found) _ (row-codes f ms found) h (omega arith) in
      let b = zero_told (length ns) (length others) _ (row-codes f ns others) k (omega arith) in
      (a, b, rw (row_done (ms ++ ns) (found ++ others) e, row_done ms found a, row_done ns others b, map-append))

-- ---- the same of calls

pub place_alone_call : (κs κs' : Lfts 2) (a a' : _) (r r' : Result (Unit {0}) Refusal) (s s' : _) → svd-row.Post κs a r s → svd-row.Post κs' a' r' s'
    → (i : ℕ) (d : Mat3) → length a.0.now ≡ length a'.0.now → get_or a.0.now i d ≡ get_or a'.0.now i d → a.1.0.now ≡ a'.1.0.now
    → (code_of r ≡ code_of r') × (get_or (answers_in s.1.0.now) i (single_of F d) ≡ get_or (answers_in s'.1.0.now) i (single_of F d))
place_alone_call κs κs' a a' r r' s s' p p' i d l e h =
    rw (p.0, p.1, p'.0, p'.1, ← h) (place-alone F a.0.now a'.0.now (answers_in a.1.0.now) i d l e)

pub row_split_call : (κs κs' κs'' : Lfts 2) (a a' a'' : _) (r r' r'' : Result (Unit {0}) Refusal) (s s' s'' : _)
    → svd-row.Post κs a r s → svd-row.Post κs' a' r' s' → svd-row.Post κs'' a'' r'' s''
    → a''.0.now ≡ a.0.now ++ a'.0.now → a''.1.0.now ≡ a.1.0.now ++ a'.1.0.now
    → length a.0.now ≡ length a.1.0.now → length a'.0.now ≡ length a'.1.0.now → code_of r'' ≡ 0
    → (code_of r ≡ 0) × (code_of r' ≡ 0) × (answers_in s''.1.0.now ≡ answers_in s.1.0.now ++ answers_in s'.1.0.now)
row_split_call κs κs' κs'' a a' a'' r r' r'' s s' s'' p p' p'' m y h k z =
    let first = h ∙ sym (length-map a.1.0.now answer_in) in
    let second = k ∙ sym (length-map a'.1.0.now answer_in) in
    let both : answers_in a''.1.0.now ≡ answers_in a.1.0.now ++ answers_in a'.1.0.now = rw y (map-append answer_in a.1.0.now a'.1.0.now) in
    rw (p.0, p.1, p'.0, p'.1, p''.1, m, both)
    (row_split F a.0.now a'.0.now (answers_in a.1.0.now) (answers_in a'.1.0.now) first second (rw (p''.0, m, both) at z))
