-- Two matrices that are the same or negated, place by place, stay so through every rotation: the tests and the rotation are the same for both, and what a
-- rotation makes of a matrix is sums and products that keep signs apart. So both runs make as many rotations and turn the vectors alike.
use Rattle.float.proofs.Words.{◌≡◌, ap, subst₂, ◌∙◌, Bool, List, [], ◌∷◌, ℕ, ◌<◌, Float, Format, lt}
use Rattle.float.specs.Constants.{limit_f}
use Rattle.float.specs.Sign.{all_finite}
use Rattle.float.proofs.Negation.{Rel, same, zero_rel, add_rel, sub_rel, mul_rel, magnitude_rel, finite_rel}
use Rattle.matrix.specs.Places.{at}
use Rattle.jacobi.specs.Run.{one_more}
use Rattle.jacobi.specs.Blind.{Watched}
use Rattle.jacobi.specs.declared.rotation.Rotation.{Rotation}
use Rattle.jacobi.specs.declared.pairs.Pair.{Pair}
use Rattle.jacobi.specs.declared.pairs.Pair.TheVariants.{P12, P13, P23}
use Rattle.jacobi.specs.declared.pairs.OffDiag.{OffDiag}
use Rattle.jacobi.proofs.Negated.{blind_same, rotation_same}
use Rattle.jacobi.proofs.Run.{run_rel}
use Rattle.jacobi.proofs.Sorted.{below3}
use Rattle.eigen.specs.Pairs.{apq, app, aqq, off_diag_of, pair_of, turn_of, chosen_of, blind_pair, blind_at, first_mixed, second_mixed, applied_of}
use Rattle.eigen.specs.Eigen3x3.{State, settled_of, next_matrix, next_vectors, step_of, watched_of, diagonal}
use Rattle.eigen.proofs.Rounds.{full_step, full_done}

-- ---- a packed matrix and the same or its negation

pub data Related (b : Bool) : List Float → List Float → Type 0 where
  six : {x11 x12 x22 x13 x23 x33 y11 y12 y22 y13 y23 y33 : Float} → Rel b x11 y11 → Rel b x12 y12 → Rel b x22 y22 → Rel b x13 y13 → Rel b x23 y23
      → Rel b x33 y33
      → Related b (x11 ∷ x12 ∷ x22 ∷ x13 ∷ x23 ∷ x33 ∷ []) (y11 ∷ y12 ∷ y22 ∷ y13 ∷ y23 ∷ y33 ∷ [])

pub all_finite-same : {b : Bool} {x y : List Float} → Related b x y → all_finite x ≡ all_finite y
unfolding all_finite
all_finite-same (six r11 r12 r22 r13 r23 r33) = cc (finite_rel r11, finite_rel r12, finite_rel r22, finite_rel r13, finite_rel r23, finite_rel r33)

apq_rel : {b : Bool} {x y : List Float} (p : Pair) → Related b x y → Rel b (apq p x) (apq p y)
apq_rel P12 (six r11 r12 r22 r13 r23 r33) = r12
apq_rel P13 (six r11 r12 r22 r13 r23 r33) = r13
apq_rel P23 (six r11 r12 r22 r13 r23 r33) = r23

app_rel : {b : Bool} {x y : List Float} (p : Pair) → Related b x y → Rel b (app p x) (app p y)
app_rel P12 (six r11 r12 r22 r13 r23 r33) = r11
app_rel P13 (six r11 r12 r22 r13 r23 r33) = r11
app_rel P23 (six r11 r12 r22 r13 r23 r33) = r22

aqq_rel : {b : Bool} {x y : List Float} (p : Pair) → Related b x y → Rel b (aqq p x) (aqq p y)
aqq_rel P12 (six r11 r12 r22 r13 r23 r33) = r22
aqq_rel P13 (six r11 r12 r22 r13 r23 r33) = r33
aqq_rel P23 (six r11 r12 r22 r13 r23 r33) = r33

pub diagonal_rel : {b : Bool} {x y : List Float} → Related b x y → (c : ℕ) → c < 3 → Rel b (at (diagonal x) c) (at (diagonal y) c)
diagonal_rel {b} (six {x11} {x12} {x22} {x13} {x23} {x33} {y11} {y12} {y22} {y13} {y23} {y33} r11 r12 r22 r13 r23 r33) =
    below3 (λ (c : ℕ). Rel b (at (x11 ∷ x22 ∷ x33 ∷ []) c) (at (y11 ∷ y22 ∷ y33 ∷ []) c)) r11 r22 r33

-- ---- the same pair, the same test, the same rotation

largest-same : {b : Bool} {x y : List Float} → Related b x y → off_diag_of x ≡ off_diag_of y
largest-same (six r11 r12 r22 r13 r23 r33) = cc (magnitude_rel r12, magnitude_rel r13, magnitude_rel r23)

pair_same : {b : Bool} {x y : List Float} → Related b x y → pair_of x ≡ pair_of y
pair_same r = ap (λ (o : OffDiag). o.pair) (largest-same r)

pub settled_same : {b : Bool} {x y : List Float} (f : Format) → Related b x y → settled_of f x ≡ settled_of f y
unfolding settled_of
settled_same f r = ap (λ (o : OffDiag). lt o.size (limit_f f)) (largest-same r)

chosen_same : {b : Bool} {x y : List Float} (f : Format) → Related b x y → chosen_of f x ≡ chosen_of f y
chosen_same {b} {x} {y} f r =
    rotation_same f (apq_rel (pair_of x) r) (app_rel (pair_of x) r) (aqq_rel (pair_of x) r)
    ∙ ap (λ (p : Pair). turn_of f p y) (pair_same r)

blind_at-same : {b : Bool} {x y : List Float} (f : Format) → Related b x y → blind_at f x ≡ blind_at f y
unfolding blind_at
blind_at-same {b} {x} {y} f r =
    blind_same f (apq_rel (pair_of x) r) (app_rel (pair_of x) r) (aqq_rel (pair_of x) r)
    ∙ ap (λ (p : Pair). blind_pair f p y) (pair_same r)

-- ---- one rotation

module _ (f : Format) (t : Rotation) {b : Bool} where
  first_rel : {x x' y y' : Float} → Rel b x x' → Rel b y y' → Rel b (first_mixed f t x y) (first_mixed f t x' y')
  first_rel p q = sub_rel f p (mul_rel f (same t.s) (add_rel f q (mul_rel f (same _) p)))

  second_rel : {x x' y y' : Float} → Rel b x x' → Rel b y y' → Rel b (second_mixed f t x y) (second_mixed f t x' y')
  second_rel p q = add_rel f q (mul_rel f (same t.s) (sub_rel f p (mul_rel f (same _) q)))

  applied_rel : {x y : List Float} (p : Pair) → Related b x y → Related b (applied_of f p t x) (applied_of f p t y)
  applied_rel P12 (six r11 r12 r22 r13 r23 r33) =
      let m = mul_rel f (same t.t) r12 in six (sub_rel f r11 m) (zero_rel b f) (add_rel f r22 m) (first_rel r13 r23) (second_rel r13 r23) r33
  applied_rel P13 (six r11 r12 r22 r13 r23 r33) =
      let m = mul_rel f (same t.t) r13 in six (sub_rel f r11 m) (first_rel r12 r23) r22 (zero_rel b f) (second_rel r12 r23) (add_rel f r33 m)
  applied_rel P23 (six r11 r12 r22 r13 r23 r33) =
      let m = mul_rel f (same t.t) r23 in six r11 (first_rel r12 r13) (sub_rel f r22 m) (second_rel r12 r13) (zero_rel b f) (add_rel f r33 m)

matrix_rel : {b : Bool} {x y : List Float} (f : Format) → Related b x y → Related b (next_matrix f x) (next_matrix f y)
unfolding next_matrix
matrix_rel {b} {x} {y} f r =
    subst₂ (λ (p : Pair) (t : Rotation). Related b (applied_of f (pair_of x) (chosen_of f x) x) (applied_of f p t y))
    (pair_same r) (chosen_same f r) (applied_rel f (chosen_of f x) (pair_of x) r)

vectors_same : {b : Bool} {x y : List Float} (f : Format) (v : List Float) → Related b x y → next_vectors f x v ≡ next_vectors f y v
unfolding next_vectors
vectors_same f v r = cc (pair_same r, chosen_same f r)

-- ---- the run

pub record Alike (b : Bool) (s q : State) : Type 0 where
  pub matrices : Related b s.matrix q.matrix
  pub vectors : s.vectors ≡ q.vectors
  pub made : s.made ≡ q.made

step_alike : (b : Bool) (f : Format) (s q : State) → Alike b s q → Alike b (step_of f s) (step_of f q)
unfolding step_of next_vectors
step_alike b f s q r = record {
  matrices = matrix_rel f r.matrices;
  vectors = vectors_same f s.vectors r.matrices ∙ ap (λ (v : List Float). next_vectors f q.matrix v) r.vectors;
  made = ap one_more r.made;
}

-- and both have made a blind rotation, or none
pub record BothWatched (b : Bool) (w q : Watched State) : Type 0 where
  pub states : Alike b w.state q.state
  pub blind : w.blind ≡ q.blind

pub run_alike : (b : Bool) (f : Format) (k : ℕ) (w q : Watched State) → BothWatched b w q → BothWatched b (watched_of f k w) (watched_of f k q)
unfolding watched_of
run_alike b f =
    run_rel (full_step f) (full_done f) (BothWatched b) (λ w q r. settled_same f r.states.matrices)
    (λ w q r. record {
      states = step_alike b f w.state q.state r.states;
      blind = cc (r.blind, blind_at-same f r.states.matrices);
    })
