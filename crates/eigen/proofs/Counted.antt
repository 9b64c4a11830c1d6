-- Count and mark are those of the definition's states: each step raises the count by one, and the mark is the test of the last state and of every step to it.
use Rattle.std.specs.Prelude.{Ok}
use Rattle.float.proofs.Words.{◌≡◌, refl, sym, ap, ◌∙◌, subst₂, Bool, true, false, List, ◌⊎◌, ℕ, ◌≤◌, ◌<◌, Float, Format}
use Rattle.float.specs.Width.{F}
use Rattle.float.specs.Exactly.{Exactly}
use Rattle.matrix.specs.Symmetric.{Sym3}
use Rattle.jacobi.specs.Blind.{sighted}
use Rattle.jacobi.specs.declared.made.Made.{Made}
use Rattle.jacobi.proofs.Run.{ran_one, ran_counted}
use Rattle.jacobi.proofs.Watched.{watched_blind, mark_means}
use Rattle.eigen.specs.Pairs.{blind_at}
use Rattle.eigen.specs.Eigen3x3.{State, settled_of, step_of, run_of, start_of, last_of, watched_of, watched_last_of, eigen_of, EigenAnswer}
use Rattle.eigen.specs.Counted.{RanFor, state_after, NoneBlindIn, Counted}
use Rattle.eigen.specs.declared.eigen3x3.Eigen3.{Eigen3}
use Rattle.eigen.proofs.Told.{handed_out}
use Rattle.eigen.proofs.Answered.{answered}
use Rattle.eigen.proofs.eigen3x3.eigen_jacobi.Reads as eigen-jacobi

pub states_counted : (f : Format) (a : List Float) → RanFor f a (last_of f a).made.count
unfolding run_of step_of
states_counted f a = ran_counted (step_of f) (λ (s : State). settled_of f s.matrix) (λ (s : State). s.made.count) (λ s. refl) 25 (start_of f a) refl

pub blind_counted : (f : Format) (a : List Float) → Exactly ((watched_last_of f a).blind ≡ false) (NoneBlindIn f a (last_of f a).made.count)
unfolding watched_of
blind_counted f a =
    watched_blind (step_of f) (λ (s : State). settled_of f s.matrix) (λ (s : State). blind_at f s.matrix) 25 (last_of f a).made.count
    (sighted (start_of f a)) refl (states_counted f a)

-- of the answer, and of the call: of any answer within the promise that the source states
pub counted : (f : Format) (a : List Float) → (eigen_of f a).code ≡ 0 → Counted f a (eigen_of f a).made (eigen_of f a).settled
counted f a e =
    rw (answered f a e).answer
    (record { last = refl; mark = mark_means (watched_last_of f a).blind _ ((λ e. e), (λ e. e)) (blind_counted f a); ran = states_counted f a })

pub counted_call : (a : Sym3) (x : Eigen3) → eigen-jacobi.Post tt (a, tt) (Ok x) (a, tt) → Counted F a.«data» x.made x.settled
counted_call a x p =
    handed_out (λ (r : EigenAnswer). r.code) (λ (r : EigenAnswer). Counted F a.«data» r.made r.settled) p refl (counted F a.«data»)

-- only one number is the count: that of the steps to the first settled state, or 25 where none is; and the mark is that of those states
pub count_told : (f : Format) (a : List Float) (made : Made) (settled : Bool) → Counted f a made settled
    → (n : ℕ) → n ≤ 25 → ((j : ℕ) → j < n → settled_of f (state_after f a j).matrix ≡ false) → (n ≡ 25) ⊎ (settled_of f (state_after f a n).matrix ≡ true)
    → (made.count ≡ n) × Exactly (settled ≡ true) ((settled_of f (state_after f a n).matrix ≡ true) × NoneBlindIn f a n)
count_told f a made settled c n within earlier ended =
    let one =
    ran_one (step_of f) (λ (s : State). settled_of f s.matrix) c.ran (record { within = within; stands = refl; earlier = earlier; ended = ended }) in
    let count = sym (ap (λ (m : Made). m.count) c.last) ∙ one.0 in
    (one.0, subst₂ (λ (n : ℕ) (s : State). Exactly (settled ≡ true) ((settled_of f s.matrix ≡ true) × NoneBlindIn f a n)) count one.1 c.mark)
