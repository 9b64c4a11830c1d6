-- A refusal that is handed on keeps its number, which is never 0.
use Rattle.std.proofs.Common.{Result, Ok, Err}
use Rattle.std.specs.Result.{IsErrAnd}
use Rattle.float.proofs.Words.{◌≡◌, ap, false, eqb, arith, ne_eqb}
use Rattle.matrix.specs.Codes.{number_of, code_of}
use Rattle.matrix.specs.declared.codes.Refusal.{Refusal}
use Rattle.matrix.proofs.Refusals.{number_above}

pub handed_on : {A : Type 0} (r : Result A Refusal) (e : Refusal) → IsErrAnd r (λ d. d ≡ e) → code_of r ≡ number_of e
handed_on (Ok x) e h = absurd h
handed_on (Err d) e h = ap number_of h

pub not_done : (e : Refusal) → eqb (number_of e) 0 ≡ false
not_done e = let n = number_above e in ne_eqb _ 0 (λ z. omega arith)
