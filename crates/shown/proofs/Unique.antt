-- Any two answers within the promise of a C entry are equal, and so is what they leave in a lent place.
use Rattle.float.proofs.Words.{sym, ◌∙◌, ℕ, Float}
use contract.Lifetimes.{Lfts}
use Rattle.float.specs.OneAnswer.{OneAnswer, OneOutcome}
use Rattle.float.proofs.OneAnswer.{named, both_named}
use Rattle.shown.proofs.Left.{number-left, mat2-left, mat3-left, sym2-left, sym3-left}
use Rattle.shown.proofs.zanikory_root.Reads as root
use Rattle.shown.proofs.zanikory_root_bits.Reads as root-bits
use Rattle.shown.proofs.zanikory_signum.Reads as signum
use Rattle.shown.proofs.zanikory_signum_bits.Reads as signum-bits
use Rattle.shown.proofs.moves.zanikory_mat2_transpose.Reads as mat2-transpose
use Rattle.shown.proofs.moves.zanikory_mat2_set_identity.Reads as mat2-set-identity
use Rattle.shown.proofs.moves.zanikory_mat2_swap_columns.Reads as mat2-swap-columns
use Rattle.shown.proofs.moves.zanikory_mat2_flip_column.Reads as mat2-flip-column
use Rattle.shown.proofs.moves.zanikory_mat2_index.Reads as mat2-index
use Rattle.shown.proofs.moves.zanikory_mat2_index_mut.Reads as mat2-index-mut
use Rattle.shown.proofs.moves.zanikory_mat3_transpose.Reads as mat3-transpose
use Rattle.shown.proofs.moves.zanikory_mat3_set_identity.Reads as mat3-set-identity
use Rattle.shown.proofs.moves.zanikory_mat3_swap_columns.Reads as mat3-swap-columns
use Rattle.shown.proofs.moves.zanikory_mat3_flip_column.Reads as mat3-flip-column
use Rattle.shown.proofs.moves.zanikory_mat3_index.Reads as mat3-index
use Rattle.shown.proofs.moves.zanikory_mat3_index_mut.Reads as mat3-index-mut
use Rattle.shown.proofs.moves.zanikory_sym2_index.Reads as sym2-index
use Rattle.shown.proofs.moves.zanikory_sym2_index_mut.Reads as sym2-index-mut
use Rattle.shown.proofs.moves.zanikory_sym3_index.Reads as sym3-index
use Rattle.shown.proofs.moves.zanikory_sym3_index_mut.Reads as sym3-index-mut

-- ---- floats

pub one_root : (x : Float) → OneAnswer (λ (r : Float). root.Post tt (x, tt) r (x, tt))
one_root x r q p s = p.is ∙ sym s.is

pub one_root_bits : (b : ℕ) → OneAnswer (λ (r : ℕ). root-bits.Post tt (b, tt) r (b, tt))
one_root_bits b = named _

pub one_signum : (x : Float) → OneAnswer (λ (r : Float). signum.Post tt (x, tt) r (x, tt))
one_signum x = named _

pub one_signum_bits : (b : ℕ) → OneAnswer (λ (r : ℕ). signum-bits.Post tt (b, tt) r (b, tt))
one_signum_bits b = named _

-- ---- square matrices of size 2

pub one_mat2_transpose : (κs : Lfts 1) (a : _) → OneOutcome (mat2-transpose.Post κs a) (λ s. s.0.now)
one_mat2_transpose κs a = both_named _ _ (λ s. s.0.now)

pub one_mat2_set_identity : (κs : Lfts 1) (a : _) → OneOutcome (mat2-set-identity.Post κs a) (λ s. s.0.now)
one_mat2_set_identity κs a = both_named _ _ (λ s. s.0.now)

pub one_mat2_swap_columns : (κs : Lfts 1) (a : _) → OneOutcome (mat2-swap-columns.Post κs a) (λ s. s.1.1.0.now)
one_mat2_swap_columns κs a = mat2-left _ (λ s. s.1.1.0.now)

pub one_mat2_flip_column : (κs : Lfts 1) (a : _) → OneOutcome (mat2-flip-column.Post κs a) (λ s. s.1.0.now)
one_mat2_flip_column κs a = mat2-left _ (λ s. s.1.0.now)

pub one_mat2_index : (κs : Lfts 2) (a : _) → OneOutcome (mat2-index.Post κs a) (λ s. s.1.1.1.0.now)
one_mat2_index κs a = number-left _ (λ s. s.1.1.1.0.now)

pub one_mat2_index_mut : (κs : Lfts 1) (a : _) → OneOutcome (mat2-index-mut.Post κs a) (λ s. s.1.1.1.0.now)
one_mat2_index_mut κs a = mat2-left _ (λ s. s.1.1.1.0.now)

-- ---- square matrices of size 3

pub one_mat3_transpose : (κs : Lfts 1) (a : _) → OneOutcome (mat3-transpose.Post κs a) (λ s. s.0.now)
one_mat3_transpose κs a = both_named _ _ (λ s. s.0.now)

pub one_mat3_set_identity : (κs : Lfts 1) (a : _) → OneOutcome (mat3-set-identity.Post κs a) (λ s. s.0.now)
one_mat3_set_identity κs a = both_named _ _ (λ s. s.0.now)

pub one_mat3_swap_columns : (κs : Lfts 1) (a : _) → OneOutcome (mat3-swap-columns.Post κs a) (λ s. s.1.1.0.now)
one_mat3_swap_columns κs a = mat3-left _ (λ s. s.1.1.0.now)

pub one_mat3_flip_column : (κs : Lfts 1) (a : _) → OneOutcome (mat3-flip-column.Post κs a) (λ s. s.1.0.now)
one_mat3_flip_column κs a = mat3-left _ (λ s. s.1.0.now)

pub one_mat3_index : (κs : Lfts 2) (a : _) → OneOutcome (mat3-index.Post κs a) (λ s. s.1.1.1.0.now)
one_mat3_index κs a = number-left _ (λ s. s.1.1.1.0.now)

pub one_mat3_index_mut : (κs : Lfts 1) (a : _) → OneOutcome (mat3-index-mut.Post κs a) (λ s. s.1.1.1.0.now)
one_mat3_index_mut κs a = mat3-left _ (λ s. s.1.1.1.0.now)

-- ---- symmetric matrices

pub one_sym2_index : (κs : Lfts 2) (a : _) → OneOutcome (sym2-index.Post κs a) (λ s. s.1.1.1.0.now)
one_sym2_index κs a = number-left _ (λ s. s.1.1.1.0.now)

pub one_sym2_index_mut : (κs : Lfts 1) (a : _) → OneOutcome (sym2-index-mut.Post κs a) (λ s. s.1.1.1.0.now)
one_sym2_index_mut κs a = sym2-left _ (λ s. s.1.1.1.0.now)

pub one_sym3_index : (κs : Lfts 2) (a : _) → OneOutcome (sym3-index.Post κs a) (λ s. s.1.1.1.0.now)
one_sym3_index κs a = number-left _ (λ s. s.1.1.1.0.now)

pub one_sym3_index_mut : (κs : Lfts 1) (a : _) → OneOutcome (sym3-index-mut.Post κs a) (λ s. s.1.1.1.0.now)
one_sym3_index_mut κs a = sym3-left _ (λ s. s.1.1.1.0.now)
