-- Any two answers within the promise of a public function are equal. Each promise is read from the source, as a caller reads it; one over any size n
-- goes over each number s of its storage too.
use Rattle.float.proofs.Words.{List, ℕ, Float}
use Rattle.std.specs.Prelude.{Option, Result}
use contract.Lifetimes.{Lfts}
use denote.Param.Laws.{Laws}
use denote.RattleType.{RattleType}
use mir.Syntax.{w64, Dict}
use mir.Val.{Fits}
use Rattle.float.specs.Width.{F}
use Rattle.float.specs.OneAnswer.{OneAnswer, OneOutcome}
use Rattle.float.proofs.OneAnswer.{named, both_named}
use Rattle.matrix.specs.Square.{Mat2, Mat3}
use Rattle.matrix.specs.Symmetric.{Sym2, Sym3}
use Rattle.matrix.specs.declared.answers.Unchanged.{Unchanged}
use Rattle.matrix.specs.declared.codes.Refusal.{Refusal}
use Rattle.matrix.specs.declared.shape.DenseMatrixN.{DenseMatrixN}
use Rattle.matrix.specs.declared.shape.DenseMatrixSymN.{DenseMatrixSymN}
use Rattle.matrix.specs.declared.square.Size.{Size}
use Rattle.matrix.proofs.Readings.{named_place, named_entry, named_scalar, named_answered, named_moved, named_written, named_packed}
use Rattle.matrix.proofs.Refusals.{code_named}
use Rattle.matrix.proofs.answers.judge.Reads as judge
use Rattle.matrix.proofs.answers.judge_all.Reads as judge-all
use Rattle.matrix.proofs.answers.put.Reads as put
use Rattle.matrix.proofs.answers.put_coded.Reads as put-coded
use Rattle.matrix.proofs.codes.U8FromRefusal.from.Reads as u8-from
use Rattle.matrix.proofs.codes.code_of.Reads as code-of
use Rattle.matrix.proofs.shape.DenseMatrixN.dim.Reads as square-dim
use Rattle.matrix.proofs.shape.DenseMatrixN.size.Reads as square-size
use Rattle.matrix.proofs.shape.DenseMatrixN.index_linear.Reads as square-index-linear
use Rattle.matrix.proofs.shape.DenseMatrixN.index.Reads as square-index
use Rattle.matrix.proofs.shape.DenseMatrixN.index_mut.Reads as square-index-mut
use Rattle.matrix.proofs.shape.DenseMatrixN.set_identity.Reads as square-set-identity
use Rattle.matrix.proofs.shape.DenseMatrixN.transpose_in_place.Reads as square-transpose-in-place
use Rattle.matrix.proofs.shape.DenseMatrixN.flip1.Reads as square-flip1
use Rattle.matrix.proofs.shape.DenseMatrixN.flip2.Reads as square-flip2
use Rattle.matrix.proofs.shape.DenseMatrixN.swap12.Reads as square-swap12
use Rattle.matrix.proofs.shape.DenseMatrixN.flip_column.Reads as square-flip-column
use Rattle.matrix.proofs.shape.DenseMatrixN.swap_columns.Reads as square-swap-columns
use Rattle.matrix.proofs.shape.DenseMatrixN.mul.Reads as square-mul
use Rattle.matrix.proofs.square.Mat2.zeros.Reads as mat2-zeros
use Rattle.matrix.proofs.square.Mat3.zeros.Reads as mat3-zeros
use Rattle.matrix.proofs.square.Mat3.flip3.Reads as mat3-flip3
use Rattle.matrix.proofs.square.Mat3.swap13.Reads as mat3-swap13
use Rattle.matrix.proofs.square.Mat3.swap23.Reads as mat3-swap23
use Rattle.matrix.proofs.shape.DenseMatrixSymN.dim.Reads as packed-dim
use Rattle.matrix.proofs.shape.DenseMatrixSymN.size.Reads as packed-size
use Rattle.matrix.proofs.shape.DenseMatrixSymN.index_linear.Reads as packed-index-linear
use Rattle.matrix.proofs.shape.DenseMatrixSymN.index.Reads as packed-index
use Rattle.matrix.proofs.shape.DenseMatrixSymN.index_mut.Reads as packed-index-mut
use Rattle.matrix.proofs.shape.DenseMatrixSymN.copy_from.Reads as packed-copy-from
use Rattle.matrix.proofs.shape.DenseMatrixSymN.scaled_from.Reads as packed-scaled-from
use Rattle.matrix.proofs.symmetric.Sym2.zeros.Reads as sym2-zeros
use Rattle.matrix.proofs.symmetric.Sym3.zeros.Reads as sym3-zeros
use Rattle.matrix.proofs.core3x3.Sym3.mul.Reads as sym3-mul
use Rattle.matrix.proofs.core3x3.Sym3.quad_form.Reads as sym3-quad-form
use Rattle.matrix.proofs.core3x3.Sym3.norm_fro.Reads as sym3-norm-fro

-- ---- answers that hold no matrix

pub one_judge : (x : Float) → OneAnswer (λ (r : Result Float Refusal). judge.Post tt (x, tt) r (x, tt))
one_judge x = named_scalar F _

pub one_judge_all : (n : ℕ) (p : Fits w64 n) (κs : Lfts 1) (a : _) (e : _) → OneAnswer (λ (r : Result (List Float) Refusal). judge-all.Post n p κs a r e)
one_judge_all n p κs a e = named_answered _ _

pub one_put : (n : ℕ) (p : Fits w64 n) (κs : Lfts 2) (a : _) → OneOutcome (put.Post n p κs a) (λ s. s.0.now)
one_put n p κs a = code_named _ _ (λ s. s.0.now)

pub one_put_coded : (n : ℕ) (p : Fits w64 n) (κs : Lfts 2) (a : _) → OneOutcome (put-coded.Post n p κs a) (λ s. s.0.now)
one_put_coded n p κs a = both_named _ _ (λ s. s.0.now)

pub one_u8_from : (e : Refusal) → OneAnswer (λ (r : ℕ). u8-from.Post tt (e, tt) r (e, tt))
one_u8_from e = named _

pub one_code_of : (T : RattleType) (laws : Laws T) (drop : Dict) (κs : Lfts 1) (a : _) (e : _) → OneAnswer (λ (r : ℕ). code-of.Post T laws drop κs a r e)
one_code_of T laws drop κs a e = named _

-- ---- square matrices

pub one_square_dim : (n s : ℕ) (p : Fits w64 n) (q : Fits w64 s) (κs : Lfts 2) (a : _) (e : _)
    → OneAnswer (λ (r : ℕ). square-dim.Post n s p q κs a r e)
one_square_dim n s p q κs a e = named _

pub one_square_size : (n s : ℕ) (p : Fits w64 n) (q : Fits w64 s) (κs : Lfts 2) (a : _) (e : _)
    → OneAnswer (λ (r : Size). square-size.Post n s p q κs a r e)
one_square_size n s p q κs a e = named _

pub one_square_index_linear : (n s : ℕ) (p : Fits w64 n) (q : Fits w64 s) (κs : Lfts 2) (a : _) (e : _)
    → OneAnswer (λ (r : Option ℕ). square-index-linear.Post n s p q κs a r e)
one_square_index_linear n s p q κs a e = named_place _

pub one_square_index : (n s : ℕ) (p : Fits w64 n) (q : Fits w64 s) (κs : Lfts 2) (a : _) (e : _)
    → OneAnswer (λ (r : Option Float). square-index.Post n s p q κs a r e)
one_square_index n s p q κs a e = named_entry F _

pub one_square_index_mut : (n s : ℕ) (p : Fits w64 n) (q : Fits w64 s) (κs : Lfts 2) (a : _) (e : _)
    → OneAnswer (λ (r : Result (DenseMatrixN n s) (Unchanged (DenseMatrixN n s))). square-index-mut.Post n s p q κs a r e)
one_square_index_mut n s p q κs a e = named_moved _

pub one_square_set_identity : (n s : ℕ) (p : Fits w64 n) (q : Fits w64 s) (κs : Lfts 2) (a : _) (e : _)
    → OneAnswer (λ (r : DenseMatrixN n s). square-set-identity.Post n s p q κs a r e)
one_square_set_identity n s p q κs a e = named _

pub one_square_transpose_in_place : (n s : ℕ) (p : Fits w64 n) (q : Fits w64 s) (κs : Lfts 2) (a : _) (e : _)
    → OneAnswer (λ (r : DenseMatrixN n s). square-transpose-in-place.Post n s p q κs a r e)
one_square_transpose_in_place n s p q κs a e = named _

pub one_square_flip1 : (n s : ℕ) (p : Fits w64 n) (q : Fits w64 s) (κs : Lfts 2) (a : _) (e : _)
    → OneAnswer (λ (r : DenseMatrixN n s). square-flip1.Post n s p q κs a r e)
one_square_flip1 n s p q κs a e = named _

pub one_square_flip2 : (n s : ℕ) (p : Fits w64 n) (q : Fits w64 s) (κs : Lfts 2) (a : _) (e : _)
    → OneAnswer (λ (r : DenseMatrixN n s). square-flip2.Post n s p q κs a r e)
one_square_flip2 n s p q κs a e = named _

pub one_square_swap12 : (n s : ℕ) (p : Fits w64 n) (q : Fits w64 s) (κs : Lfts 2) (a : _) (e : _)
    → OneAnswer (λ (r : DenseMatrixN n s). square-swap12.Post n s p q κs a r e)
one_square_swap12 n s p q κs a e = named _

pub one_square_flip_column : (n s : ℕ) (p : Fits w64 n) (q : Fits w64 s) (κs : Lfts 2) (a : _) (e : _)
    → OneAnswer (λ (r : Result (DenseMatrixN n s) (Unchanged (DenseMatrixN n s))). square-flip-column.Post n s p q κs a r e)
one_square_flip_column n s p q κs a e = named_moved _

pub one_square_swap_columns : (n s : ℕ) (p : Fits w64 n) (q : Fits w64 s) (κs : Lfts 2) (a : _) (e : _)
    → OneAnswer (λ (r : Result (DenseMatrixN n s) (Unchanged (DenseMatrixN n s))). square-swap-columns.Post n s p q κs a r e)
one_square_swap_columns n s p q κs a e = named_moved _

pub one_square_mul : (n s : ℕ) (p : Fits w64 n) (q : Fits w64 s) (κs : Lfts 4) (a : _)
    → OneOutcome (square-mul.Post n s p q κs a) (λ s. s.1.0.now)
one_square_mul n s p q κs a = code_named _ _ (λ s. s.1.0.now)

pub one_mat2_zeros : OneAnswer (λ (r : Mat2). mat2-zeros.Post tt tt r tt)
one_mat2_zeros = named _

pub one_mat3_zeros : OneAnswer (λ (r : Mat3). mat3-zeros.Post tt tt r tt)
one_mat3_zeros = named _

pub one_mat3_flip3 : (m : Mat3) → OneAnswer (λ (r : Mat3). mat3-flip3.Post tt (m, tt) r (m, tt))
one_mat3_flip3 m = named _

pub one_mat3_swap13 : (m : Mat3) → OneAnswer (λ (r : Mat3). mat3-swap13.Post tt (m, tt) r (m, tt))
one_mat3_swap13 m = named _

pub one_mat3_swap23 : (m : Mat3) → OneAnswer (λ (r : Mat3). mat3-swap23.Post tt (m, tt) r (m, tt))
one_mat3_swap23 m = named _

-- ---- symmetric matrices

pub one_packed_dim : (n s : ℕ) (p : Fits w64 n) (q : Fits w64 s) (κs : Lfts 2) (a : _) (e : _)
    → OneAnswer (λ (r : ℕ). packed-dim.Post n s p q κs a r e)
one_packed_dim n s p q κs a e = named _

pub one_packed_size : (n s : ℕ) (p : Fits w64 n) (q : Fits w64 s) (κs : Lfts 2) (a : _) (e : _)
    → OneAnswer (λ (r : Size). packed-size.Post n s p q κs a r e)
one_packed_size n s p q κs a e = named _

pub one_packed_index_linear : (n s : ℕ) (p : Fits w64 n) (q : Fits w64 s) (κs : Lfts 2) (a : _) (e : _)
    → OneAnswer (λ (r : Option ℕ). packed-index-linear.Post n s p q κs a r e)
one_packed_index_linear n s p q κs a e = named_place _

pub one_packed_index : (n s : ℕ) (p : Fits w64 n) (q : Fits w64 s) (κs : Lfts 2) (a : _) (e : _)
    → OneAnswer (λ (r : Option Float). packed-index.Post n s p q κs a r e)
one_packed_index n s p q κs a e = named_entry F _

pub one_packed_index_mut : (n s : ℕ) (p : Fits w64 n) (q : Fits w64 s) (κs : Lfts 2) (a : _) (e : _)
    → OneAnswer (λ (r : Result (DenseMatrixSymN n s) (Unchanged (DenseMatrixSymN n s))). packed-index-mut.Post n s p q κs a r e)
one_packed_index_mut n s p q κs a e = named_written _

pub one_packed_copy_from : (n s : ℕ) (p : Fits w64 n) (q : Fits w64 s) (κs : Lfts 2) (a : _) (e : _)
    → OneAnswer (λ (r : DenseMatrixSymN n s). packed-copy-from.Post n s p q κs a r e)
one_packed_copy_from n s p q κs a e = named _

pub one_packed_scaled_from : (n s : ℕ) (p : Fits w64 n) (q : Fits w64 s) (κs : Lfts 2) (a : _) (e : _)
    → OneAnswer (λ (r : Result (DenseMatrixSymN n s) Refusal). packed-scaled-from.Post n s p q κs a r e)
one_packed_scaled_from n s p q κs a e = named_packed _ _

pub one_sym2_zeros : OneAnswer (λ (r : Sym2). sym2-zeros.Post tt tt r tt)
one_sym2_zeros = named _

pub one_sym3_zeros : OneAnswer (λ (r : Sym3). sym3-zeros.Post tt tt r tt)
one_sym3_zeros = named _

-- ---- what is computed with a symmetric 3x3

pub one_sym3_mul : (κs : Lfts 2) (a : _) → OneOutcome (sym3-mul.Post κs a) (λ s. s.1.0.now)
one_sym3_mul κs a = code_named _ _ (λ s. s.1.0.now)

pub one_sym3_quad_form : (κs : Lfts 2) (a : _) (s : _) → OneAnswer (λ (r : Result Float Refusal). sym3-quad-form.Post κs a r s)
one_sym3_quad_form κs a s = named_scalar F _

pub one_sym3_norm_fro : (m : Sym3) → OneAnswer (λ (r : Result Float Refusal). sym3-norm-fro.Post tt (m, tt) r (m, tt))
one_sym3_norm_fro m = named_scalar F _
