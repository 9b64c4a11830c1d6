-- The definitions give every row's answer: by computation.
use Rattle.float.proofs.Words.{◌≡◌, refl, map, length, add, sub, mul, div, lt, le, eq, is_nan, of_bits, to_bits}
use Rattle.float.specs.Judged.{judged}
use Rattle.float.specs.Root.{root_of}
use Rattle.float.specs.Scaled.{times_power, power_under, largest_from}
use Rattle.float.specs.Sign.{magnitude_of, sign_bit_of, signum_of, finite, all_finite}
use Rattle.cholesky.specs.Pivot.{pivot_of}
use Rattle.cholesky.specs.Factor.{steps2_of, steps3_of, factor2_of, factor3_of}
use Rattle.cholesky.specs.Solve.{factor_and_solve2_of}
use Rattle.jacobi.specs.Rotation.{tangent_of, rotation_of}
use Rattle.jacobi.specs.Pairs.{largest_of}
use Rattle.jacobi.specs.Order.{ordered}
use Rattle.jacobi.specs.Run.{run_from, run}
use Rattle.eigen.specs.Pairs.{blind_at}
use Rattle.eigen.specs.Eigen2x2.{axes_of, solved2, end2_of, eigen2_of}
use Rattle.eigen.specs.Eigen3x3.{settled_of, next_matrix, next_vectors, step_of, watched_of, ranked_of, end_of, eigen_of}
use Rattle.svd.specs.Polar.{hypot_of, polar_by, polar_of, two_sided_of}
use Rattle.svd.specs.Pairs as svdPairs
use Rattle.svd.specs.Order.{signed_column, order_of, order2_of}
use Rattle.svd.specs.Svd2x2 as svd2
use Rattle.svd.specs.Svd3x3 as svd3
use Rattle.kinds.specs.Work.{from_factor, answered_by}
use Rattle.kinds.specs.Ways.{multiplied_back}
use Rattle.wire.specs.Bytes.{word_of, bytes_of, number_bytes_of, all_zero}
use Rattle.record.specs.Request.{form_of, judged_of}
use Rattle.record.specs.Answer.{record_of, record_step_of}
use Rattle.promises.specs.Examples.{Row, WaysRow, answer_to, table, ways_table}

pub examples : (map (λ (r : Row). answer_to 0 r.asked) table ≡ map (λ (r : Row). r.answer) table)
    × (map (λ (r : Row). answer_to 1 r.asked) table ≡ map (λ (r : Row). r.answer) table)
unfolding root_of times_power power_under largest_from magnitude_of sign_bit_of signum_of finite all_finite judged pivot_of steps2_of steps3_of factor2_of
    factor3_of
    factor_and_solve2_of tangent_of rotation_of
    largest_of ordered run_from run axes_of solved2 end2_of eigen2_of blind_at settled_of next_matrix next_vectors step_of watched_of ranked_of end_of eigen_of
    hypot_of polar_by polar_of two_sided_of svdPairs.sides_of svdPairs.blind_at signed_column order_of order2_of svd2.factors2_of svd2.end2_of svd2.svd2_of
    svd3.settled_of svd3.step_of svd3.watched_of svd3.factors_of svd3.end_of svd3.svd_of
    from_factor answered_by multiplied_back word_of bytes_of number_bytes_of all_zero form_of judged_of record_of record_step_of add sub mul div lt le eq
    is_nan of_bits to_bits
examples = (refl, refl)

pub examples_apart : (map (λ (r : WaysRow). answer_to 0 r.asked) ways_table ≡ map (λ (r : WaysRow). r.scaled) ways_table)
    × (map (λ (r : WaysRow). answer_to 1 r.asked) ways_table ≡ map (λ (r : WaysRow). r.given) ways_table)
unfolding root_of times_power power_under largest_from magnitude_of sign_bit_of signum_of finite all_finite judged pivot_of steps2_of steps3_of factor2_of
    factor3_of
    factor_and_solve2_of tangent_of rotation_of
    largest_of ordered run_from run axes_of solved2 end2_of eigen2_of blind_at settled_of next_matrix next_vectors step_of watched_of ranked_of end_of eigen_of
    hypot_of polar_by polar_of two_sided_of svdPairs.sides_of svdPairs.blind_at signed_column order_of order2_of svd2.factors2_of svd2.end2_of svd2.svd2_of
    svd3.settled_of svd3.step_of svd3.watched_of svd3.factors_of svd3.end_of svd3.svd_of
    from_factor answered_by multiplied_back word_of bytes_of number_bytes_of all_zero form_of judged_of record_of record_step_of add sub mul div lt le eq
    is_nan of_bits to_bits
examples_apart = (refl, refl)

-- P1 to P14, of which P13 has two rows, two of a NaN pivot, three of blind rotations, and the whole example; and five where the ways part
pub all_rows : (length table ≡ 21) × (length ways_table ≡ 5)
all_rows = (refl, refl)
