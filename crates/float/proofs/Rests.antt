-- A root of 53 digits in two parts, a and e: what the rest of the first part says of the square of the whole. Plain numbers.
use Rattle.float.proofs.Words.{◌≡◌, ℕ, ◌+◌, ◌*◌, ◌^◌, ◌≤◌, ◌<◌, arith}
use Rattle.float.specs.Digits.{NearestRoot}

-- The whole root q has the square (a * a) * 2^42 + 2^22 * (a * e) + e * e. So 2^22 * beyond is what (a * a + r) * 2^42 has more than that, with
-- e * e and 2^22 * v added; and q is the nearest where this is neither under 0 nor over 2^22 * (u + v).
pub nearest_by : (r a e u v beyond : ℕ) → u * 2 ^ 22 ≤ a * 2 ^ 21 + e + e * e → v * 2 ^ 22 + e * e < a * 2 ^ 21 + e
    → beyond + a * e ≡ r * 2 ^ 20 + v → beyond ≤ u + v → NearestRoot ((a * a + r) * 2 ^ 42) (a * 2 ^ 21 + e)
nearest_by r a e u v beyond most least is small = record { above = omega arith; below = omega arith }
