-- Numbers by their quotient and remainder for a divisor p.
use Rattle.std.proofs.Common.{◌≡◌, ℕ, ◌+◌, ◌-◌, ◌*◌, ◌/◌, ◌%◌, ◌<◌, ◌≤◌, arith}
use Rattle.std.proofs.Math.Nat.{suc-mul, mod-lt, mul-le-mul_right, div-mul-le_self}
use Rattle.std.proofs.lemmas.Nat.{div-add-mod', le-div}

-- the next multiple of p after s, computed from the distance to it
pub multiple_left : (s p left : ℕ) → 0 < p → left ≡ p - s % p → s + left ≡ (s / p + 1) * p
multiple_left s p left above is =
    let below : s % p < p = mod-lt s above in
    omega (arith, div-add-mod' s p, suc-mul (s / p) p, below)

-- the multiples up to m
pub multiple_within : (i m p : ℕ) → i < m / p → (i + 1) * p ≤ m
multiple_within i m p l =
    let least : (i + 1) * p ≤ m / p * p = mul-le-mul_right p (omega arith) in
    omega (arith, least, div-mul-le_self m p)

-- a number up to m isn't above the next multiple of p after m
pub within_next : (s m p : ℕ) → 0 < p → s ≤ m → s ≤ (m / p + 1) * p
within_next s m p above l = omega (arith, div-add-mod' m p, mod-lt m above, suc-mul (m / p) p)

pub div_mono : (m n p : ℕ) → 0 < p → m ≤ n → m / p ≤ n / p
div_mono m n p above l = le-div (m / p) n p above (omega (arith, div-mul-le_self m p))
