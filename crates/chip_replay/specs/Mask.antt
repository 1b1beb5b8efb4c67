-- Masks.
-- Source: chosen by this project.
--     mask            the number in which bit k, for k below n, is set if p k is true
use Rattle.std.specs.Prelude.{ℕ, zero, suc, ◌+◌, ◌^◌, Bool, if◌then◌else◌}

unfoldable pub mask : (ℕ → Bool) → ℕ → ℕ
mask p zero = 0
mask p (suc n) = mask p n + (if p n then 2 ^ n else 0)
