-- Sets of numbers, with one bit per number, in a sequence of words of 64 bits.
-- Source: chosen by this project.
--     has             whether a number is in a set
--     Holds           a number is in a set
--     IsWithin        each number in a set is also in another set
use Rattle.std.specs.Prelude.{◌≡◌, ℕ, ◌/◌, ◌%◌, ◌==◌, Bool, true, List, slice_index}
use Rattle.std.specs.Int.{bit_at}

abbrev pub has : List ℕ → ℕ → Bool
has words n = bit_at (slice_index words (n / 64)) (n % 64) == 1

abbrev pub Holds : List ℕ → ℕ → Type 0
Holds words n = has words n ≡ true

abbrev pub IsWithin : List ℕ → List ℕ → Type 0
IsWithin some all = (n : ℕ) → Holds some n → Holds all n
