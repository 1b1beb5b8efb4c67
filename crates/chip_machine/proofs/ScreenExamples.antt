-- Examples of rows of the screen: the columns that a sprite covers, as a number in which the leftmost
-- column is the highest bit.
use Rattle.std.proofs.Common.{◌≡◌, ℕ, zero, suc, ◌+◌, ◌*◌, Bool, true, false, cond, List, [], ◌∷◌, ◌++◌, replicate, refl}
use Rattle.chip_machine.specs.Sprite.{clipped_over, is_set, row_bytes}

abbrev number : (ℕ → Bool) → ℕ → ℕ
number test zero = 0
number test (suc n) = 2 * number test n + cond (test n) 1 0

abbrev zero_digit : List ℕ
zero_digit = 240 ∷ 144 ∷ 144 ∷ 144 ∷ 240 ∷ []

abbrev one_byte : List ℕ
one_byte = replicate 31 0 ++ 255 ∷ []

-- a digit at column 60 of the low size reaches the right edge
at_the_edge : number (λ column. clipped_over false 60 0 1 zero_digit column 0) 128 ≡ 0xff
unfolding clipped_over is_set row_bytes
at_the_edge = refl

hollow : number (λ column. clipped_over false 60 0 1 zero_digit column 7) 128 ≡ 0xc3
unfolding clipped_over is_set row_bytes
hollow = refl

below_it : number (λ column. clipped_over false 60 0 1 zero_digit column 10) 128 ≡ 0
unfolding clipped_over is_set row_bytes
below_it = refl

-- at column 62 it is clipped
clipped : number (λ column. clipped_over false 62 0 1 zero_digit column 2) 128 ≡ 0x0c
unfolding clipped_over is_set row_bytes
clipped = refl

-- the start is taken modulo the size
around : number (λ column. clipped_over false 64 32 1 zero_digit column 0) 128 ≡ 0xff000000000000000000000000000000
unfolding clipped_over is_set row_bytes
around = refl

-- row count 0 in the high size means sixteen rows of two bytes
big : number (λ column. clipped_over true 0 0 (row_bytes true 0) one_byte column 15) 128 ≡ 0x00ff0000000000000000000000000000
unfolding clipped_over is_set row_bytes
big = refl
