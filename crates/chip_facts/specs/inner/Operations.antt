-- The results of instructions on two bytes, according to the instruction table.
use Rattle.std.specs.Prelude.{◌≡◌, ℕ, ◌+◌, ◌-◌, ◌*◌, ◌/◌, ◌%◌, ◌==◌, true, nat_lt, nat_le, bit_and, bit_or, bit_xor}
use Rattle.chip_machine.specs.Step.{bit_of}
use Rattle.chip_facts.specs.declared.operation.Operation.{Operation}
use Rattle.chip_facts.specs.declared.operation.Operation.TheVariants as op
use Rattle.chip_facts.specs.declared.operation.Pairs.{Pairs}
use Rattle.chip_facts.specs.Sets.{Holds}

abbrev pub value_of : Operation → ℕ → ℕ → ℕ
value_of op.Second a b = b
value_of op.Or a b = bit_or a b
value_of op.And a b = bit_and a b
value_of op.Xor a b = bit_xor a b
value_of op.Sum a b = (a + b) % 256
value_of op.Add a b = (a + b) % 256
value_of op.Subtract a b = (256 + a - b) % 256
value_of op.SubtractFrom a b = (256 + b - a) % 256
value_of op.ShiftRight a b = b / 2
value_of op.ShiftLeft a b = b * 2 % 256
value_of op.Compare a b = a

abbrev pub flag_of : Operation → ℕ → ℕ → ℕ
flag_of op.Second a b = 0
flag_of op.Or a b = 0
flag_of op.And a b = 0
flag_of op.Xor a b = 0
flag_of op.Sum a b = 0
flag_of op.Add a b = bit_of (nat_lt 255 (a + b))
flag_of op.Subtract a b = bit_of (nat_le b a)
flag_of op.SubtractFrom a b = bit_of (nat_le a b)
flag_of op.ShiftRight a b = b % 2
flag_of op.ShiftLeft a b = b / 128
flag_of op.Compare a b = bit_of (a == b)

-- a result and a second byte are among the computed ones
abbrev pub IsMade : Pairs → ℕ → ℕ → Type 0
IsMade m v b = (m.any ≡ true) × Holds m.values v × Holds m.seconds b
