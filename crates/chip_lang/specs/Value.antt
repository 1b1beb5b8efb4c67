-- The value of an expression under a table of names (32 bits with a sign, and the faults, are
-- chosen by this project).
use Rattle.std.specs.Prelude.{ℕ, zero, ℤ, pos, negsuc, ◌+ℤ◌, ◌-ℤ◌, ◌*ℤ◌, neg_ℤ, int_div, ◌^◌, Bool, nat_lt, if◌then◌else◌, List, Option, Some, None, Result, Ok, Err}
use Rattle.std.specs.Int.{w32, int_bit_and, int_bit_or, int_bit_xor, int_bit_not, int_shr}
use Rattle.std.specs.Ordering.{nat_cmp}
use Rattle.std.specs.Cmp.Lexicographic.{slice_cmp}
use Rattle.std.specs.FinMap as map
use Rattle.chip_lang.specs.declared.fault.Fault.{Fault}
use Rattle.chip_lang.specs.declared.fault.Fault.TheVariants.{UndefinedName, DivisionByZero, Overflow}
use Rattle.chip_lang.specs.declared.expr.Prefix.{Prefix}
use Rattle.chip_lang.specs.declared.expr.Prefix.TheVariants.{Plus, Minus, Not}
use Rattle.chip_lang.specs.declared.expr.Operator.{Operator}
use Rattle.chip_lang.specs.declared.expr.Operator.TheVariants.{ShiftLeft, ShiftRight, Multiply, Divide, Add, Subtract, And, Or, Xor}
use Rattle.chip_lang.specs.Tree.{Tree, number, name, unary, binary}

-- names and their values
abbrev pub Symbols : Type 0
Symbols = map.FinMap (slice_cmp nat_cmp) ℤ

-- the table without names
abbrev pub no_names : Symbols
no_names = map.empty

-- the value of a name, if it has one
abbrev pub value_of_name : Symbols → List ℕ → Option ℤ
value_of_name symbols n = map.get symbols n

-- true from -2147483648 to 2147483647
abbrev pub is_in_range : ℤ → Bool
is_in_range (pos n) = nat_lt n 2147483648
is_in_range (negsuc n) = nat_lt n 2147483648

-- a value if it is in that range, or else the fault Overflow
abbrev pub ranged : ℤ → Result ℤ Fault
ranged z = if is_in_range z then Ok z else Err Overflow

-- a quotient, rounded towards zero; a zero divisor is a fault
abbrev pub divide : ℤ → ℤ → Result ℤ Fault
divide a (pos zero) = Err DivisionByZero
divide a b = ranged (int_div a b)

-- a times 2 to the power n, for n from 0 to 31; otherwise, or if the result is out of range, a
-- fault
abbrev pub shift_left : ℤ → ℤ → Result ℤ Fault
shift_left a (pos n) = if nat_lt n 32 then ranged (a *ℤ pos (2 ^ n)) else Err Overflow
shift_left a (negsuc n) = Err Overflow

-- a divided by 2 to the power n, rounded down, for n from 0 to 31; otherwise a fault
abbrev pub shift_right : ℤ → ℤ → Result ℤ Fault
shift_right a (pos n) = if nat_lt n 32 then Ok (int_shr a n) else Err Overflow
shift_right a (negsuc n) = Err Overflow

abbrev pub apply_prefix : Prefix → ℤ → Result ℤ Fault
apply_prefix Plus a = Ok a
apply_prefix Minus a = ranged (neg_ℤ a)
apply_prefix Not a = Ok (int_bit_not w32 a)

abbrev pub apply : Operator → ℤ → ℤ → Result ℤ Fault
apply ShiftLeft a b = shift_left a b
apply ShiftRight a b = shift_right a b
apply Multiply a b = ranged (a *ℤ b)
apply Divide a b = divide a b
apply Add a b = ranged (a +ℤ b)
apply Subtract a b = ranged (a -ℤ b)
apply And a b = Ok (int_bit_and w32 a b)
apply Or a b = Ok (int_bit_or w32 a b)
apply Xor a b = Ok (int_bit_xor w32 a b)

-- the value if there is one, or else this fault
abbrev pub or_fault : Option ℤ → Fault → Result ℤ Fault
or_fault (Some z) f = Ok z
or_fault None f = Err f

-- continues with the value of an outcome, or keeps its fault
infixl 10 ◌>>=◌
abbrev pub ◌>>=◌ : {A B : Type 0} → Result A Fault → (A → Result B Fault) → Result B Fault
(Ok x) >>= go = go x
(Err f) >>= go = Err f

-- The value of an expression, or its first fault: first the left operand's, then the right
-- operand's, then the fault of the sign itself.
abbrev pub value : Tree → Symbols → Result ℤ Fault
value (number z) symbols = Ok z
value (name n) symbols = or_fault (value_of_name symbols n) UndefinedName
value (unary sign a) symbols = value a symbols >>= apply_prefix sign
value (binary sign a b) symbols = value a symbols >>= λ x. value b symbols >>= apply sign x
