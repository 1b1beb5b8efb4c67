-- The word of a form and its operands (COSMAC VIP manual and SUPER-CHIP 1.1 documentation; the
-- ranges of values are chosen by this project).
use Rattle.std.specs.Prelude.{ℕ, ◌+◌, ◌*◌, ◌-◌, ◌/◌, ℤ, pos, negsuc, nat_lt, if◌then◌else◌, bit_or, List, [], ◌∷◌, Result, Ok, Err}
use Rattle.chip_lang.specs.declared.fault.Fault.{Fault}
use Rattle.chip_lang.specs.declared.fault.Fault.TheVariants.{OutOfRange, WrongOperands}
use Rattle.chip_lang.specs.declared.form.Pattern.{Pattern}
use Rattle.chip_lang.specs.declared.form.Pattern.TheVariants.{Vx, Vy, Nibble, Byte, Address}
use Rattle.chip_lang.specs.Form.{matches}
use Rattle.chip_lang.specs.Operand.{Operand, register, expression}
use Rattle.chip_lang.specs.Table.{Row}
use Rattle.chip_lang.specs.Value.{◌>>=◌, Symbols, value}

-- a value from 0 to limit - 1; any other value is a fault
abbrev pub number_below : ℕ → ℤ → Result ℕ Fault
number_below limit (pos n) = if nat_lt n limit then Ok n else Err OutOfRange
number_below limit (negsuc n) = Err OutOfRange

-- a value from -limit / 2 to limit - 1, a negative one modulo limit; any other value is a fault
abbrev pub signed_below : ℕ → ℤ → Result ℕ Fault
signed_below limit (pos n) = if nat_lt n limit then Ok n else Err OutOfRange
signed_below limit (negsuc n) =
    if nat_lt n (limit / 2) then Ok (limit - (n + 1)) else Err OutOfRange

-- the bits that an operand puts into the word: the number of a register and the value of an
-- expression at their places, and nothing for a part of the machine that fits its pattern; an
-- operand that doesn't fit is a fault
unfoldable pub field_of : Pattern → Operand → Symbols → Result ℕ Fault
field_of Vx (register x) symbols = Ok (256 * x)
field_of Vy (register y) symbols = Ok (16 * y)
field_of Nibble (expression e) symbols = value e symbols >>= number_below 16
field_of Byte (expression e) symbols = value e symbols >>= signed_below 256
field_of Address (expression e) symbols = value e symbols >>= number_below 4096
field_of p o symbols = if matches p o then Ok 0 else Err WrongOperands

-- the bits of all operands together, or the first fault from the left; too few or too many operands
-- are a fault
abbrev pub fields_of : List Pattern → List Operand → Symbols → Result ℕ Fault
fields_of [] [] symbols = Ok 0
fields_of [] (o ∷ os) symbols = Err WrongOperands
fields_of (p ∷ ps) [] symbols = Err WrongOperands
fields_of (p ∷ ps) (o ∷ os) symbols =
    field_of p o symbols >>= λ field. fields_of ps os symbols >>= λ rest. Ok (bit_or field rest)

-- the word of a form and its operands
abbrev pub word_of_form : Row → List Operand → Symbols → Result ℕ Fault
word_of_form r os symbols = fields_of r.patterns os symbols >>= λ fields. Ok (bit_or r.base fields)
