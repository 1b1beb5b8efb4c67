-- The code of a line under a map of names: its own bytes, or its first fault from the left (COSMAC
-- VIP manual and SUPER-CHIP 1.1 documentation for the words of instructions; Chipper manual for
-- data).
use Rattle.std.specs.Prelude.{ℕ, ◌*◌, ◌/◌, ◌%◌, List, [], ◌∷◌, ◌++◌, length, Option, Some, None, Result, Ok, Err}
use Rattle.chip_lang.specs.declared.fault.Fault.{Fault}
use Rattle.chip_lang.specs.declared.code.Coded.{Coded}
use Rattle.chip_lang.specs.declared.code.Coded.TheVariants.{Bytes, Faulty}
use Rattle.chip_lang.specs.Tree.{Tree}
use Rattle.chip_lang.specs.Value.{◌>>=◌, Symbols, value}
use Rattle.chip_lang.specs.Line.{Body, db, dw, da, code, Reading, bad, read}
use Rattle.chip_lang.specs.Encoding.{signed_below, word_of_form}

-- one byte, as a list
abbrev pub byte_of : ℕ → List ℕ
byte_of n = n ∷ []

-- a word of 16 bits, its high byte first
abbrev pub word_bytes : ℕ → List ℕ
word_bytes w = w / 256 ∷ w % 256 ∷ []

-- the value of an expression in DB or DW, a negative value modulo the limit; out of range, a fault
abbrev pub datum_of : ℕ → Tree → Symbols → Result ℕ Fault
datum_of limit e symbols = value e symbols >>= signed_below limit

-- the bytes of values from left to right, or the fault of the first value that has one
abbrev pub data_bytes : ℕ → (ℕ → List ℕ) → List Tree → Symbols → Result (List ℕ) Fault
data_bytes limit shown [] symbols = Ok []
data_bytes limit shown (e ∷ es) symbols =
    datum_of limit e symbols >>= λ n. data_bytes limit shown es symbols
    >>= λ rest. Ok (shown n ++ rest)

-- a statement's own bytes, without padding
unfoldable pub own_bytes : Body → Symbols → Result (List ℕ) Fault
own_bytes (db es) symbols = data_bytes 256 byte_of es symbols
own_bytes (dw es) symbols = data_bytes 65536 word_bytes es symbols
own_bytes (da bytes) symbols = Ok bytes
own_bytes (code form operands) symbols =
    word_of_form form operands symbols >>= λ w. Ok (word_bytes w)
own_bytes body symbols = Ok []

-- the number of a statement's own bytes if it has no fault
abbrev pub own_length : Body → ℕ
own_length (db es) = length es
own_length (dw es) = 2 * length es
own_length (da bytes) = length bytes
own_length (code form operands) = 2
own_length body = 0

abbrev pub coded : Result (List ℕ) Fault → Coded
coded (Ok bytes) = Bytes bytes
coded (Err fault) = Faulty fault

-- the code of a line; if the line can't be read, its reading fault
abbrev pub code_of : Reading → Symbols → Coded
code_of (bad fault) symbols = Faulty fault
code_of (read label body) symbols = coded (own_bytes body symbols)

-- the number of a line's own bytes if it has no fault
abbrev pub code_length : Reading → ℕ
code_length (bad fault) = 0
code_length (read label body) = own_length body

-- the bytes of a code; a faulty line has none
abbrev pub bytes_coded : Coded → List ℕ
bytes_coded (Bytes bytes) = bytes
bytes_coded (Faulty fault) = []

-- the fault of a code, if the code is a fault
abbrev pub fault_coded : Coded → Option Fault
fault_coded (Bytes bytes) = None
fault_coded (Faulty fault) = Some fault
