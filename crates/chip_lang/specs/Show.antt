-- The source text of a word, in the form of its entry in the table (Chipper manual; the way numbers
-- are written, and DW, are chosen by this project).
use Rattle.std.specs.Prelude.{ℕ, ◌+◌, ◌-◌, ◌/◌, ◌%◌, nat_lt, if◌then◌else◌, List, [], ◌∷◌, ◌++◌, codes, pos, Option, Some, None, option_map}
use Rattle.chip_lang.specs.declared.form.Pattern.{Pattern}
use Rattle.chip_lang.specs.declared.form.Pattern.TheVariants.{Vx, Vy, V0, Index, DelayTimer, SoundTimer, Key, SmallDigit, BigDigit, Decimal, Flags, AtIndex, Nibble, Byte, Address}
use Rattle.chip_lang.specs.declared.form.Special.TheVariants.{Index as index, DelayTimer as delay_timer, SoundTimer as sound_timer, Key as key, SmallDigit as small_digit, BigDigit as big_digit, Decimal as decimal, Flags as flags, AtIndex as at_index}
use Rattle.chip_lang.specs.Table.{Row}
use Rattle.chip_lang.specs.Decoding.{field_in, entry_of}
use Rattle.chip_lang.specs.Operand.{Operand, register, special, expression}
use Rattle.chip_lang.specs.Tree.{number}

-- ---- numbers

-- the hexadecimal digit of a number below 16, in lower case
abbrev pub hex_digit : ℕ → ℕ
hex_digit d = if nat_lt d 10 then 48 + d else 87 + d

-- the last two, three and four hexadecimal digits of a number
abbrev pub two_hex_digits : ℕ → List ℕ
two_hex_digits n = hex_digit (n / 16 % 16) ∷ hex_digit (n % 16) ∷ []

abbrev pub three_hex_digits : ℕ → List ℕ
three_hex_digits n = hex_digit (n / 256 % 16) ∷ two_hex_digits n

abbrev pub four_hex_digits : ℕ → List ℕ
four_hex_digits n = hex_digit (n / 4096 % 16) ∷ three_hex_digits n

-- a number below 16 in decimal
abbrev pub small_decimal : ℕ → List ℕ
small_decimal n = if nat_lt n 10 then (48 + n) ∷ [] else 49 ∷ (48 + (n - 10)) ∷ []

-- the hexadecimal digit of a number below 16, in upper case
abbrev pub register_digit : ℕ → ℕ
register_digit x = if nat_lt x 10 then 48 + x else 55 + x

-- the name of a register: V0 to VF
abbrev pub register_text : ℕ → List ℕ
register_text x = 86 ∷ register_digit x ∷ []

-- ---- the form of a word

-- the form in which a word is shown: the form of the word's entry in the table
abbrev pub form_shown : ℕ → Option Row
form_shown w = option_map (λ e. e.form) (entry_of w)

-- the operand that a word holds for a pattern
abbrev pub operand_in : ℕ → Pattern → Operand
operand_in w Vx = register (field_in Vx w)
operand_in w Vy = register (field_in Vy w)
operand_in w V0 = register 0
operand_in w Index = special index
operand_in w DelayTimer = special delay_timer
operand_in w SoundTimer = special sound_timer
operand_in w Key = special key
operand_in w SmallDigit = special small_digit
operand_in w BigDigit = special big_digit
operand_in w Decimal = special decimal
operand_in w Flags = special flags
operand_in w AtIndex = special at_index
operand_in w Nibble = expression (number (pos (field_in Nibble w)))
operand_in w Byte = expression (number (pos (field_in Byte w)))
operand_in w Address = expression (number (pos (field_in Address w)))

-- ---- the text of a word

abbrev pub operand_text : Pattern → ℕ → List ℕ
operand_text Vx w = register_text (field_in Vx w)
operand_text Vy w = register_text (field_in Vy w)
operand_text V0 w = codes "V0"
operand_text Index w = codes "I"
operand_text DelayTimer w = codes "DT"
operand_text SoundTimer w = codes "ST"
operand_text Key w = codes "K"
operand_text SmallDigit w = codes "F"
operand_text BigDigit w = codes "HF"
operand_text Decimal w = codes "B"
operand_text Flags w = codes "R"
operand_text AtIndex w = codes "[I]"
operand_text Nibble w = small_decimal (field_in Nibble w)
operand_text Byte w = codes "#" ++ two_hex_digits (field_in Byte w)
operand_text Address w = codes "#" ++ three_hex_digits (field_in Address w)

-- the texts of operands, with a comma and a space before each one except the first, which has the
-- text `before` before it
abbrev pub operands_text : List ℕ → List Pattern → ℕ → List ℕ
operands_text before [] w = []
operands_text before (p ∷ ps) w = before ++ operand_text p w ++ operands_text (codes ", ") ps w

abbrev pub form_text : Option Row → ℕ → List ℕ
form_text None w = codes "DW #" ++ four_hex_digits w
form_text (Some r) w = r.name ++ operands_text (codes " ") r.patterns w

-- the source text of a word
unfoldable pub show_of : ℕ → List ℕ
show_of w = form_text (form_shown w) w
