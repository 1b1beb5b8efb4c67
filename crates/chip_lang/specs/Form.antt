-- The form of an instruction in source, found by its name and operands (Chipper manual).
use Rattle.std.specs.Prelude.{ℕ, ◌==◌, ◌&&◌, Bool, true, false, if◌then◌else◌, List, [], ◌∷◌, Option, Some, None}
use Rattle.std.specs.Str.{bytes_eq}
use Rattle.chip_lang.specs.declared.form.Form.{Form}
use Rattle.chip_lang.specs.declared.form.Pattern.{Pattern}
use Rattle.chip_lang.specs.declared.form.Pattern.TheVariants.{Vx, Vy, V0, Index, DelayTimer, SoundTimer, Key, SmallDigit, BigDigit, Decimal, Flags, AtIndex, Nibble, Byte, Address}
use Rattle.chip_lang.specs.Table.{Row, row, forms}
use Rattle.chip_lang.specs.Operand.{Operand, register, special, expression}
use Rattle.chip_lang.specs.declared.form.Special.{Special}
use Rattle.chip_lang.specs.declared.form.Special.TheVariants.{Index as index, DelayTimer as delay_timer, SoundTimer as sound_timer, Key as key, SmallDigit as small_digit, BigDigit as big_digit, Decimal as decimal, Flags as flags, AtIndex as at_index}

abbrev pub row_of_form : Form → Row
row_of_form f = row f.name.now f.patterns.now f.base

abbrev pub option_row : Option Form → Option Row
option_row None = None
option_row (Some f) = Some (row_of_form f)

-- true if a word for a part of the machine, or [I], fits a pattern
unfoldable pub is_special : Special → Pattern → Bool
is_special index Index = true
is_special delay_timer DelayTimer = true
is_special sound_timer SoundTimer = true
is_special key Key = true
is_special small_digit SmallDigit = true
is_special big_digit BigDigit = true
is_special decimal Decimal = true
is_special flags Flags = true
is_special at_index AtIndex = true
is_special s p = false

-- true if an operand fits a pattern
unfoldable pub matches : Pattern → Operand → Bool
matches p (special s) = is_special s p
matches Vx (register x) = true
matches Vy (register x) = true
matches V0 (register x) = x == 0
matches Nibble (expression e) = true
matches Byte (expression e) = true
matches Address (expression e) = true
matches p o = false

abbrev pub all_match : List Pattern → List Operand → Bool
all_match [] [] = true
all_match [] (o ∷ os) = false
all_match (p ∷ ps) [] = false
all_match (p ∷ ps) (o ∷ os) = matches p o && all_match ps os

-- true if a form has this name, and these operands fit it
abbrev pub fits : Row → List ℕ → List Operand → Bool
fits r n os = bytes_eq r.name n && all_match r.patterns os

-- the first form of a table that has this name and that these operands fit
abbrev pub find_form : List Row → List ℕ → List Operand → Option Row
find_form [] n os = None
find_form (r ∷ rs) n os = if fits r n os then Some r else find_form rs n os

-- the form with this name that these operands fit, if there is one
abbrev pub form_of : List ℕ → List Operand → Option Row
form_of n os = find_form forms n os
