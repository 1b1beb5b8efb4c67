-- The word of a statement, and the entry of the table that it decodes by
-- (COSMAC VIP manual; SUPER-CHIP 1.1 documentation; Chipper manual for the forms).
use Rattle.std.specs.Prelude.{ℕ, ◌≡◌, true, List, Some, Ok}
use Rattle.std.specs.List.{list_all}
use Rattle.chip_lang.specs.Table.{fields_in, Row, Entry}
use Rattle.chip_lang.specs.Form.{form_of}
use Rattle.chip_lang.specs.Operand.{Operand, is_of_machine}
use Rattle.chip_lang.specs.Value.{Symbols}
use Rattle.chip_lang.specs.Encoding.{word_of_form}
use Rattle.chip_lang.specs.Decoding.{entry_of, decode_of}
use Rattle.chip_lang.specs.Show.{form_shown}

-- A statement has a form and a word. The form has the statement's name, and the statement's
-- operands fit it; their registers are V0 to VF. The word is the word of that form and those
-- operands.
pub record HasWord (name : List ℕ) (operands : List Operand) (symbols : Symbols) (form : Row)
    (w : ℕ) : Type 0 where
  pub fits : form_of name operands ≡ Some form
  pub registers : list_all is_of_machine operands ≡ true
  pub word : word_of_form form operands symbols ≡ Ok w

-- A word decodes to an instruction of a form and is shown as such: the form of the word's entry in
-- the table has the same name and the same word without operands. The entry's form is therefore
-- this form or, for a shift, the shorter form of that shift.
pub record DecodesTo (form : Row) (w : ℕ) : Type 0 where
  pub entry : Entry
  pub found : entry_of w ≡ Some entry
  pub decoded : decode_of w ≡ Some (entry.instr (fields_in w))
  pub shown : form_shown w ≡ Some entry.form
  pub name : entry.form.name ≡ form.name
  pub base : entry.form.base ≡ form.base
