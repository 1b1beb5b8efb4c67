-- The instruction of a line: its form is the form of its name and operands, and its registers are V0 to VF.
use Rattle.std.proofs.Common.{◌≡◌, ◌≢◌, ℕ, List, codes, Option, Ok, subst}
use Rattle.chip_lang.specs.Encoding.{word_of_form}
use Rattle.chip_lang.specs.Table.{Row}
use Rattle.chip_lang.specs.Statement.{DecodesTo}
use Rattle.chip_lang.specs.Line.{lexemes_of, read, reading_of, code}
use Rattle.chip_lang.specs.Operand.{Operand}
use Rattle.chip_lang.specs.Value.{Symbols}
use Rattle.chip_lang.proofs.ReadBody.{FormedReading, tokens_used_few}
use Rattle.chip_lang.proofs.SaidForm.{said_form}
use Rattle.chip_lang.proofs.ShownForm.{shown_where_decoded}

formed_line : (line : List ℕ) → FormedReading (reading_of line)
unfolding reading_of
formed_line line = (tokens_used_few (lexemes_of line)).1

pub said_line : (line : List ℕ) (label : Option (List ℕ)) (form : Row) (operands : List Operand) (symbols : Symbols) (w : ℕ) → reading_of line ≡ read label (code form operands) →
    word_of_form form operands symbols ≡ Ok w → form.name ≢ codes "SYS" → DecodesTo form w
said_line line label form operands symbols w e h plain =
    let formed = subst FormedReading e (formed_line line) in
    said_form formed.name operands symbols form w (record { fits = formed.fits; registers = formed.registers; word = h }) plain

pub ruleset form_laws = (shown_where_decoded, said_form, said_line)
