-- The names of directives, the words for parts of the machine, and the registers, all in upper case
-- (Chipper manual).
use Rattle.std.specs.Prelude.{ℕ, ◌==◌, ◌&&◌, ◌||◌, if◌then◌else◌, List, [], ◌∷◌, codes, Option, Some, None}
use Rattle.chip_lang.specs.Named.{find_word}
use Rattle.chip_lang.specs.declared.form.Special.{Special}
use Rattle.chip_lang.specs.declared.form.Special.TheVariants.{Index, DelayTimer, SoundTimer, Key, SmallDigit, BigDigit, Decimal, Flags}
use Rattle.chip_lang.specs.declared.directive.Directive.{Directive}
use Rattle.chip_lang.specs.declared.directive.Directive.TheVariants.{Equ, Org, Align, Db, Dw, Da, Ds, Ifdef, Ifund, Else, Endif, End, Options, Used, Xref, Define, Include, Undef}
use Rattle.chip_lang.specs.Token.{is_between, digit_value}

-- the names of directives
abbrev pub directives : List (List ℕ × Directive)
directives =
    (codes "EQU", Equ) ∷ (codes "ORG", Org) ∷ (codes "ALIGN", Align) ∷ (codes "DB", Db)
    ∷ (codes "DW", Dw) ∷ (codes "DA", Da) ∷ (codes "DS", Ds) ∷ (codes "IFDEF", Ifdef)
    ∷ (codes "IFUND", Ifund) ∷ (codes "ELSE", Else) ∷ (codes "ENDIF", Endif) ∷ (codes "END", End)
    ∷ (codes "OPTION", Options) ∷ (codes "USED", Used) ∷ (codes "XREF", Xref)
    ∷ (codes "DEFINE", Define) ∷ (codes "INCLUDE", Include) ∷ (codes "UNDEF", Undef) ∷ []

-- the words for parts of the machine
abbrev pub specials : List (List ℕ × Special)
specials =
    (codes "I", Index) ∷ (codes "DT", DelayTimer) ∷ (codes "ST", SoundTimer) ∷ (codes "K", Key)
    ∷ (codes "F", SmallDigit) ∷ (codes "HF", BigDigit) ∷ (codes "B", Decimal)
    ∷ (codes "R", Flags) ∷ []

unfoldable pub directive_of : List ℕ → Option Directive
directive_of w = find_word directives w

unfoldable pub special_of : List ℕ → Option Special
special_of w = find_word specials w

-- the register that the letter V and a hexadecimal digit name
abbrev pub register_named : ℕ → ℕ → Option ℕ
register_named letter digit =
    if letter == 86 && (is_between 48 57 digit || is_between 65 70 digit)
    then Some (digit_value digit)
    else None

-- the register that a word names: V0 to VF
unfoldable pub register_of : List ℕ → Option ℕ
register_of [] = None
register_of (letter ∷ []) = None
register_of (letter ∷ digit ∷ []) = register_named letter digit
register_of (letter ∷ digit ∷ more ∷ rest) = None
