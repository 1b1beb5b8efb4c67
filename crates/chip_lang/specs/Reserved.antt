-- Reserved words, all in upper case: the names of instructions and directives, the words for parts
-- of the machine, and the registers (Chipper manual).
use Rattle.std.specs.Prelude.{ℕ, ◌||◌, Bool, List, is_some}
use Rattle.std.specs.List.{list_any}
use Rattle.std.specs.Str.{bytes_eq}
use Rattle.chip_lang.specs.Table.{forms}
use Rattle.chip_lang.specs.Keyword.{directive_of, special_of, register_of}

-- true for the name of an instruction, that is, for the name of some source form
abbrev pub is_mnemonic : List ℕ → Bool
is_mnemonic w = list_any (λ r. bytes_eq r.name w) forms

-- true for a word that can't be a name
unfoldable pub is_reserved : List ℕ → Bool
is_reserved w =
    is_mnemonic w || is_some (directive_of w) || is_some (special_of w) || is_some (register_of w)
