-- The expression that one token forms, without parentheses (chosen by this project).
use Rattle.std.specs.Prelude.{if◌then◌else◌, [], Option, Some, None}
use Rattle.chip_lang.specs.declared.lexeme.Lexeme.{Lexeme}
use Rattle.chip_lang.specs.declared.lexeme.Lexeme.TheVariants.{Word, Number, Text, Sign, Bad}
use Rattle.chip_lang.specs.Expression.{Tree, number, name}
use Rattle.chip_lang.specs.Reserved.{is_reserved}
use Rattle.chip_lang.specs.computed.Parse.{one_byte, whole}

-- the expression that a number, a name or a text of one byte forms
abbrev pub atom_of : Lexeme → Option Tree
atom_of (Word w) = if is_reserved w then None else Some (name w)
atom_of (Number z) = Some (number z)
atom_of (Text bytes) = whole (one_byte bytes [])
atom_of (Sign c) = None
atom_of (Bad f) = None
