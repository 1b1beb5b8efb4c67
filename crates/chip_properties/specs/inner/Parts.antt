-- The tokens of a part (chosen by this project).
use Rattle.std.specs.Prelude.{List}
use Rattle.chip_lang.specs.declared.lexeme.Lexeme.{Lexeme}
use Rattle.chip_properties.specs.declared.part.Part.{Part}

abbrev pub tokens_in : Part → List Lexeme
tokens_in part = part.tokens.now
