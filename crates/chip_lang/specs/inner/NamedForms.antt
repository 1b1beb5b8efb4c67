-- The forms of one name (chosen by this project).
use Rattle.std.specs.Prelude.{ℕ, if◌then◌else◌, List, [], ◌∷◌, Option, Some, None}
use Rattle.std.specs.Str.{bytes_eq}
use Rattle.chip_lang.specs.declared.lexeme.Lexeme.{Lexeme}
use Rattle.chip_lang.specs.declared.lexeme.Lexeme.TheVariants.{Word}
use Rattle.chip_lang.specs.Table.{Row, forms}
use Rattle.chip_lang.specs.Operand.{Operand}
use Rattle.chip_lang.specs.Form.{all_match}

-- the forms of a table that have a name
abbrev pub named_forms : List ℕ → List Row → List Row
named_forms name [] = []
named_forms name (r ∷ rs) = if bytes_eq r.name name then r ∷ named_forms name rs else named_forms name rs

-- all forms of a name
unfoldable pub forms_of : List ℕ → List Row
forms_of name = named_forms name forms

-- the forms of the name at the front of a statement
abbrev pub front_forms : List Lexeme → List Row
front_forms (Word name ∷ rest) = forms_of name
front_forms statement = []

-- the first form that the operands fit
abbrev pub first_fit : List Row → List Operand → Option Row
first_fit [] os = None
first_fit (r ∷ rs) os = if all_match r.patterns os then Some r else first_fit rs os
