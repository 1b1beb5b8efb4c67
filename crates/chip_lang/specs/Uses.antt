-- The names that a line uses, and the name that it defines (chosen by this project).
use Rattle.std.specs.Prelude.{ℕ, ℤ, Bool, List, [], ◌∷◌, ◌++◌, Option, None}
use Rattle.std.specs.List.{list_all, flat_map}
use Rattle.std.specs.Option.{option_eq}
use Rattle.std.specs.Result.{result_ok}
use Rattle.std.specs.Ordering.{int_eq}
use Rattle.chip_lang.specs.Tree.{Tree, number, name, unary, binary}
use Rattle.chip_lang.specs.Operand.{Operand, register, special, expression}
use Rattle.chip_lang.specs.Value.{Symbols, no_names, value, value_of_name}
use Rattle.chip_lang.specs.Line.{Body, equ, org, ds, db, dw, code, Reading, bad, read}

-- the names in an expression, left to right; a name that occurs twice is listed twice
abbrev pub names_in : Tree → List (List ℕ)
names_in (number z) = []
names_in (name n) = n ∷ []
names_in (unary sign e) = names_in e
names_in (binary sign a b) = names_in a ++ names_in b

abbrev pub names_in_operand : Operand → List (List ℕ)
names_in_operand (register x) = []
names_in_operand (special w) = []
names_in_operand (expression e) = names_in e

abbrev pub names_in_body : Body → List (List ℕ)
names_in_body (equ e) = names_in e
names_in_body (org e) = names_in e
names_in_body (ds e) = names_in e
names_in_body (db es) = flat_map names_in es
names_in_body (dw es) = flat_map names_in es
names_in_body (code form operands) = flat_map names_in_operand operands
names_in_body body = []

-- the names in the expressions of a line; none for a line with a reading fault
abbrev pub names_used : Reading → List (List ℕ)
names_used (bad fault) = []
names_used (read label body) = names_in_body body

-- a value if there are no names, or else none
abbrev pub if_nameless : List (List ℕ) → Option ℤ → Option ℤ
if_nameless [] value = value
if_nameless (n ∷ names) value = None

-- the value of an expression, whatever the names mean; none if it contains a name or has a fault
unfoldable pub constant : Tree → Option ℤ
constant e = if_nameless (names_in e) (result_ok (value e no_names))

-- the name that a label, EQU, = or DEFINE defines
abbrev pub name_defined : Reading → Option (List ℕ)
name_defined (bad fault) = None
name_defined (read label body) = label

-- true if a name has the same value in both tables, or no value in either
abbrev pub has_same_value : Symbols → Symbols → List ℕ → Bool
has_same_value old new n = option_eq int_eq (value_of_name old n) (value_of_name new n)

-- true if each name that a line uses has the same value in both tables, or no value in either
abbrev pub agree_on : Symbols → Symbols → Reading → Bool
agree_on old new line = list_all (has_same_value old new) (names_used line)
