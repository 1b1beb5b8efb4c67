-- A line as contracts see it, without the places of its parts in memory (chosen by this project).
use Rattle.std.specs.Prelude.{map, Option, option_map}
use Rattle.chip_lang.specs.declared.line.Body.{Body as Line_body}
use Rattle.chip_lang.specs.declared.line.Body.TheVariants.{Empty, Equ, Org, Ds, Db, Dw, Da, Code, Define, Ifdef, Ifund, Else, Endif, End, Align, Options, Used, Xref}
use Rattle.chip_lang.specs.declared.line.Line.{Line}
use Rattle.chip_lang.specs.declared.line.Line.TheVariants.{Bad, Read}
use Rattle.chip_lang.specs.Tree.{tree_of}
use Rattle.chip_lang.specs.Operand.{operand_of}
use Rattle.chip_lang.specs.Form.{row_of_form}
use Rattle.chip_lang.specs.Line.{Body, empty, equ, org, ds, db, dw, da, code, define, ifdef, ifund, else_line, endif, end_line, align, options, used, xref, Reading, bad, read}

-- the statement that a value of the program represents
abbrev pub seen_body : Line_body → Body
seen_body Empty = empty
seen_body (Equ e) = equ (tree_of e)
seen_body (Org e) = org (tree_of e)
seen_body (Ds e) = ds (tree_of e)
seen_body (Db es) = db (map tree_of es.items)
seen_body (Dw es) = dw (map tree_of es.items)
seen_body (Da bytes) = da bytes
seen_body (Code form operands) = code (row_of_form form.now) (map operand_of operands.items)
seen_body Define = define
seen_body (Ifdef name) = ifdef name
seen_body (Ifund name) = ifund name
seen_body Else = else_line
seen_body Endif = endif
seen_body End = end_line
seen_body (Align on) = align on
seen_body Options = options
seen_body Used = used
seen_body Xref = xref

-- the reading that a value of the program represents
abbrev pub seen_line : Line → Reading
seen_line (Bad fault) = bad fault
seen_line (Read label body) = read label (seen_body body)

-- the statement that an optional value of the program represents, if there is one
abbrev pub seen_statement : Option Line_body → Option Body
seen_statement body = option_map seen_body body
