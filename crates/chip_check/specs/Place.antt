-- The place of a fault in a source: for F9 the name without a value, for F10 the operand whose value is
-- out of range, and for other faults the place that depends on the line alone (chosen by this project).
use Rattle.std.specs.Prelude.{ℕ, zero, suc, ◌+◌, ◌-◌, ◌==◌, ◌&&◌, not, Bool, true, false, if◌then◌else◌, nat_le, List, [], ◌∷◌, map, length, Option, Some, None, Result, Err}
use Rattle.chip_lang.specs.declared.fault.Fault.{Fault}
use Rattle.chip_lang.specs.declared.fault.Fault.TheVariants.{UndefinedName, OutOfRange}
use Rattle.chip_lang.specs.declared.fault_place.Span.{Span}
use Rattle.chip_lang.specs.declared.form.Pattern.{Pattern}
use Rattle.chip_lang.specs.declared.token.Kind.{Kind}
use Rattle.chip_lang.specs.declared.token.Kind.TheVariants.{Sign}
use Rattle.chip_lang.specs.declared.token.Token.{Token}
use Rattle.chip_lang.specs.Code.{datum_of}
use Rattle.chip_lang.specs.Encoding.{field_of, number_below}
use Rattle.chip_lang.specs.FaultPlace.{span_of_fault, name_of_token}
use Rattle.chip_lang.specs.Line.{equ, org, ds, db, dw, code, Reading, read, reading_of, upper}
use Rattle.chip_lang.specs.Operand.{Operand}
use Rattle.chip_lang.specs.Tree.{Tree}
use Rattle.chip_lang.specs.Value.{◌>>=◌, Symbols, value}
use Rattle.chip_lang.specs.computed.Tokens.{tokens_of}
use Rattle.chip_symbols.specs.declared.table.Symbol.{Symbol}
use Rattle.chip_symbols.specs.Names.{Name, lookup_name, values_of}
use Rattle.chip_asm.specs.Program.{symbols_of}

-- whether only the names of earlier lines are visible to a line, which is so for EQU, ORG and DS
abbrev pub sees_earlier : Reading → Bool
sees_earlier (read name (equ e)) = true
sees_earlier (read name (org e)) = true
sees_earlier (read name (ds e)) = true
sees_earlier reading = false

-- the number of the last line whose names are visible to a line
abbrev pub last_seen : (number count : ℕ) → Reading → ℕ
last_seen number count reading = if sees_earlier reading then number - 1 else count

abbrev pub is_seen_symbol : (last : ℕ) → Option Symbol → Bool
is_seen_symbol last None = false
is_seen_symbol last (Some s) = nat_le s.line last

-- whether a token is a name that no line up to the line `last` defines
abbrev pub is_unknown_name : List (Name × Symbol) → (last : ℕ) → Option (List ℕ) → Bool
is_unknown_name names last None = false
is_unknown_name names last (Some name) =
    not (is_seen_symbol last (lookup_name names (map upper name)))

-- whether a token is such a name, and begins at or after a place
abbrev pub is_unknown : List (Name × Symbol) → (last : ℕ) → (line : List ℕ) (place : ℕ) → Token
    → Bool
is_unknown names last line place t =
    nat_le place t.start && is_unknown_name names last (name_of_token line t)

-- the span of the first such token
abbrev pub first_unknown : List (Name × Symbol) → (last : ℕ) → (line : List ℕ) (place : ℕ)
    → List Token → Option Span
first_unknown names last line place [] = None
first_unknown names last line place (t ∷ ts) =
    if is_unknown names last line place t then Some (record { start = t.start; end = t.end })
    else first_unknown names last line place ts

abbrev pub or_span : Option Span → Span → Span
or_span None span = span
or_span (Some found) span = found

-- the span of the first name without a value in the operands of the line `number`; `span` if there is none
abbrev pub undefined_place : (lines : List (List ℕ)) (number : ℕ) (line : List ℕ) → Span → Span
undefined_place lines number line span =
    or_span (first_unknown (symbols_of lines)
    (last_seen number (length lines) (reading_of line)) line span.start (tokens_of line)) span

-- ---- values out of range

abbrev pub is_out : Result ℕ Fault → Bool
is_out (Err OutOfRange) = true
is_out outcome = false

-- a value that must be at least 0 and below a limit
abbrev pub number_in : (limit : ℕ) → Tree → Symbols → Result ℕ Fault
number_in limit e symbols = value e symbols >>= number_below limit

-- the number of values of DB or DW before the first one that is out of range
abbrev pub first_data_out : (limit : ℕ) → List Tree → Symbols → ℕ
first_data_out limit [] symbols = 0
first_data_out limit (e ∷ es) symbols =
    if is_out (datum_of limit e symbols) then 0 else first_data_out limit es symbols + 1

-- the number of operands before the first one whose value is out of range
abbrev pub first_out : List Pattern → List Operand → Symbols → ℕ
first_out [] os symbols = 0
first_out (p ∷ ps) [] symbols = 0
first_out (p ∷ ps) (o ∷ os) symbols =
    if is_out (field_of p o symbols) then 0 else first_out ps os symbols + 1

-- the index, from 0, of the first operand of a line whose value is out of range; 0 for DS, which has one operand
abbrev pub out_operand : Reading → Symbols → ℕ
out_operand (read name (db es)) symbols = first_data_out 256 es symbols
out_operand (read name (dw es)) symbols = first_data_out 65536 es symbols
out_operand (read name (code form os)) symbols = first_out form.patterns os symbols
out_operand reading symbols = 0

-- the tokens that begin at or after a place
abbrev pub tokens_after : (place : ℕ) → List Token → List Token
tokens_after place [] = []
tokens_after place (t ∷ ts) = if nat_le place t.start then t ∷ ts else tokens_after place ts

abbrev pub is_comma_kind : Kind → Bool
is_comma_kind (Sign c) = c == 44
is_comma_kind kind = false

abbrev pub is_comma : Token → Bool
is_comma t = is_comma_kind t.kind

-- the end of the last token before the next comma, or `place` if the comma or the end comes first
abbrev pub operand_end : (place : ℕ) → List Token → ℕ
operand_end place [] = place
operand_end place (t ∷ ts) = if is_comma t then place else operand_end t.end ts

-- the span of the operand with this index, up to the next comma; the tokens begin with the first operand
abbrev pub operand_span : (index : ℕ) → List Token → Option Span
operand_span index [] = None
operand_span zero (t ∷ ts) = Some (record { start = t.start; end = operand_end t.end ts })
operand_span (suc index) (t ∷ ts) = operand_span (if is_comma t then index else suc index) ts

-- the span of the first operand whose value is out of range; `span` if there is none
abbrev pub out_of_range_place : Symbols → (line : List ℕ) → Span → Span
out_of_range_place symbols line span =
    or_span (operand_span (out_operand (reading_of line) symbols)
    (tokens_after span.start (tokens_of line))) span

abbrev pub place_in : Fault → (lines : List (List ℕ)) (number : ℕ) (line : List ℕ) → Span
place_in UndefinedName lines number line =
    undefined_place lines number line (span_of_fault UndefinedName line)
place_in OutOfRange lines number line =
    out_of_range_place (values_of (symbols_of lines)) line (span_of_fault OutOfRange line)
place_in fault lines number line = span_of_fault fault line
