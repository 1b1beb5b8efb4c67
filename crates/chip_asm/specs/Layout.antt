-- Terms for the facts about a line of a source: its statement, the name that it defines, the bytes
-- that it takes, and its possible faults (Chipper manual; where the manual is silent, chosen by
-- this project). The file Places states which facts hold for which line.
use Rattle.std.specs.Prelude.{ℕ, ◌+◌, ◌*◌, ◌%◌, ℤ, pos, unsigned_abs, int_lt, Bool, true, false, not, ◌&&◌, ◌||◌, List, [], ◌∷◌, length, Option, Some, None, is_some, is_none, Result, Ok, Err, if◌then◌else◌, nat_eq, nat_lt, ◌==◌, option_map}
use Rattle.std.specs.List.{list_any}
use Rattle.chip_lang.specs.declared.limits.TheConstants.{MEMORY_BYTES}
use Rattle.chip_lang.specs.declared.fault.Fault.{Fault}
use Rattle.chip_lang.specs.Line.{Body, empty, equ, org, ds, db, dw, da, code, define, ifdef, ifund, else_line, endif, end_line, align, Reading, bad, read}
use Rattle.chip_lang.specs.Value.{value}
use Rattle.chip_lang.specs.Uses.{name_defined}
use Rattle.chip_symbols.specs.declared.table.Symbol.{Symbol}
use Rattle.chip_symbols.specs.Names.{Name, lookup_name, values_of}

-- the facts about a line in its source
pub record Placed : Type 0 where
  pub number : ℕ
  pub line : Reading
  -- the number of the last IF line that encloses the line
  pub block : Option ℕ
  -- for an IF line, whether its condition holds
  pub condition : Bool
  pub active : Bool
  pub here : ℕ
  -- the value of its expression, if it is an EQU, ORG or DS line
  pub value : ℤ
  pub fault : Option Fault
  pub size : ℕ

-- kinds of lines

-- the statement of a line; a line with a reading fault defines and encodes nothing
abbrev pub body_of : Reading → Body
body_of (bad fault) = empty
body_of (read label body) = body

abbrev pub is_if_body : Body → Bool
is_if_body (ifdef n) = true
is_if_body (ifund n) = true
is_if_body _ = false

abbrev pub is_else_body : Body → Bool
is_else_body else_line = true
is_else_body _ = false

abbrev pub is_endif_body : Body → Bool
is_endif_body endif = true
is_endif_body _ = false

abbrev pub is_end_body : Body → Bool
is_end_body end_line = true
is_end_body _ = false

abbrev pub is_org_body : Body → Bool
is_org_body (org e) = true
is_org_body _ = false

abbrev pub is_if : Placed → Bool
is_if p = is_if_body (body_of p.line)

abbrev pub is_else : Placed → Bool
is_else p = is_else_body (body_of p.line)

abbrev pub is_endif : Placed → Bool
is_endif p = is_endif_body (body_of p.line)

-- true for an active line without a fault: it defines its name, moves the address and switches the
-- alignment; an IF without ENDIF, whose fault is found at the end, does none of this
abbrev pub takes_effect : Placed → Bool
takes_effect p = p.active && is_none p.fault

-- names

abbrev pub value_given : ℕ → ℤ → Body → ℤ
value_given here value (equ e) = value
value_given here value define = pos 0
value_given here value _ = pos here

-- the name that a line defines, with its value and the number of the line
abbrev pub symbol_given : ℕ → ℕ → ℤ → Reading → Option (Name × Symbol)
symbol_given number here value line =
    option_map
    (λ name. (name, record { value = value_given here value (body_of line); line = number }))
    (name_defined line)

abbrev pub symbol_of : Placed → Option (Name × Symbol)
symbol_of p = if takes_effect p then symbol_given p.number p.here p.value p.line else None

-- blocks

abbrev pub first_of : {X : Type 0} → List X → Option X
first_of [] = None
first_of (x ∷ xs) = Some x

abbrev pub is_number : ℕ → Option ℕ → Bool
is_number n None = false
is_number n (Some m) = m == n

-- true if an ELSE that belongs to the IF is among these lines
unfoldable pub has_else : List Placed → Placed → Bool
has_else before opener = list_any (λ p. is_else p && is_number opener.number p.block) before

-- true if the condition of the IF holds on the current side
abbrev pub holds : List Placed → Placed → Bool
holds before opener = if has_else before opener then not opener.condition else opener.condition

-- the next line, given the lines before it

abbrev pub condition_of : List (Name × Symbol) → Body → Bool
condition_of names (ifdef n) = is_some (lookup_name names n)
condition_of names (ifund n) = is_none (lookup_name names n)
condition_of names _ = false

unfoldable pub has_ended : List Placed → Bool
has_ended before = list_any (λ p. p.active && is_end_body (body_of p.line)) before

abbrev pub is_side_or_end : Body → Bool
is_side_or_end body = is_else_body body || is_endif_body body

abbrev pub is_origin : Placed → Bool
is_origin p = takes_effect p && is_org_body (body_of p.line)

abbrev pub is_align_body : Body → Bool
is_align_body (align on) = true
is_align_body _ = false

abbrev pub is_align : Placed → Bool
is_align p = takes_effect p && is_align_body (body_of p.line)

abbrev pub is_align_off_body : Body → Bool
is_align_off_body (align on) = not on
is_align_off_body _ = false

-- the value of the expression of an EQU, ORG or DS line; 0 for any other line
unfoldable pub value_at : List (Name × Symbol) → Body → Result ℤ Fault
value_at names (equ e) = value e (values_of names)
value_at names (org e) = value e (values_of names)
value_at names (ds e) = value e (values_of names)
value_at names _ = Ok (pos 0)

-- the number of the line's own bytes, without padding
abbrev pub own_size : Body → ℤ → ℕ
own_size (code form operands) value = 2
own_size (db es) value = length es
own_size (dw es) value = 2 * length es
own_size (da bytes) value = length bytes
own_size (ds e) value = unsigned_abs value
own_size _ value = 0

abbrev pub is_padded : Body → Bool
is_padded (db es) = true
is_padded (da bytes) = true
is_padded (ds e) = true
is_padded _ = false

-- the number of padding bytes: one zero byte if data would end at an odd address, or else none
abbrev pub padding : Bool → ℕ → Body → ℤ → ℕ
padding aligning here body value =
    if aligning && is_padded body && nat_eq ((here + own_size body value) % 2) 1 then 1 else 0

abbrev pub full_size : Bool → ℕ → Body → ℤ → ℕ
full_size aligning here body value = own_size body value + padding aligning here body value

-- possible faults of a name or a value

abbrev pub is_negative_space : Body → ℤ → Bool
is_negative_space (ds e) value = int_lt value (pos 0)
is_negative_space _ value = false

abbrev pub is_backwards : ℕ → Body → ℤ → Bool
is_backwards here (org e) value = int_lt value (pos here)
is_backwards here _ value = false

abbrev pub is_past_end : Bool → ℕ → Body → ℤ → Bool
is_past_end aligning here (org e) value = int_lt (pos MEMORY_BYTES) value
is_past_end aligning here body value =
    nat_lt MEMORY_BYTES (here + full_size aligning here body value)

abbrev pub value_or_zero : Result ℤ Fault → ℤ
value_or_zero (Ok value) = value
value_or_zero (Err fault) = pos 0
