-- The facts that a source reports about each of its lines (Chipper manual; where the manual is
-- silent, chosen by this project).
use Rattle.std.specs.Prelude.{ℕ, ◌-◌, ℤ, pos, Bool, ◌&&◌, List, map, reverse, zip, Option, Some, None, is_none, if◌then◌else◌, nat_eq, slice_get, slice_index}
use Rattle.std.specs.List.{range_with_len}
use Rattle.chip_lang.specs.declared.fault.Fault.{Fault}
use Rattle.chip_lang.specs.Line.{Body, equ, define, reading_of}
use Rattle.chip_asm.specs.Layout.{Placed, body_of}
use Rattle.chip_asm.specs.Program.{bytes_in_code, code_under, fault_of}
use Rattle.chip_asm.specs.computed.Walk.{placed}

-- the facts about a line
pub record LineFacts : Type 0 where
  -- the number of the line, counted from 1
  pub number : ℕ
  pub text : List ℕ
  pub active : Bool
  -- the address of the line, or the address that it would have if it were active
  pub address : ℕ
  -- the value of the line's expression, if it is an EQU, ORG or DS line
  pub value : ℤ
  pub fault : Option Fault
  -- the bytes that the line takes in the image
  pub bytes : List ℕ

-- a line's own bytes, and zeros after them, up to a size
abbrev pub with_zeros : (size : ℕ) → (own : List ℕ) → List ℕ
with_zeros size own = map (slice_index own) (range_with_len 0 size)

-- the facts about a line, given its placement among all lines and its text
abbrev pub facts_of : List Placed → Placed → (text : List ℕ) → LineFacts
facts_of all p text =
    record {
      number = p.number;
      text = text;
      active = p.active;
      address = p.here;
      value = p.value;
      fault = fault_of all p;
      bytes = with_zeros p.size (bytes_in_code (code_under all p));
    }

abbrev pub facts_of_lines : List Placed → (texts : List (List ℕ)) → List LineFacts
facts_of_lines all texts = map (λ e. facts_of all e.0 e.1) (zip (reverse all) texts)

-- the facts about each line, in line order, given the texts of a source
unfoldable pub line_facts : (texts : List (List ℕ)) → List LineFacts
line_facts texts = facts_of_lines (placed (map reading_of texts)) texts

-- the facts about the line with a number, if there is one
abbrev pub line_at : (texts : List (List ℕ)) → (number : ℕ) → Option LineFacts
line_at texts number =
    if nat_eq number 0 then None else slice_get (line_facts texts) (number - 1)

-- the value that a statement assigns to its name by EQU or DEFINE
abbrev pub value_defined : ℤ → Body → Option ℤ
value_defined value (equ e) = Some value
value_defined value define = Some (pos 0)
value_defined value _ = None

-- the value that an active line without a fault assigns to a name by EQU or DEFINE; none for any
-- other line
abbrev pub definition_of : LineFacts → Option ℤ
definition_of f =
    if f.active && is_none f.fault
    then value_defined f.value (body_of (reading_of f.text))
    else None
