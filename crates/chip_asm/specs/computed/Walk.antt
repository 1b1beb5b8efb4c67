-- The facts about each line, found line by line (chosen by this project). The lines before a line
-- are listed from the nearest one back. Laws state that these facts satisfy the relation in Places,
-- and that no other facts do.
use Rattle.std.specs.Prelude.{ℕ, ◌+◌, ℤ, unsigned_abs, Bool, true, false, not, ◌&&◌, List, [], ◌∷◌, reverse, map, length, Option, Some, None, is_none, Result, Ok, Err, if◌then◌else◌, nat_le, fold, sum_by, count_by, filter, find, take_while, filter_map, option_map}
use Rattle.std.specs.List.{list_all}
use Rattle.std.specs.Option.{option_map_or}
use Rattle.chip_lang.specs.declared.limits.TheConstants.{IMAGE_START}
use Rattle.chip_lang.specs.declared.fault.Fault.{Fault}
use Rattle.chip_lang.specs.declared.fault.Fault.TheVariants.{DefinedTwice, OutOfRange, OrgBelowHere, PastMemory, StrayBranch}
use Rattle.chip_lang.specs.Line.{Body, else_line, endif, Reading, bad, read}
use Rattle.chip_asm.specs.Layout.{Placed, body_of, is_if, is_endif, first_of, has_else, holds, has_ended, is_side_or_end, is_origin, is_align, is_align_off_body, condition_of, value_at, value_or_zero, full_size, is_negative_space, is_backwards, is_past_end, symbol_of}
use Rattle.chip_symbols.specs.declared.table.Symbol.{Symbol}
use Rattle.chip_symbols.specs.Names.{Name, is_redefinition}

-- the names that the lines so far define, in line order
unfoldable pub symbols : List Placed → List (Name × Symbol)
symbols before = filter_map symbol_of (reverse before)

-- the earlier lines, each with the lines between it and the next line
abbrev pub with_between : List Placed → List (List Placed × Placed)
with_between [] = []
with_between (p ∷ before) = ([], p) ∷ map (λ s. (p ∷ s.0, s.1)) (with_between before)

-- true if no run of these lines, from the first one on, has more ENDIF lines than IF lines
abbrev pub closes_no_more : List Placed → Bool
closes_no_more [] = true
closes_no_more (p ∷ earlier) =
    nat_le (count_by is_endif (p ∷ earlier)) (count_by is_if (p ∷ earlier))
    && closes_no_more earlier

-- true for an IF line that encloses the next line: no run of lines after it closes more blocks than
-- it opens
abbrev pub encloses : List Placed × Placed → Bool
encloses s = is_if s.1 && closes_no_more s.0

-- the IF lines that enclose the next line, the last one first
unfoldable pub enclosing : List Placed → List Placed
enclosing before = map (λ s. s.1) (filter encloses (with_between before))

unfoldable pub is_active : List Placed → Body → Bool
is_active before body =
    not (has_ended before)
    && (if is_side_or_end body
    then option_map_or (λ opener. opener.active) (first_of (enclosing before)) true
    else list_all (holds before) (enclosing before))

-- the value of the last ORG that takes effect, or else the start of the image, plus the sizes of
-- the lines since
unfoldable pub address : List Placed → ℕ
address before =
    option_map_or (λ p. unsigned_abs p.value) (find is_origin before) IMAGE_START
    + sum_by (λ p. p.size) (take_while (λ p. not (is_origin p)) before)

-- true if the last ALIGN that takes effect is not OFF
unfoldable pub is_aligning : List Placed → Bool
is_aligning before =
    option_map_or (λ p. not (is_align_off_body (body_of p.line))) (find is_align before) true

-- true for an ELSE or ENDIF that no IF encloses, and for an ELSE after another ELSE of its IF
abbrev pub is_misplaced : List Placed → Body → Bool
is_misplaced before else_line = option_map_or (has_else before) (first_of (enclosing before)) true
is_misplaced before endif = is_none (first_of (enclosing before))
is_misplaced before _ = false

unfoldable pub fault_of_value : Bool → ℕ → Body → Result ℤ Fault → Option Fault
fault_of_value aligning here body (Err fault) = Some fault
fault_of_value aligning here body (Ok value) =
    if is_negative_space body value then Some OutOfRange
    else (if is_backwards here body value then Some OrgBelowHere
    else (if is_past_end aligning here body value then Some PastMemory else None))

-- the first fault of an active line, except the fault of an IF without ENDIF
unfoldable pub first_fault : List Placed → Reading → Option Fault
first_fault before (bad fault) = Some fault
first_fault before (read label body) =
    if is_misplaced before body then Some StrayBranch
    else (if is_redefinition (symbols before) label then Some DefinedTwice
    else fault_of_value (is_aligning before) (address before) body (value_at (symbols before) body))

-- the facts about a line that follows these lines
unfoldable pub place : List Placed → Reading → Placed
place before line =
    let body = body_of line in
    let active = is_active before body in
    let number_value = value_or_zero (value_at (symbols before) body) in
    let fault = if active then first_fault before line else None in
    record {
      number = length before + 1;
      line = line;
      block = option_map (λ opener. opener.number) (first_of (enclosing before));
      condition = condition_of (symbols before) body;
      active = active;
      here = address before;
      value = number_value;
      fault = fault;
      size =
          if active && is_none fault
          then full_size (is_aligning before) (address before) body number_value
          else 0;
    }

-- the facts about each line, the last line first
unfoldable pub placed : List Reading → List Placed
placed lines = fold (λ before line. place before line ∷ before) [] lines
