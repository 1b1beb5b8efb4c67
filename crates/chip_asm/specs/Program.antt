-- The names, the faults and the image of a whole source (Chipper manual; where the manual is
-- silent, chosen by this project).
use Rattle.std.specs.Prelude.{◌≡◌, ◌<◌, ◌≤◌, ◌⊎◌, ℕ, ◌+◌, ◌-◌, Bool, not, ◌&&◌, List, [], ◌∷◌, reverse, map, Option, Some, None, is_some, Result, if◌then◌else◌, nat_eq, nat_lt, nat_le, find, filter_map, option_map, option_and_then, slice_get, slice_index}
use Rattle.std.specs.List.{list_any, range_with_len}
use Rattle.std.specs.Option.{option_map_or}
use Rattle.chip_lang.specs.declared.limits.TheConstants.{IMAGE_START}
use Rattle.chip_lang.specs.declared.fault.Fault.{Fault}
use Rattle.chip_lang.specs.declared.fault.Fault.TheVariants.{UnclosedIf}
use Rattle.chip_lang.specs.Line.{Reading, reading_of}
use Rattle.chip_symbols.specs.declared.table.Symbol.{Symbol}
use Rattle.chip_symbols.specs.Names.{Name}
use Rattle.chip_asm.specs.Layout.{Placed, is_if, has_ended}
use Rattle.chip_asm.specs.computed.Walk.{placed, symbols, enclosing, address}
pub use Rattle.chip_asm.specs.Places.{bytes_in_code, code_with, fault_in_code}

-- the names that these lines define, each with its symbol
abbrev pub names_of_lines : List Reading → List (Name × Symbol)
names_of_lines lines = symbols (placed lines)

-- true for an active IF that would enclose one more line, in a source without an active END
abbrev pub is_unclosed : List Placed → Placed → Bool
is_unclosed all p =
    is_if p && p.active && not (has_ended all)
    && list_any (λ opener. nat_eq opener.number p.number) (enclosing all)

-- the fault of a line in the first pass
abbrev pub first_pass_fault : List Placed → Placed → Option Fault
first_pass_fault all p = if is_unclosed all p then Some UnclosedIf else p.fault

-- the line's own bytes under all names, or its fault of the second pass
abbrev pub code_under : List Placed → Placed → Result (List ℕ) Fault
code_under all p = code_with (symbols all) p.line

-- the fault of a line of the source; a line that isn't active has none
abbrev pub fault_of : List Placed → Placed → Option Fault
fault_of all p =
    if p.active
    then (if is_some (first_pass_fault all p) then first_pass_fault all p
    else fault_in_code (code_under all p))
    else None

abbrev pub fault_of_line : List Reading → ℕ → Option Fault
fault_of_line lines number =
    if nat_eq number 0 then None
    else option_and_then (fault_of (placed lines)) (slice_get (reverse (placed lines)) (number - 1))

-- the number of a line, with its fault, if it has one
abbrev pub numbered_fault : List Placed → Placed → Option (ℕ × Fault)
numbered_fault all p = option_map (λ fault. (p.number, fault)) (fault_of all p)

abbrev pub faults_of_lines : List Reading → List (ℕ × Fault)
faults_of_lines lines = filter_map (numbered_fault (placed lines)) (reverse (placed lines))

-- true if the line covers the address
abbrev pub covers : ℕ → Placed → Bool
covers at p = nat_le p.here at && nat_lt at (p.here + p.size)

-- the byte at an address, taken from the line that covers the address; 0 past that line's own
-- bytes, and if no line covers the address
unfoldable pub byte_at : List Placed → ℕ → ℕ
byte_at all at =
    option_map_or (λ p. slice_index (bytes_in_code (code_under all p)) (at - p.here))
    (find (covers at) all) 0

-- the bytes from the start of the image up to the address after the last line
abbrev pub bytes_of_lines : List Placed → List ℕ
bytes_of_lines all = map (byte_at all) (range_with_len IMAGE_START (address all - IMAGE_START))

abbrev pub unless_faulty : List (ℕ × Fault) → List ℕ → Option (List ℕ)
unless_faulty [] bytes = Some bytes
unless_faulty (fault ∷ faults) bytes = None

abbrev pub image_of_lines : List Reading → Option (List ℕ)
image_of_lines lines = unless_faulty (faults_of_lines lines) (bytes_of_lines (placed lines))

-- Functions of the texts of a source:

-- the names that the source defines, in line order, each with its value and the number of its line
unfoldable pub symbols_of : List (List ℕ) → List (Name × Symbol)
symbols_of texts = names_of_lines (map reading_of texts)

-- all faults, in line order
unfoldable pub faults_of : List (List ℕ) → List (ℕ × Fault)
faults_of texts = faults_of_lines (map reading_of texts)

-- the fault of the line with a number, if it has one
unfoldable pub fault_at : List (List ℕ) → ℕ → Option Fault
fault_at texts number = fault_of_line (map reading_of texts) number

-- the image, if no line has a fault
unfoldable pub image_of : List (List ℕ) → Option (List ℕ)
image_of texts = image_of_lines (map reading_of texts)

-- there was an image before, and the image after, if there is one, agrees with it except at the
-- places from `first` up to `end`; an image counts as zero past its last byte
abbrev pub AgreesOutside : (first end : ℕ) → (before after : Option (List ℕ)) → Type 0
AgreesOutside first end None after = ⊥
AgreesOutside first end (Some old) None = Unit
AgreesOutside first end (Some old) (Some new) =
    (k : ℕ) → (k < first) ⊎ (end ≤ k) → slice_index old k ≡ slice_index new k
