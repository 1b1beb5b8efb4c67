-- The listing of a source: a row for each line, with its number, its address, its bytes, value or
-- fault, and its text (chosen by this project).
use Rattle.std.specs.Prelude.{ℕ, ◌-◌, ℤ, Bool, ◌&&◌, List, ◌∷◌, [], ◌++◌, length, map, min, replicate, Option, Some, None, is_none, if◌then◌else◌, nat_lt, codes, option_map, slice_index}
use Rattle.std.specs.List.{flat_map, range_with_len}
use Rattle.std.specs.Fmt.{decimal, signed_decimal}
use Rattle.chip_lang.specs.declared.fault.Fault.{Fault}
use Rattle.chip_lang.specs.FaultNumber.{number_of_fault}
use Rattle.chip_lang.specs.Show.{two_hex_digits, four_hex_digits}
use Rattle.chip_asm.specs.LineViews.{LineFacts, definition_of, line_facts}

-- a text right-aligned in this many columns, and a text left-aligned in this many columns
abbrev pub at_right : ℕ → List ℕ → List ℕ
at_right places text = replicate (places - length text) 32 ++ text

abbrev pub at_left : ℕ → List ℕ → List ℕ
at_left places text = text ++ replicate (places - length text) 32

-- the address of a line; four dashes for a line that isn't active
abbrev pub address_shown : Bool → ℕ → List ℕ
address_shown active address = if active then four_hex_digits address else codes "----"

-- the first `count` bytes in hexadecimal, with zeros past the last byte
abbrev pub bytes_shown : ℕ → List ℕ → List ℕ
bytes_shown count bytes = flat_map two_hex_digits (map (slice_index bytes) (range_with_len 0 count))

-- the field of a line: its fault, the text of a value, or its first six bytes
abbrev pub field_shown : Option Fault → (value : Option (List ℕ)) → (bytes : List ℕ) → List ℕ
field_shown (Some fault) value bytes = codes "F" ++ decimal (number_of_fault fault)
field_shown None (Some text) bytes = codes "=" ++ text
field_shown None None bytes = bytes_shown (min 6 (length bytes)) bytes

-- `+` if a line without a fault has more than six bytes, or else a space
abbrev pub more_shown : Option Fault → (size : ℕ) → ℕ
more_shown fault size = if is_none fault && nat_lt 6 size then 43 else 32

-- the listing's row for a line, in which the text of a value, if there is one, replaces the line's
-- bytes
unfoldable pub row : (value : Option (List ℕ)) → LineFacts → List ℕ
row value f =
    at_right 4 (decimal f.number) ++ 32 ∷ address_shown f.active f.address
    ++ 32 ∷ at_left 12 (field_shown f.fault value f.bytes)
    ++ more_shown f.fault (length f.bytes) ∷ 32 ∷ f.text ++ 10 ∷ []

-- the listing's row for a line, in which `write` returns the text of a definition's value
abbrev pub row_by : (write : ℤ → List ℕ) → LineFacts → List ℕ
row_by write f = row (option_map write (definition_of f)) f

-- the listing of the texts of a source
unfoldable pub listing_of : List (List ℕ) → List ℕ
listing_of texts = flat_map (row_by signed_decimal) (line_facts texts)
