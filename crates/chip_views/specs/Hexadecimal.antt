-- The names of a source, and its listing, with values in hexadecimal (chosen by this project).
--     hex_value     a value, as it is written in a source
--     hex_symbols   a line for each name
--     hex_listing   the listing
use Rattle.std.specs.Prelude.{ℕ, ◌/◌, ◌%◌, ℤ, unsigned_abs, nat_lt, List, [], ◌++◌, codes, if◌then◌else◌}
use Rattle.std.specs.Fmt.{decimal}
use Rattle.std.specs.Int.{is_negative}
use Rattle.std.specs.List.{flat_map}
use Rattle.chip_lang.specs.Show.{four_hex_digits}
use Rattle.chip_asm.specs.LineViews.{line_facts}
use Rattle.chip_asm.specs.Listing.{row_by}
use Rattle.chip_symbols.specs.declared.table.Symbol.{Symbol}

-- a 32-bit number: `#` and four hexadecimal digits, or eight digits if four aren't enough
abbrev pub hex_number : ℕ → List ℕ
hex_number n =
    codes "#"
    ++ (if nat_lt n 65536 then four_hex_digits n else four_hex_digits (n / 65536) ++ four_hex_digits (n % 65536))

-- a value in hexadecimal; a negative value is written as its magnitude after a minus sign
unfoldable pub hex_value : ℤ → List ℕ
hex_value value = (if is_negative value then codes "-" else []) ++ hex_number (unsigned_abs value)

-- the line for a name: the name, its value and the number of its line
abbrev pub hex_symbol_line : List ℕ × Symbol → List ℕ
hex_symbol_line named =
    named.0 ++ codes " " ++ hex_value named.1.value ++ codes " " ++ decimal named.1.line ++ codes "\n"

abbrev pub hex_symbols : List (List ℕ × Symbol) → List ℕ
hex_symbols symbols = flat_map hex_symbol_line symbols

-- the listing of a source, given the texts of its lines
unfoldable pub hex_listing : (lines : List (List ℕ)) → List ℕ
hex_listing lines = flat_map (row_by hex_value) (line_facts lines)
