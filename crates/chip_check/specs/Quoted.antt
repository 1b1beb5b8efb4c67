-- How the line of a finding is quoted: bytes that a terminal may misread are escaped (chosen by
-- this project; UTF-8 as in the Unicode Standard).
--     ShownByte     a byte as it is displayed: the byte itself, or an escape
--     shown_bytes   the bytes of a line as they are displayed
--     quoted_line   the line as it is printed
use Rattle.std.specs.Prelude.{ℕ, zero, suc, ◌-◌, ◌==◌, ◌&&◌, ◌||◌, Bool, true, not, nat_lt, List, [], ◌∷◌, ◌++◌, codes, if◌then◌else◌}
use Rattle.std.specs.List.{flat_map}
use Rattle.std.specs.Str.Lossy.{utf8_valid_len}
use Rattle.chip_lang.specs.Show.{two_hex_digits}
use Rattle.chip_check.specs.declared.quoted.ShownByte.{ShownByte}
use Rattle.chip_check.specs.declared.quoted.ShownByte.TheVariants.{Plain, Escaped}

-- whether a byte is a control byte: below 32 except the tab, or 127
abbrev pub is_control : ℕ → Bool
is_control b = (nat_lt b 32 && not (b == 9)) || (b == 127)

-- a byte of text is displayed unchanged unless it is a control byte; a byte that is not part of text is escaped
abbrev pub shown_byte : (is_text : Bool) → ℕ → ShownByte
shown_byte is_text b = if is_text && not (is_control b) then Plain b else Escaped b

-- The bytes as they are displayed, if the first `text` of them are text. In the bytes after those, the
-- longest prefix that is valid UTF-8 is text; if there is no such prefix, the next byte is not text.
abbrev pub shown_after : (text : ℕ) → List ℕ → List ShownByte
shown_after text [] = []
shown_after zero (b ∷ bs) =
    shown_byte (nat_lt 0 (utf8_valid_len (b ∷ bs))) b
    ∷ shown_after (utf8_valid_len (b ∷ bs) - 1) bs
shown_after (suc text) (b ∷ bs) = shown_byte true b ∷ shown_after text bs

unfoldable pub shown_bytes : List ℕ → List ShownByte
shown_bytes line = shown_after 0 line

-- the text of a displayed byte; an escape is `\x` and two hexadecimal digits in lowercase
abbrev pub byte_text : ShownByte → List ℕ
byte_text (Plain b) = b ∷ []
byte_text (Escaped b) = codes "\\x" ++ two_hex_digits b

abbrev pub quoted_line : List ℕ → List ℕ
quoted_line line = flat_map byte_text (shown_bytes line)
