-- The source text that is built from an image: each word becomes the instruction that it encodes, or data if there is
-- none (chosen by this project).
use Rattle.std.specs.Prelude.{ℕ, ◌+◌, ◌*◌, ◌&&◌, Bool, false, nat_le, List, [], ◌∷◌, ◌++◌, codes, length, if◌then◌else◌, None, Result, Ok, Err}
use Rattle.std.specs.List.{list_all, flat_map}
use Rattle.std.specs.Str.{bytes_eq}
use Rattle.chip_asm.specs.declared.limits.TheConstants.{LINE_BYTES}
use Rattle.chip_lang.specs.declared.fault.Fault.{Fault}
use Rattle.chip_lang.specs.declared.code.Coded.{Coded}
use Rattle.chip_lang.specs.declared.code.Coded.TheVariants.{Bytes, Faulty}
use Rattle.chip_lang.specs.Code.{own_bytes, word_bytes}
use Rattle.chip_lang.specs.Value.{no_names}
use Rattle.chip_lang.specs.Line.{code, Reading, read, reading_of}
use Rattle.chip_lang.specs.Show.{show_of, four_hex_digits, two_hex_digits}

-- whether a byte is a printable ASCII character
abbrev pub is_visible : ℕ → Bool
is_visible b = nat_le 32 b && nat_le b 126

-- whether a line isn't too long and consists of printable ASCII characters only
abbrev pub is_plain : List ℕ → Bool
is_plain text = nat_le (length text) LINE_BYTES && list_all is_visible text

-- whether a code is the two bytes of a word
abbrev pub is_word : ℕ → Result (List ℕ) Fault → Bool
is_word w (Ok bytes) = bytes_eq bytes (word_bytes w)
is_word w (Err fault) = false

-- the bytes of a code or its fault, as a result
abbrev pub result_of : Coded → Result (List ℕ) Fault
result_of (Bytes bytes) = Ok bytes
result_of (Faulty fault) = Err fault

-- whether a line contains an instruction and no label, and the instruction's code is the given word
abbrev pub gives_word : ℕ → Reading → Bool
gives_word w (read None (code form operands)) = is_word w (own_bytes (code form operands) no_names)
gives_word w reading = false

-- the line for a word: the text of its instruction if that is a plain line whose code is the word, and otherwise data
unfoldable pub word_text : ℕ → List ℕ
word_text w =
    if is_plain (show_of w) && gives_word w (reading_of (show_of w)) then show_of w
    else codes "DW #" ++ four_hex_digits w

-- the lines for an image: one line for each word, and an odd last byte as data without padding
abbrev pub lines_of_image : List ℕ → List (List ℕ)
lines_of_image [] = []
lines_of_image (b ∷ []) = codes "ALIGN OFF" ∷ (codes "DB #" ++ two_hex_digits b) ∷ []
lines_of_image (high ∷ low ∷ rest) = word_text (256 * high + low) ∷ lines_of_image rest

-- a line and a newline
abbrev pub line_text : List ℕ → List ℕ
line_text line = line ++ 10 ∷ []

-- lines with a newline after each
abbrev pub text_of_lines : List (List ℕ) → List ℕ
text_of_lines lines = flat_map line_text lines

-- the source text that is built from an image
abbrev pub source_of_image : List ℕ → List ℕ
source_of_image image = text_of_lines (lines_of_image image)
