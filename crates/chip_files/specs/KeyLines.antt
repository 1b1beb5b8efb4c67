-- The lines of a file of key events. A line `S K down` or `S K up` has the effect of the script command
-- `kins S K down` or `kins S K up`. K may also be a letter A to F (chosen by this project).
use Rattle.std.specs.Prelude.{ℕ, ◌-◌, ◌==◌, ◌&&◌, ◌||◌, Bool, false, List, [], ◌∷◌, ◌++◌, codes, length, map, nat_le, if◌then◌else◌, take, drop}
use Rattle.std.specs.List.{before_first, list_all, position_or_len}
use Rattle.std.specs.Str.Lines.{lines}

abbrev pub is_space : ℕ → Bool
is_space byte = byte == 32

abbrev pub is_semicolon : ℕ → Bool
is_semicolon byte = byte == 59

-- the part of a line before its first semicolon, which begins a comment
abbrev pub said : List ℕ → List ℕ
said line = before_first is_semicolon line

-- a text without the spaces at its start
abbrev pub skip_spaces : List ℕ → List ℕ
skip_spaces [] = []
skip_spaces (byte ∷ text) = if is_space byte then skip_spaces text else byte ∷ text

-- the part of a text from its first space on; empty if it has no space
abbrev pub skip_word : List ℕ → List ℕ
skip_word text = drop (position_or_len is_space text) text

-- the part of a text from its second word on, if spaces separate words; empty if there is no second word
unfoldable pub from_second_word : List ℕ → List ℕ
from_second_word text = skip_spaces (skip_word (skip_spaces text))

-- the part of a text before its second word
abbrev pub before_second_word : List ℕ → List ℕ
before_second_word text = take (length text - length (from_second_word text)) text

-- whether a word is one letter A to F, in either case
unfoldable pub is_key_letter : List ℕ → Bool
is_key_letter [] = false
is_key_letter (letter ∷ []) = nat_le 65 letter && nat_le letter 70 || nat_le 97 letter && nat_le letter 102
is_key_letter (letter ∷ other ∷ word) = false

-- a text, with `#` before it if its first word is one letter A to F
unfoldable pub with_sign : List ℕ → List ℕ
with_sign text = if is_key_letter (before_first is_space text) then codes "#" ++ text else text

-- a text, with `#` before its second word if that word is one letter A to F: `10 a down` becomes `10 #a down`
abbrev pub with_key_number : List ℕ → List ℕ
with_key_number text = before_second_word text ++ with_sign (from_second_word text)

-- the script command with the effect of a line; empty if the line is blank or only a comment
unfoldable pub key_command : List ℕ → List ℕ
key_command line =
    if list_all is_space (said line) then [] else codes "kins " ++ with_key_number (said line)

-- the commands for the lines of a file; a file is split into lines in the same way as a source
abbrev pub key_commands : List ℕ → List (List ℕ)
key_commands file = map key_command (lines file)
