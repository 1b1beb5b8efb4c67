-- The text of a line as it is stored: its own bytes, or a part of the bytes of a shared source
-- (chosen by this project).
use Rattle.std.specs.Prelude.{◌≡◌, ℕ, ◌+◌, ◌-◌, ◌≤◌, List, None, drop, length, slice_range}
use Rattle.chip_lang.specs.Line.{empty, read}
use Rattle.chip_lang.specs.SeenLine.{seen_line}
use Rattle.chip_lang.specs.declared.line.Line.{Line}
use Rattle.chip_asm.specs.declared.line_text.HeldText.{HeldText}
use Rattle.chip_asm.specs.declared.line_text.HeldText.TheVariants.{Own, Part}

-- the line is blank or only a comment
abbrev pub SaysNothing : Line → Type 0
SaysNothing line = seen_line line ≡ read None empty

-- the part of some bytes that begins at index `start` and has `count` bytes
abbrev pub part_from : List ℕ → ℕ → ℕ → List ℕ
part_from bytes start count = slice_range bytes start (start + count)

abbrev pub text_held : HeldText → List ℕ
text_held (Own bytes) = bytes
text_held (Part source start count) = part_from source.value.bytes start count

abbrev pub IsTextHeld : HeldText → Type 0
IsTextHeld (Own bytes) = 0 ≤ 0
IsTextHeld (Part source start count) = start + count ≤ length source.value.bytes

-- the first list is a suffix of the second one
pub record IsBack (back bytes : List ℕ) : Type 0 where
  pub within : length back ≤ length bytes
  pub is : back ≡ drop (length bytes - length back) bytes
