-- A stored line as contracts see it, and the way in which it is stored (chosen by this project).
use Rattle.std.specs.Prelude.{ℕ, List, ◌≡◌, ◌+◌, ◌≤◌, [], ℤ, IfSome, Ok, Option, length}
use Rattle.chip_lang.specs.declared.line.Line.{Line}
use Rattle.chip_asm.specs.declared.line_info.LineInfo.{LineInfo}
use Rattle.chip_symbols.specs.declared.table.NameId.{NameId}
use Rattle.chip_lang.specs.Line.{Reading}
use Rattle.chip_symbols.specs.declared.table.Symbol.{Symbol}
use Rattle.chip_asm.specs.Layout.{body_of, value_at}
use Rattle.chip_symbols.specs.Names.{Name}
use Rattle.chip_asm.specs.declared.kept_line.HeldLine.{HeldLine}
use Rattle.chip_asm.specs.declared.kept_line.HeldLine.TheVariants.{Nothing, Boxed}
use Rattle.chip_asm.specs.inner.HeldText.{SaysNothing, part_from}

-- the text of a line, its reading, the facts that steps over all lines need, and the numbers of the
-- names that it uses, if it uses several
pub record KeptLine : Type 0 where
  pub text : List ℕ
  pub line : Line
  pub info : LineInfo
  pub several : List NameId

-- if the value is known, it is the value of the line's own expression under these names
abbrev pub IsKnownUnder : List (Name × Symbol) → Option ℤ → Reading → Type 0
IsKnownUnder names known line = IfSome known (λ value. value_at names (body_of line) ≡ Ok value)

-- a stored line as contracts see it; a line that is blank or only a comment has no box
abbrev pub kept_held : HeldLine → LineInfo → KeptLine
kept_held (Nothing count start source) info =
    record {
      text = part_from source.value.bytes start count;
      line = source.value.nothing;
      info = info;
      several = [];
    }
kept_held (Boxed read) info =
    record {
      text = read.value.text;
      line = read.value.line;
      info = info;
      several = read.value.several.items;
    }

abbrev pub IsLineHeld : HeldLine → Type 0
IsLineHeld (Nothing count start source) =
    (start + count ≤ length source.value.bytes) × SaysNothing source.value.nothing
IsLineHeld (Boxed read) = Unit
