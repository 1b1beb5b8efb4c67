-- Facts stored about a line in addition to its reading, so that steps over all lines needn't look
-- into most readings (chosen by this project).
use Rattle.std.specs.Prelude.{◌≡◌, ℕ, pos, length, slice_get, Bool, true, false, not, if◌then◌else◌, ◌&&◌, List, [], ◌∷◌, All, Option, Some, None, ◌<◌, slice_index_or, ⊤}
use Rattle.chip_lang.specs.Line.{Body, empty, code, options, used, xref, Reading, bad, read, db, dw, da}
use Rattle.chip_lang.specs.Uses.{names_used, name_defined}
use Rattle.chip_symbols.specs.Names.{Name}
use Rattle.chip_asm.specs.inner.KeptLine.{KeptLine}
use Rattle.chip_asm.specs.declared.line_info.LineInfo.{LineInfo}
use Rattle.chip_asm.specs.declared.line_info.Numbered.{Numbered}
use Rattle.chip_asm.specs.declared.line_info.Space.{Space}
use Rattle.chip_asm.specs.declared.line_info.Space.TheVariants.{Short, Data, Asked}
use Rattle.chip_asm.specs.declared.line_info.Uses.{Uses}
use Rattle.chip_asm.specs.declared.line_info.Uses.TheVariants.{Nothing, One, Several}
use Rattle.chip_symbols.specs.declared.table.NameId.{NameId}
use Rattle.chip_asm.specs.inner.Records.{reading_in}
use Rattle.chip_symbols.specs.Tables.{AreNumbers, IsNumber}
use Rattle.chip_asm.specs.Layout.{body_of, full_size, is_padded, own_size, is_if_body, is_end_body, is_align_body}

-- true for a statement about which the first pass needs only the size
abbrev pub is_plain : Body → Bool
is_plain empty = true
is_plain options = true
is_plain used = true
is_plain xref = true
is_plain (db es) = true
is_plain (dw es) = true
is_plain (da bytes) = true
is_plain (code form operands) = true
is_plain _ = false

abbrev pub is_plain_line : Reading → Bool
is_plain_line (bad fault) = false
is_plain_line (read label body) = is_plain body

-- true for a statement that has its own bytes
abbrev pub has_code : Body → Bool
has_code (db es) = true
has_code (dw es) = true
has_code (da bytes) = true
has_code (code form operands) = true
has_code _ = false

-- the line is plain, and takes `size` bytes; `padded` states whether it can be padded
abbrev pub Takes : ℕ → Bool → Reading → Type 0
Takes size padded line =
    (is_plain_line line ≡ true) × (size ≡ own_size (body_of line) (pos 0)) × (padded ≡ is_padded (body_of line))

-- the space that a line takes
abbrev pub IsSpaceOf : Space → Reading → Type 0
IsSpaceOf Short line = Takes (if has_code (body_of line) then 2 else 0) false line
IsSpaceOf (Data size padded) line = Takes size padded line
IsSpaceOf Asked line = ⊤

-- two plain lines define the same name and take the same space; replacing one by the other changes
-- nothing else
pub record AreAlike (old new : Reading) : Type 0 where
  pub was_plain : is_plain_line old ≡ true
  pub now_plain : is_plain_line new ≡ true
  pub name : name_defined old ≡ name_defined new
  pub size : own_size (body_of old) (pos 0) ≡ own_size (body_of new) (pos 0)
  pub padded : is_padded (body_of old) ≡ is_padded (body_of new)

-- true for a statement that opens no block, ends no source and switches no alignment
abbrev pub is_steady : Body → Bool
is_steady body = not (is_if_body body) && not (is_end_body body) && not (is_align_body body)

-- the number, if there is one, belongs to the name, if there is one
abbrev pub IsNumberOf : List Name → Option NameId → Option Name → Type 0
IsNumberOf keys None name = name ≡ None
IsNumberOf keys (Some id) None = ⊥
IsNumberOf keys (Some id) (Some name) = IsNumber keys id name

-- the numbers of the names that a line uses; the numbers of several names are stored in a separate list
abbrev pub numbers_of : Uses → (several : List NameId) → List NameId
numbers_of Nothing several = []
numbers_of (One id) several = id ∷ []
numbers_of Several several = several

abbrev pub numbers_in : KeptLine → List NameId
numbers_in kept = numbers_of kept.info.uses kept.several

-- the facts stored about a line are right
pub record IsInfo (keys : List Name) (info : LineInfo) (several : List NameId)
    (line : Reading) : Type 0 where
  pub space : IsSpaceOf info.space line
  pub coded : info.is_coded ≡ has_code (body_of line)
  pub steady : info.is_steady ≡ is_steady (body_of line)
  pub defines : IsNumberOf keys info.defines (name_defined line)
  pub uses : AreNumbers keys (numbers_of info.uses several) (names_used line)

-- a plain line takes this size at an address, active or not, and then defines this name
pub record IsPlain (keys : List Name) (active aligning : Bool) (here : ℕ) (line : Reading) (size : ℕ)
    (defines : Option NameId) : Type 0 where
  pub plain : is_plain_line line ≡ true
  pub sized : size ≡ (if active then full_size aligning here (body_of line) (pos 0) else 0)
  pub named : IsNumberOf keys defines (if active then name_defined line else None)

-- the facts in this list are right for the lines at their places
abbrev pub AreInfosOf : List Name → List Numbered → List Reading → Type 0
AreInfosOf keys infos lines =
    (length infos ≡ length lines) × ((place : ℕ) (made : Numbered) (line : Reading)
    → slice_get infos place ≡ Some made → slice_get lines place ≡ Some line
    → IsInfo keys made.info made.several.items line)

-- the facts stored about each line are right
abbrev pub AreInfos : List Name → List KeptLine → Type 0
AreInfos keys lines = All (λ kept. IsInfo keys kept.info kept.several (reading_in kept)) lines

-- each of the first `many` lines is steady
abbrev pub AreSteady : List KeptLine → (many : ℕ) → Type 0
AreSteady lines many =
    (place : ℕ) (other : KeptLine) → place < many
    → (slice_index_or lines place other).info.is_steady ≡ true
