-- Everything that is stored about each line, before and after an edit (chosen by this project).
use Rattle.std.specs.Prelude.{◌≡◌, ℕ, ◌+◌, ◌-◌, ◌<◌, ◌≤◌, All, List, length, map, insert, remove, replicate, slice_set, Option, None}
use Rattle.chip_lang.specs.Line.{Reading, reading_of}
use Rattle.chip_lang.specs.SeenLine.{seen_line}
use Rattle.chip_asm.specs.inner.KeptLine.{KeptLine}
use Rattle.chip_asm.specs.declared.edit.LineEdit.{LineEdit}
use Rattle.chip_asm.specs.declared.edit.LineEdit.TheVariants.{Insert, Replace, Delete, Open}
use Rattle.chip_asm.specs.Edits.{before_insert, before_replace, before_delete}

abbrev pub reading_in : KeptLine → Reading
reading_in kept = seen_line kept.line

abbrev pub readings_in : List KeptLine → List Reading
readings_in lines = map reading_in lines

abbrev pub texts_in : List KeptLine → List (List ℕ)
texts_in lines = map (λ kept. kept.text) lines

-- the stored reading of a line is the reading of its text
abbrev pub IsRead : KeptLine → Type 0
IsRead kept = reading_in kept ≡ reading_of kept.text

-- the place of the edit is within the lines
abbrev pub IsPlaceWithin : ℕ → LineEdit → Type 0
IsPlaceWithin count (Insert at line) = at ≤ count
IsPlaceWithin count (Replace at line) = at < count
IsPlaceWithin count (Delete at) = at < count
IsPlaceWithin count (Open all) = count ≡ 0

-- the stored lines after the edit
abbrev pub lines_after : List KeptLine → LineEdit → List KeptLine
lines_after lines (Insert at line) = insert lines at line
lines_after lines (Replace at line) = slice_set lines at line
lines_after lines (Delete at) = remove lines at
lines_after lines (Open all) = all.items

-- the texts after the edit
abbrev pub texts_after : List (List ℕ) → LineEdit → List (List ℕ)
texts_after texts (Insert at line) = insert texts at line.text
texts_after texts (Replace at line) = slice_set texts at line.text
texts_after texts (Delete at) = remove texts at
texts_after texts (Open all) = texts_in all.items

-- a property holds for each line that the edit adds
abbrev pub AllAdded : (KeptLine → Type 0) → LineEdit → Type 0
AllAdded P (Insert at line) = P line
AllAdded P (Replace at line) = P line
AllAdded P (Delete at) = Unit
AllAdded P (Open all) = All P all.items

-- the item for each line after the edit; `new` is the item for each new line
abbrev pub items_after : {X : Type 0} → List X → LineEdit → (new : X) → List X
items_after items (Insert at line) new = insert items at new
items_after items (Replace at line) new = slice_set items at new
items_after items (Delete at) new = remove items at
items_after items (Open all) new = replicate (length all.items) new

abbrev pub count_after : ℕ → LineEdit → ℕ
count_after count (Insert at line) = count + 1
count_after count (Replace at line) = count
count_after count (Delete at) = count - 1
count_after count (Open all) = length all.items

-- the place that the line at a place had before the edit; none for the new line
abbrev pub place_before : LineEdit → ℕ → Option ℕ
place_before (Insert at line) place = before_insert at place
place_before (Replace at line) place = before_replace at place
place_before (Delete at) place = before_delete at place
place_before (Open all) place = None

-- the place of the first line that the edit changes; the lines before it stay the same
abbrev pub first_changed : LineEdit → ℕ
first_changed (Insert at line) = at
first_changed (Replace at line) = at
first_changed (Delete at) = at
first_changed (Open all) = 0
