-- Everything that a source stores in addition to the texts of its lines, and the requirements of an
-- edit (chosen by this project).
use Rattle.std.specs.Prelude.{◌≡◌, ℕ, ◌+◌, ◌<◌, ◌≤◌, false, List, length, map, Some, slice_get, slice_index, take, vec_len, vec_capacity}
use Rattle.chip_asm.specs.declared.limits.TheConstants.{MOST_LINES}
use Rattle.chip_lang.specs.Line.{Reading, reading_of}
use Rattle.chip_asm.specs.declared.edit.LineEdit.{LineEdit}
use Rattle.chip_asm.specs.declared.kept.Kept.{Kept}
use Rattle.chip_symbols.specs.Names.{values_of}
use Rattle.chip_asm.specs.Program.{names_of_lines}
use Rattle.chip_asm.specs.Work.{lines_to_encode}
use Rattle.chip_lang.specs.declared.limits.TheConstants.{IMAGE_BYTES, IMAGE_START}
use Rattle.chip_asm.specs.declared.placement.Status.TheVariants.{Pending}
use Rattle.chip_asm.specs.declared.placement.Placement.{Placement}
use Rattle.chip_asm.specs.Layout.{Placed}
use Rattle.chip_asm.specs.computed.Walk.{address, placed, symbols}
use Rattle.chip_asm.specs.inner.Codes.{IsImageOf}
use Rattle.chip_asm.specs.inner.Infos.{AreInfos, AreSteady, IsInfo}
use Rattle.chip_asm.specs.inner.Placements.{IsCounted, IsLayoutOf, first_placements, found}
use Rattle.chip_asm.specs.inner.Passes.{Change, IsChange, IsHeld, IsSlot, is_byte_of, placed_at}
use Rattle.chip_asm.specs.inner.Records.{AllAdded, IsPlaceWithin, IsRead, count_after, lines_after, place_before, reading_in, readings_in, texts_after, texts_in}

-- everything that is stored is right for the texts
pub record IsKept (kept : Kept) : Type 0 where
  pub few : length kept.lines.items ≤ MOST_LINES
  pub are_read : readings_in kept.lines.items ≡ map reading_of (texts_in kept.lines.items)
  pub infos : AreInfos kept.names.keys kept.lines.items
  pub symbols : kept.names.symbols ≡ names_of_lines (readings_in kept.lines.items)
  pub laid_out : IsLayoutOf kept.layout (readings_in kept.lines.items)
  pub image : IsImageOf kept.image.items (readings_in kept.lines.items)
  pub settled : AreSteady kept.lines.items kept.settled

-- the texts of the lines, and the readings of the lines before and after an edit
abbrev pub texts_kept : Kept → List (List ℕ)
texts_kept kept = texts_in kept.lines.items

abbrev pub lines_kept : Kept → List Reading
lines_kept kept = readings_in kept.lines.items

abbrev pub lines_then : Kept → LineEdit → List Reading
lines_then kept edit = readings_in (lines_after kept.lines.items edit)

-- the place of the edit is within these lines, the edit leaves no more lines than a source may
-- have, and its new lines were read
pub record MayEdit (old : Kept) (edit : LineEdit) : Type 0 where
  pub kept : IsKept old
  pub within : IsPlaceWithin (vec_len old.lines) edit
  pub few : count_after (vec_len old.lines) edit ≤ MOST_LINES
  pub are_read : AllAdded IsRead edit
  pub infos : AllAdded (λ line. IsInfo old.names.keys line.info line.several (reading_in line)) edit

-- the number of lines that are encoded because of an edit
abbrev pub needed_by : Kept → LineEdit → ℕ
needed_by kept edit =
    lines_to_encode (texts_kept kept) (texts_after (texts_kept kept) edit) (place_before edit)

-- an edit in the form that the two passes take
abbrev pub change_of : Kept → LineEdit → Change
change_of kept edit =
    record {
      was = lines_kept kept;
      now = lines_then kept edit;
      origin = place_before edit;
      keys = kept.names.keys;
    }

-- nothing that is stored has changed, and there is room for an edit that leaves `count` lines
pub record HasRoomFor (old new : Kept) (count : ℕ) : Type 0 where
  pub lines : new.lines.items ≡ old.lines.items
  pub names : new.names ≡ old.names
  pub placements : new.layout.placements.items ≡ old.layout.placements.items
  pub faults : new.layout.faults ≡ old.layout.faults
  pub settled : new.settled ≡ old.settled
  pub image_long : vec_len new.image ≡ IMAGE_BYTES
  pub spare_long : vec_len new.spare_image ≡ IMAGE_BYTES
  pub lines_room : vec_len new.lines < vec_capacity new.lines
  pub placements_room : vec_len new.layout.placements + count ≤ vec_capacity new.layout.placements
  pub blocks_room : count ≤ vec_capacity new.blocks

-- everything is ready for the two passes: the edit is made in the lines and in their placements,
-- and the first lines, which end at the address `start`, stay the same
pub record IsExchanged (e : Change) (kept : Kept) (first start : ℕ) : Type 0 where
  pub now : e.now ≡ readings_in kept.lines.items
  pub change : IsChange e
  pub few : length kept.lines.items ≤ MOST_LINES
  pub inside : first ≤ length kept.lines.items
  pub placed_many : length kept.layout.placements.items ≡ length kept.lines.items
  pub image_long : vec_len kept.image ≡ IMAGE_BYTES
  pub spare_long : vec_len kept.spare_image ≡ IMAGE_BYTES
  pub infos : AreInfos kept.names.keys kept.lines.items
  pub keys : kept.names.keys ≡ e.keys
  pub symbols : kept.names.symbols ≡ symbols (placed (take first e.now))
  pub before : kept.names.before ≡ values_of (names_of_lines e.was)
  pub names_room : length kept.names.symbols + length kept.lines.items ≤ kept.names.room
  pub blocks_room : length kept.lines.items ≤ vec_capacity kept.blocks
  pub steady : AreSteady kept.lines.items first
  pub front : take first (map found kept.layout.placements.items) ≡ first_placements (take first e.now)
  pub at_address : start ≡ address (placed (take first e.now))
  pub counted : IsCounted kept.layout
  pub none_pending : (j : ℕ) (q : Placement) → slice_get kept.layout.placements.items j ≡ Some q
      → q.status ≡ Pending → ⊥
  pub slots : (j : ℕ) (line : Reading) (q : Placement) → first ≤ j
      → slice_get e.now j ≡ Some line → slice_get kept.layout.placements.items j ≡ Some q
      → IsSlot e kept.image.items j line q
  pub held : (j : ℕ) (x : Placed) (q : Placement) → j < first
      → placed_at e j ≡ Some x → slice_get kept.layout.placements.items j ≡ Some q
      → IsHeld e j x q kept.image.items
  pub gaps : (k : ℕ) → IMAGE_START + k < start
      → ((j : ℕ) (x : Placed) → j < first → placed_at e j ≡ Some x
      → is_byte_of x.here x.size k ≡ false)
      → slice_index kept.image.items k ≡ 0

-- the passes have computed the layout and the codes of the lines after an edit
pub record IsAssembled (e : Change) (kept : Kept) : Type 0 where
  pub infos : AreInfos kept.names.keys kept.lines.items
  pub symbols : kept.names.symbols ≡ names_of_lines e.now
  pub laid_out : IsLayoutOf kept.layout e.now
  pub image : IsImageOf kept.image.items e.now
