-- The facts that hold while the two passes go over the lines after an edit (chosen by this
-- project).
use Rattle.std.specs.Prelude.{◌≡◌, ℕ, ◌+◌, ◌-◌, ◌<◌, ◌≤◌, ◌⊎◌, ◌&&◌, Bool, true, false, List, length, reverse, Option, Some, Result, nat_le, nat_lt, slice_get, slice_index, sum_by, vec_len, vec_capacity, count_by, take}
use Rattle.std.specs.Option.{option_map_or}
use Rattle.chip_lang.specs.declared.fault.Fault.{Fault}
use Rattle.chip_lang.specs.declared.limits.TheConstants.{IMAGE_BYTES, IMAGE_START}
use Rattle.chip_lang.specs.Line.{Reading}
use Rattle.chip_lang.specs.Uses.{agree_on}
use Rattle.chip_asm.specs.declared.limits.TheConstants.{MOST_LINES}
use Rattle.chip_asm.specs.declared.pass.Pass.{Pass}
use Rattle.chip_asm.specs.declared.layout.Tally.{Tally}
use Rattle.chip_asm.specs.declared.placement.Placement.{Placement}
use Rattle.chip_asm.specs.declared.placement.Status.{Status}
use Rattle.chip_asm.specs.declared.placement.Status.TheVariants.{Pending}
use Rattle.chip_asm.specs.Layout.{Placed, body_of, takes_effect}
use Rattle.chip_symbols.specs.Names.{Name, values_of}
use Rattle.chip_asm.specs.Program.{bytes_in_code, code_under, code_with, fault_in_code, names_of_lines}
use Rattle.chip_asm.specs.Work.{is_accepted_at, is_accepted_in, needs}
use Rattle.chip_asm.specs.computed.Walk.{placed}
use Rattle.chip_asm.specs.inner.Infos.{AreInfos, has_code}
use Rattle.chip_asm.specs.inner.KeptLine.{KeptLine}
use Rattle.chip_asm.specs.inner.Placements.{placements_of, IsWalked, count_of, found, is_accepted, is_pending, status_coded}
use Rattle.chip_asm.specs.inner.Records.{readings_in}
use Rattle.chip_symbols.specs.Tables.{Tables}
use Rattle.std.specs.List.{enumerate_from}

-- an edit: the lines before and after it, the place that the line at a place had before, and the
-- names that have numbers
pub record Change : Type 0 where
  pub was : List Reading
  pub now : List Reading
  pub origin : ℕ → Option ℕ
  pub keys : List Name

-- each line that was there before the edit is the same line after it
abbrev pub IsChange : Change → Type 0
IsChange e =
    (j b : ℕ) → e.origin j ≡ Some b → j < length e.now → slice_get e.was b ≡ slice_get e.now j

-- true if the line at a place existed before the edit and was accepted then
abbrev pub stood : Change → ℕ → Bool
stood e j = option_map_or (is_accepted_at e.was) (e.origin j) false

-- the line at a place, with its facts after the edit
abbrev pub placed_at : Change → ℕ → Option Placed
placed_at e j = slice_get (reverse (placed e.now)) j

-- the code of a line under the names before the edit
abbrev pub code_before : Change → Reading → Result (List ℕ) Fault
code_before e line = code_with (names_of_lines e.was) line

-- true if the byte at an index of an image is one of `size` bytes from an address on
abbrev pub is_byte_of : (here size k : ℕ) → Bool
is_byte_of here size k = nat_le here (IMAGE_START + k) && nat_lt (IMAGE_START + k) (here + size)

-- an image contains the code of a line at an address, with zeros after it, and the line's status
-- contains the fault of the code, if any
pub record HasCode (code : Result (List ℕ) Fault) (here size : ℕ) (status : Status) (image : List ℕ) : Type 0 where
  pub bytes : (k : ℕ) → is_byte_of here size k ≡ true
      → slice_index image k ≡ slice_index (bytes_in_code code) (IMAGE_START + k - here)
  pub noted : status ≡ status_coded (fault_in_code code)

-- the facts about a line that the first pass hasn't reached yet: `q` is its placement before the
-- edit, if it was accepted then
pub record IsSlot (e : Change) (from : List ℕ) (j : ℕ) (line : Reading) (q : Placement) : Type 0 where
  pub accepted : is_accepted q.status ≡ stood e j
  pub was : is_accepted q.status ≡ true
      → (b : ℕ) × (e.origin j ≡ Some b) × (slice_get (placements_of e.was) b ≡ Some (found q))
  pub code : is_accepted q.status ≡ true → HasCode (code_before e line) q.here q.size q.status from

-- an accepted line with code, which wasn't accepted before, waits for that code
pub record Waits (e : Change) (j : ℕ) (x : Placed) (status : Status) (image : List ℕ) : Type 0 where
  pub pending : status ≡ Pending
  pub coded : has_code (body_of x.line) ≡ true
  pub new : stood e j ≡ false
  pub zeros : (k : ℕ) → is_byte_of x.here x.size k ≡ true → slice_index image k ≡ 0

-- an accepted line waits for its code or has the code that it had before the edit
abbrev pub IsCarried : Change → (j : ℕ) (x : Placed) (status : Status) (image : List ℕ) → Type 0
IsCarried e j x status image =
    Waits e j x status image ⊎ HasCode (code_before e x.line) x.here x.size status image

-- the facts about a line that the first pass has passed
abbrev pub IsHeld : Change → (j : ℕ) (x : Placed) (q : Placement) (image : List ℕ) → Type 0
IsHeld e j x q image = takes_effect x ≡ true → IsCarried e j x q.status image

-- in an image, each byte that no line before a place covers is zero
abbrev pub AreGapsZero : Change → (place : ℕ) (image : List ℕ) → Type 0
AreGapsZero e place image =
    (k : ℕ) → k < IMAGE_BYTES
    → ((j : ℕ) (x : Placed) → j < place → placed_at e j ≡ Some x → is_byte_of x.here x.size k ≡ false)
    → slice_index image k ≡ 0

-- the faults are counted, and all waiting lines are between these places
pub record IsTally (placements : List Placement) (tally : Tally) : Type 0 where
  pub counted : tally.faults ≡ sum_by count_of placements
  pub low : (j : ℕ) (q : Placement) → slice_get placements j ≡ Some q → q.status ≡ Pending
      → tally.start ≤ j
  pub high : (j : ℕ) (q : Placement) → slice_get placements j ≡ Some q → q.status ≡ Pending
      → j < tally.end
  pub within : tally.end ≤ length placements

-- `left` more lines can be passed without another allocation
pub record HasRoom (pass : Pass) (left : ℕ) : Type 0 where
  pub blocks : vec_len pass.blocks + left ≤ vec_capacity pass.blocks
  pub names : length pass.names.symbols + left ≤ pass.names.room

-- the first pass has reached a place
pub record IsUnderWay (e : Change) (lines : List KeptLine) (pass : Pass) (placements : List Placement)
    (tally : Tally) (from image : List ℕ) (place : ℕ) : Type 0 where
  pub now : e.now ≡ readings_in lines
  pub change : IsChange e
  pub few : length lines ≤ MOST_LINES
  pub inside : place ≤ length lines
  pub placed_many : length placements ≡ length lines
  pub from_long : length from ≡ IMAGE_BYTES
  pub image_long : length image ≡ IMAGE_BYTES
  pub infos : AreInfos pass.names.keys lines
  pub keys : pass.names.keys ≡ e.keys
  pub before : pass.names.before ≡ values_of (names_of_lines e.was)
  pub walked : IsWalked placements pass e.now place
  pub room : HasRoom pass (length lines - place)
  pub tallied : IsTally placements tally
  pub slots : (j : ℕ) (line : Reading) (q : Placement) → place ≤ j
      → slice_get e.now j ≡ Some line → slice_get placements j ≡ Some q → IsSlot e from j line q
  pub held : (j : ℕ) (x : Placed) (q : Placement) → j < place
      → placed_at e j ≡ Some x → slice_get placements j ≡ Some q → IsHeld e j x q image
  pub gaps : AreGapsZero e place image

-- the facts about a line that has its code, and about a line that the second pass hasn't reached yet
abbrev pub IsDone : Change → (x : Placed) (q : Placement) (image : List ℕ) → Type 0
IsDone e x q image =
    is_accepted_in (placed e.now) x ≡ true
    → HasCode (code_under (placed e.now) x) x.here x.size q.status image

abbrev pub IsHalfDone : Change → (j : ℕ) (x : Placed) (q : Placement) (image : List ℕ) → Type 0
IsHalfDone e j x q image =
    is_accepted_in (placed e.now) x ≡ true → IsCarried e j x q.status image

-- the second pass has reached a place
pub record AreCoded (e : Change) (placements : List Placement) (image : List ℕ) (place : ℕ) : Type 0 where
  pub placed_many : length placements ≡ length e.now
  pub image_long : length image ≡ IMAGE_BYTES
  pub done : (j : ℕ) (x : Placed) (q : Placement) → j < place
      → placed_at e j ≡ Some x → slice_get placements j ≡ Some q → IsDone e x q image
  pub half : (j : ℕ) (x : Placed) (q : Placement) → place ≤ j
      → placed_at e j ≡ Some x → slice_get placements j ≡ Some q → IsHalfDone e j x q image
  pub gaps : AreGapsZero e (length e.now) image

-- the second pass goes over the lines of the edit, under their symbols
pub record IsEncodedUnder (e : Change) (names : Tables) (lines : List KeptLine) : Type 0 where
  pub now : e.now ≡ readings_in lines
  pub change : IsChange e
  pub symbols : names.symbols ≡ names_of_lines e.now
  pub before : names.before ≡ values_of (names_of_lines e.was)

-- true for a line, with its place, that has bytes of its own and has to be encoded
unfoldable pub is_encoded_again : (old new : List Reading) → (ℕ → Option ℕ) → ℕ × Reading → Bool
is_encoded_again old new origin at = has_code (body_of at.1) && needs old new origin at

-- the number of lines that have to be encoded
abbrev pub count_again : (old new : List Reading) → (ℕ → Option ℕ) → ℕ
count_again old new origin = count_by (is_encoded_again old new origin) (enumerate_from 0 new)

-- the number of lines before a place that have to be encoded
abbrev pub count_up_to : (old new : List Reading) → (ℕ → Option ℕ) → ℕ → ℕ
count_up_to old new origin place =
    count_by (is_encoded_again old new origin) (take place (enumerate_from 0 new))

-- the number of lines before a place that are encoded again
abbrev pub again_up_to : Change → ℕ → ℕ
again_up_to e place = count_up_to e.was e.now e.origin place

-- the lines from one place up to another don't wait, and their names keep their values
abbrev pub AreSettled : Tables → List KeptLine → List Placement → (start end : ℕ) → Type 0
AreSettled names lines placements start end =
    (j : ℕ) → j < end → start ≤ j → (line : Reading) (q : Placement)
    → slice_get (readings_in lines) j ≡ Some line → slice_get placements j ≡ Some q
    → (is_pending q.status ≡ false) × (agree_on names.before (values_of names.symbols) line ≡ true)
