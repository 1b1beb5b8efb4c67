-- The places that execution reaches, given the lines above a line, the nearest one first (chosen by this project).
use Rattle.std.specs.Prelude.{ℕ, ◌+◌, ◌==◌, ◌&&◌, ◌||◌, not, Bool, true, false, if◌then◌else◌, List, [], ◌∷◌, Option, Some, None}
use Rattle.std.specs.List.{list_any}
use Rattle.chip_lang.specs.declared.limits.TheConstants.{IMAGE_START}
use Rattle.chip_warnings.specs.declared.flow.Reach.{Reach}
use Rattle.chip_warnings.specs.declared.flow.Reach.TheVariants.{Comes, Never, Unsure}
use Rattle.chip_warnings.specs.declared.flow.Flow.{Flow}
use Rattle.chip_warnings.specs.declared.seen.Says.{Says}
use Rattle.chip_warnings.specs.declared.seen.Says.TheVariants.{Nothing, Code}
use Rattle.chip_warnings.specs.declared.seen.Seen.{Seen}
use Rattle.chip_lang.specs.Decoding.{decode_of}
use Rattle.chip_warnings.specs.Instructions.{goes_elsewhere, jumps_by_table, may_skip}
use Rattle.chip_warnings.specs.Seen.{base_of, holds_of, is_draw}

-- ---- the line above

-- whether a line has bytes
abbrev pub has_bytes : Says → Bool
has_bytes Nothing = false
has_bytes says = true

-- the last line above that has bytes
abbrev pub last_with_bytes : (above : List Seen) → Option Seen
last_with_bytes [] = None
last_with_bytes (s ∷ above) = if has_bytes s.says then Some s else last_with_bytes above

-- whether a label or ORG follows the last line above that has bytes
abbrev pub begins_since : (above : List Seen) → Bool
begins_since [] = false
begins_since (s ∷ above) = not (has_bytes s.says) && (s.begins || begins_since above)

-- whether a line above draws a random byte
abbrev pub draws_among : (above : List Seen) → Bool
draws_among above = list_any (λ (s : Seen). is_draw s.says) above

-- whether an address is two bytes after the start of the last line with bytes: the next address if that line is an
-- instruction; without such a line, whether the address is the start of the image
abbrev pub comes_next : (last : Option Seen) → (address : ℕ) → Bool
comes_next None address = address == IMAGE_START
comes_next (Some s) address = s.address + 2 == address

-- the word of the form of the instruction directly before an address, if there is one
abbrev pub base_before : (last : Option Seen) → (address : ℕ) → Option ℕ
base_before None address = None
base_before (Some s) address = if s.address + 2 == address then base_of s.says else None

-- ---- the places that execution reaches

-- Whether execution reaches an instruction, given the flow from the lines above it. Execution reaches a label, the
-- place after ORG, and each address to which an instruction may go. If the instruction directly follows the line above,
-- the answer is the same as for the place after that line. Otherwise nothing is known.
abbrev pub reach_at : (jumped : ℕ → Bool) → Flow → Seen → Reach
reach_at jumped flow s =
    if s.begins || flow.begins || jumped s.address then Comes
    else (if comes_next flow.last s.address then flow.reach else Unsure)

-- Whether execution reaches the place after an instruction, given whether it reaches the instruction. Execution doesn't
-- reach that place if the instruction goes elsewhere, unless the instruction above may skip it. Nothing is known after
-- JP V0, or if execution isn't known to reach the instruction.
abbrev pub reach_past : (may_be_skipped : Bool) → (base : ℕ) → Reach → Reach
reach_past may_be_skipped base Comes =
    if goes_elsewhere (decode_of base) && not may_be_skipped then Never
    else (if jumps_by_table (decode_of base) then Unsure else Comes)
reach_past may_be_skipped base reach = Unsure

-- whether execution reaches the place after a line, given the flow at that line
abbrev pub reach_by : (jumped : ℕ → Bool) → Flow → Seen → Says → Reach
reach_by jumped flow s Nothing = flow.reach
reach_by jumped flow s (Code base word) =
    reach_past (holds_of may_skip (base_before flow.last s.address)) base (reach_at jumped flow s)
reach_by jumped flow s says = Unsure

-- Whether execution reaches the place after these lines: yes at the start of the image, and unknown after data.
abbrev pub reach_after : (jumped : ℕ → Bool) → (above : List Seen) → Reach
reach_after jumped [] = Comes
reach_after jumped (s ∷ above) =
    reach_by jumped
    (record {
      last = last_with_bytes above;
      begins = begins_since above;
      reach = reach_after jumped above;
      has_drawn = draws_among above;
    }) s s.says

-- the information about a line that comes from the lines above it
unfoldable pub flow_after : (jumped : ℕ → Bool) → (above : List Seen) → Flow
flow_after jumped above =
    record {
      last = last_with_bytes above;
      begins = begins_since above;
      reach = reach_after jumped above;
      has_drawn = draws_among above;
    }
