-- The results of the first pass: for a line, for the state after some lines, and for all lines
-- (chosen by this project).
use Rattle.std.specs.Prelude.{ℕ, ℤ, pos, Bool, true, false, ◌&&◌, Option, Some, None, is_none, if◌then◌else◌, ◌≡◌, ◌+◌, not, List, reverse, map, unsigned_abs, length, slice_get, sum_by, take}
use Rattle.chip_lang.specs.declared.fault.Fault.{Fault}
use Rattle.chip_asm.specs.declared.placement.Placement.{Placement}
use Rattle.chip_asm.specs.declared.placement.Status.{Status}
use Rattle.chip_asm.specs.declared.placement.Status.TheVariants.{Skipped, Refused, Pending, Done, Uncoded}
use Rattle.std.specs.List.{list_all}
use Rattle.chip_lang.specs.Line.{Body, align, Reading}
use Rattle.chip_asm.specs.Layout.{Placed, has_ended, holds, has_else, is_org_body}
use Rattle.chip_asm.specs.computed.Walk.{address, is_aligning, enclosing, symbols, placed}
use Rattle.chip_asm.specs.declared.block.Block.{Block}
use Rattle.chip_asm.specs.declared.pass.Pass.{Pass}
use Rattle.chip_asm.specs.Program.{code_under, fault_in_code, first_pass_fault}
use Rattle.chip_asm.specs.Work.{is_accepted_in}
use Rattle.chip_asm.specs.declared.layout.Layout.{Layout}

-- the result of the first pass for a line
pub record Found : Type 0 where
  pub value : ℤ
  pub here : ℕ
  pub size : ℕ
  pub fault : Option Fault
  pub active : Bool

abbrev pub is_active_status : Status → Bool
is_active_status Skipped = false
is_active_status _ = true

-- the fault of a line in the first pass
abbrev pub refusal : Status → Option Fault
refusal (Refused fault) = Some fault
refusal _ = None

-- true if the first pass accepts the line
abbrev pub is_accepted : Status → Bool
is_accepted status = is_active_status status && is_none (refusal status)

abbrev pub is_pending : Status → Bool
is_pending Pending = true
is_pending _ = false

-- the fault of a line in either pass
abbrev pub fault_noted : Status → Option Fault
fault_noted (Refused fault) = Some fault
fault_noted (Uncoded fault) = Some fault
fault_noted _ = None

-- the status after the first pass, given whether the line is active and which fault it has, if any
abbrev pub first_status : Bool → Option Fault → Status
first_status false fault = Skipped
first_status true (Some fault) = Refused fault
first_status true None = Pending

-- the status of a line that wasn't accepted before and has no fault in the first pass, given
-- whether it is active and has code
abbrev pub bare_status : (active coded : Bool) → Status
bare_status active coded = if active then (if coded then Pending else Done) else Skipped

-- the status of an accepted line, given the fault of its code, if any
abbrev pub status_coded : Option Fault → Status
status_coded (Some fault) = Uncoded fault
status_coded None = Done

abbrev pub found : Placement → Found
found q =
    record {
      value = q.value;
      here = q.here;
      size = q.size;
      fault = refusal q.status;
      active = is_active_status q.status;
    }

-- true if the first pass accepts the line with this result
abbrev pub is_accepted_found : Found → Bool
is_accepted_found f = f.active && is_none f.fault

-- 1 for a line with a fault, or else 0
abbrev pub count_of : Placement → ℕ
count_of q = if is_none (fault_noted q.status) then 0 else 1

-- the placement of a line about which nothing is known yet
abbrev pub nothing : Placement
nothing = record { value = pos 0; here = 0; size = 0; status = Skipped }

-- an open block, according to the lines before
abbrev pub block_of : List Placed → Placed → Block
block_of before opener =
    record {
      number = opener.number;
      active = opener.active;
      holds = holds before opener;
      has_else = has_else before opener;
    }

-- the result of the first pass for a placed line
abbrev pub placement_of : Placed → Found
placement_of p =
    record {
      active = p.active;
      here = p.here;
      fault = p.fault;
      value = p.value;
      size = p.size;
    }

pub record Follows (pass : Pass) (before : List Placed) : Type 0 where
  pub at_address : pass.here ≡ address before
  pub aligning : pass.aligning ≡ is_aligning before
  pub ended : pass.ended ≡ has_ended before
  pub open_blocks : pass.blocks.items ≡ reverse (map (block_of before) (enclosing before))
  pub names : pass.names.symbols ≡ symbols before
  -- whether the next line is active, if it is neither ELSE nor ENDIF
  pub active : pass.active ≡ (not pass.ended && list_all (λ b. b.holds) pass.blocks.items)

abbrev pub next_address : Bool → ℕ → Body → ℤ → ℕ → ℕ
next_address accepted here body value size =
    if accepted && is_org_body body then unsigned_abs value else here + size

abbrev pub next_aligning : Bool → Bool → Body → Bool
next_aligning accepted aligning (align on) = if accepted then on else aligning
next_aligning accepted aligning _ = aligning

-- the results of the first pass for all lines, in line order
unfoldable pub first_placements : List Reading → List Found
first_placements lines = map placement_of (reverse (placed lines))

-- the pass has passed these lines, and the placements at the front are its results for them
pub record HasPassed (all : List Placement) (pass : Pass) (lines : List Reading) : Type 0 where
  pub placements : take (length lines) (map found all) ≡ first_placements lines
  pub follows : Follows pass (placed lines)

-- the result of both passes for a line before the line is encoded, including the fault of an IF
-- without ENDIF
abbrev pub final_placement : List Placed → Placed → Found
final_placement all p = record (placement_of p) { fault = first_pass_fault all p }

unfoldable pub placements_of : List Reading → List Found
placements_of lines = map (final_placement (placed lines)) (reverse (placed lines))

-- the status of each accepted line contains the fault of its code, if any
abbrev pub AreCodesNoted : List Placement → List Reading → Type 0
AreCodesNoted placements lines =
    (j : ℕ) (x : Placed) (q : Placement) → slice_get (reverse (placed lines)) j ≡ Some x
    → slice_get placements j ≡ Some q → is_accepted_in (placed lines) x ≡ true
    → q.status ≡ status_coded (fault_in_code (code_under (placed lines) x))

-- the number of faults is right
abbrev pub IsCounted : Layout → Type 0
IsCounted layout = layout.faults ≡ sum_by count_of layout.placements.items

pub record IsLayoutOf (layout : Layout) (lines : List Reading) : Type 0 where
  pub placements : map found layout.placements.items ≡ placements_of lines
  pub codes : AreCodesNoted layout.placements.items lines
  pub end_address : layout.end ≡ address (placed lines)
  pub counted : IsCounted layout

-- the pass has passed the first `place` lines, and the placements at the front are its results for
-- them
abbrev pub IsWalked : List Placement → Pass → List Reading → (place : ℕ) → Type 0
IsWalked placements pass lines place = HasPassed placements pass (take place lines)
