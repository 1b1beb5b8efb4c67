-- Open blocks, the last one first: the effect of a line on them, and IF lines without ENDIF (chosen
-- by this project).
use Rattle.std.specs.Prelude.{◌≡◌, ℕ, ◌+◌, ◌<◌, Bool, not, ◌&&◌, List, length, nat_eq, nat_lt, nat_le, slice_index_or, if◌then◌else◌, true, [], ◌∷◌}
use Rattle.std.specs.List.{list_any, list_all}
use Rattle.chip_lang.specs.declared.fault.Fault.TheVariants.{UnclosedIf}
use Rattle.chip_asm.specs.declared.block.Block.{Block}
use Rattle.chip_asm.specs.declared.placement.Status.TheVariants.{Refused}
use Rattle.chip_asm.specs.declared.placement.Placement.{Placement}
use Rattle.chip_lang.specs.Line.{Body, ifdef, ifund, else_line, endif}

-- true if one of the first `count` lines opened the block
abbrev pub is_among : ℕ → Block → Bool
is_among count b = nat_lt 0 b.number && nat_le b.number count

-- true if the line at a place opened the block and is active
abbrev pub is_opened_at : ℕ → Block → Bool
is_opened_at place b = b.active && nat_eq b.number (place + 1)

-- an active IF line, with the fault of a block that is open at the end
abbrev pub unclosed : Placement → Placement
unclosed q = record q { status = Refused UnclosedIf }

-- the line at a place, with the fault of an IF if the line's block is open at the end
abbrev pub marked : Bool → List Block → ℕ → Placement → Placement
marked ended blocks place q =
    if not ended && list_any (is_opened_at place) blocks then unclosed q else q

-- the new list contains the lines of the old one, each of them marked
abbrev pub AreMarked : Bool → List Block → (old new : List Placement) → Type 0
AreMarked ended blocks old new =
    (place : ℕ) (other : Placement) → place < length old
    → slice_index_or new place other ≡ marked ended blocks place (slice_index_or old place other)

-- the other side of a block; a block that already had an ELSE stays the same
abbrev pub turned : Block → Block
turned b =
    if b.has_else then b
    else record { number = b.number; active = b.active; holds = not b.holds; has_else = true }

abbrev pub turn_first : List Block → List Block
turn_first [] = []
turn_first (b ∷ bs) = turned b ∷ bs

abbrev pub close_first : List Block → List Block
close_first [] = []
close_first (b ∷ bs) = bs

-- in the open blocks, listed from the last one, each block was opened active if and only if the blocks around it held
abbrev pub AreNested : List Block → Type 0
AreNested [] = Unit
AreNested (b ∷ outer) = (b.active ≡ list_all (λ o. o.holds) outer) × AreNested outer

-- the open blocks after a line, the last one first
abbrev pub moved : Body → Block → List Block → List Block
moved (ifdef n) opened bs = opened ∷ bs
moved (ifund n) opened bs = opened ∷ bs
moved else_line opened bs = turn_first bs
moved endif opened bs = close_first bs
moved _ opened bs = bs
