-- Properties of a machine's state.
-- Source: chosen by this project.
--     value_in        the value of an item in a state
--     sum_in          a constant plus each value times its factor, added without bound
--     is_related      whether a relation holds between two numbers
--     compares        whether the relation of a comparison holds between its two sides, in a state
--     holds_in        whether all comparisons of a condition hold in a state, or at least one does
--     is_at           whether pc is at a place; true if no place is given
--     is_met          whether a machine is at the place of a property, and its condition holds or fails
--                     there, whichever is wanted
use Rattle.std.specs.Prelude.{ℕ, ◌+◌, ◌*◌, ◌==◌, ◌&&◌, not, nat_lt, nat_le, Bool, true, false, Option, Some, None, length, slice_index, sum_by, if◌then◌else◌}
use Rattle.std.specs.List.{list_all, list_any}
use Rattle.chip_lang.specs.declared.instr.Instr.{Instr}
use Rattle.chip_lang.specs.declared.instr.Instr.TheVariants as row
use Rattle.chip_machine.specs.Forgotten.{next_instr}
use Rattle.chip_machine.specs.Points.{is_lit}
use Rattle.chip_machine.specs.State.{State}
use Rattle.chip_machine.specs.Step.{reg}
use Rattle.chip_explore.specs.declared.property.Comparison.{Comparison}
use Rattle.chip_explore.specs.declared.property.Condition.{Condition}
use Rattle.chip_explore.specs.declared.property.Item.{Item}
use Rattle.chip_explore.specs.declared.property.Item.TheVariants.{Register, Index, Place, Delay, Depth, High, AsksKeys, Byte, Pixel}
use Rattle.chip_explore.specs.declared.property.Property.{Property}
use Rattle.chip_explore.specs.declared.property.Relation.{Relation}
use Rattle.chip_explore.specs.declared.property.Relation.TheVariants.{Equal, Unequal, Less, LessOrEqual, Greater, GreaterOrEqual}
use Rattle.chip_explore.specs.declared.property.Sum.{Sum}

-- whether an instruction is SKP Vx, SKNP Vx or LD Vx, K
abbrev pub asks_keys : Option Instr → Bool
asks_keys (Some (row.SkipIfKey x)) = true
asks_keys (Some (row.SkipUnlessKey x)) = true
asks_keys (Some (row.WaitKey x)) = true
asks_keys instr = false

abbrev pub one_if : Bool → ℕ
one_if test = if test then 1 else 0

-- the stored pixel for a column or row: a pixel of the low size is four stored pixels, and the top left one counts
abbrev pub stored : (high : Bool) → ℕ → ℕ
stored high place = if high then place else 2 * place

abbrev pub value_in : State → Item → ℕ
value_in s (Register x) = reg s.core x
value_in s Index = s.core.index
value_in s Place = s.core.pc
value_in s Delay = s.core.delay
value_in s Depth = length s.core.frames
value_in s High = one_if s.core.high
value_in s AsksKeys = one_if (asks_keys (next_instr s))
value_in s (Byte at) = slice_index s.memory at
value_in s (Pixel x y) =
    one_if (is_lit s.core.lit (stored s.core.high x) (stored s.core.high y))

abbrev pub sum_in : State → Sum → ℕ
sum_in s sum =
    sum.constant + sum_by (λ term. term.factor * value_in s term.item) sum.terms.items

abbrev pub is_related : Relation → ℕ → ℕ → Bool
is_related Equal a b = a == b
is_related Unequal a b = not (a == b)
is_related Less a b = nat_lt a b
is_related LessOrEqual a b = nat_le a b
is_related Greater a b = nat_lt b a
is_related GreaterOrEqual a b = nat_le b a

abbrev pub compares : State → Comparison → Bool
compares s c = is_related c.relation (sum_in s c.left) (sum_in s c.right)

abbrev pub holds_in : State → Condition → Bool
holds_in s c =
    if c.is_all then list_all (compares s) c.comparisons.items
    else list_any (compares s) c.comparisons.items

abbrev pub is_at : Option ℕ → (pc : ℕ) → Bool
is_at None pc = true
is_at (Some place) pc = pc == place

abbrev pub is_met : State → Property → Bool
is_met s p =
    is_at p.place s.core.pc
    && (if p.wanted then holds_in s p.condition else not (holds_in s p.condition))
