-- The states in which a property can be evaluated while some parts are forgotten.
-- Source: chosen by this project.
--     is_item_known      whether the value of an item is known in a state: no part of the item is
--                        forgotten, and the delay timer isn't only a bound
--     is_sum_known       whether each value of a sum is known
--     is_property_known  whether each value of a property that is evaluated in the state is known
--     known_of           the values of a state of a search that are known
--     are_goals_known    whether each value of the goals is known
--     are_known          whether each value of the properties and the goals that are evaluated in the
--                        state is known
use Rattle.std.specs.Prelude.{ℕ, ◌+◌, ◌==◌, ◌&&◌, ◌||◌, not, Bool, true}
use Rattle.std.specs.List.{list_all}
use Rattle.chip_machine.specs.Forgotten.{has_byte, has_part, index_part, register_part, screen_part}
use Rattle.chip_machine.specs.State.{State}
use Rattle.chip_explore.specs.Property.{is_at}
use Rattle.chip_explore.specs.declared.known.Known.{Known}
use Rattle.chip_explore.specs.declared.property.Comparison.{Comparison}
use Rattle.chip_explore.specs.declared.property.Item.{Item}
use Rattle.chip_explore.specs.declared.property.Item.TheVariants.{Register, Index, Delay, AsksKeys, Byte, Pixel}
use Rattle.chip_explore.specs.declared.property.Property.{Property}
use Rattle.chip_explore.specs.declared.property.Sum.{Sum}
use Rattle.chip_explore.specs.declared.setting.Setting.{Setting}

abbrev pub is_item_known : Known → Item → Bool
is_item_known known (Register x) = not (has_part known.forgotten (register_part x))
is_item_known known Index = not (has_part known.forgotten index_part)
is_item_known known (Pixel x y) = not (has_part known.forgotten screen_part)
is_item_known known Delay = known.has_delay
is_item_known known (Byte at) = not (has_byte known.forgotten at)
is_item_known known AsksKeys =
    not (has_byte known.forgotten known.pc) && not (has_byte known.forgotten (known.pc + 1))
is_item_known known item = true

abbrev pub is_sum_known : Known → Sum → Bool
is_sum_known known sum = list_all (λ term. is_item_known known term.item) sum.terms.items

abbrev pub is_comparison_known : Known → Comparison → Bool
is_comparison_known known c = is_sum_known known c.left && is_sum_known known c.right

abbrev pub is_property_known : Known → (pc : ℕ) → Property → Bool
is_property_known known pc p =
    not (is_at p.place pc)
    || list_all (is_comparison_known known) p.condition.comparisons.items

abbrev pub known_of : Setting → (forgotten : ℕ) → State → Known
known_of p forgotten s =
    record {
      forgotten = forgotten;
      has_delay = not p.free || s.core.delay == 0;
      pc = s.core.pc;
    }

abbrev pub are_goals_known : Setting → (forgotten : ℕ) → State → Bool
are_goals_known p forgotten s =
    list_all (is_property_known (known_of p forgotten s) s.core.pc) p.goals.now

abbrev pub are_known : Setting → (forgotten : ℕ) → State → Bool
are_known p forgotten s =
    list_all (is_property_known (known_of p forgotten s) s.core.pc) p.target.properties.now
    && are_goals_known p forgotten s
