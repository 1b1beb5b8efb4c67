-- Sets of stop causes.
-- Source: chosen by this project.
--     is_wanted       whether a set contains a cause, Sk at bit k
--     with_number     the causes of a set and the cause with a number, if there is such a cause
use Rattle.std.specs.Prelude.{ℕ, ◌^◌, ◌/◌, ◌%◌, ◌==◌, ◌&&◌, Bool, nat_le, Option, Some, None, bit_or, if◌then◌else◌}
use Rattle.chip_machine.specs.declared.stop.Stop.{Stop}
use Rattle.chip_machine.specs.Numbers.{stop_number}

abbrev pub is_wanted : ℕ → Stop → Bool
is_wanted causes cause = causes / 2 ^ stop_number cause % 2 == 1

abbrev pub with_number : ℕ → ℕ → Option ℕ
with_number causes k =
    if nat_le 1 k && nat_le k 7 then Some (bit_or causes (2 ^ k)) else None
