-- The states that a search looks for.
-- Source: chosen by this project.
--     met_in          how a machine meets a target: it has stopped for a wanted cause; or it has not
--                     stopped, so that it makes a step, and pc is at the address; or else it meets a
--                     property, and the first one that it meets counts
use Rattle.std.specs.Prelude.{ℕ, Bool, false, Option, Some, None, option_map, position, ◌==◌, if◌then◌else◌}
use Rattle.chip_machine.specs.declared.stop.Stop.{Stop}
use Rattle.chip_machine.specs.State.{State}
use Rattle.chip_explore.specs.Causes.{is_wanted}
use Rattle.chip_explore.specs.Property.{is_met}
use Rattle.chip_explore.specs.declared.target.Target.{Target}
use Rattle.chip_explore.specs.declared.target.Met.{Met}
use Rattle.chip_explore.specs.declared.target.Met.TheVariants.{Cause, Address, Property}

abbrev pub is_address : Option ℕ → (pc : ℕ) → Bool
is_address None pc = false
is_address (Some address) pc = pc == address

abbrev pub met_by : Target → State → Option Stop → Option Met
met_by target s (Some cause) =
    if is_wanted target.causes cause then Some (Cause cause) else None
met_by target s None =
    if is_address target.address s.core.pc then Some Address
    else option_map Property (position (is_met s) target.properties.now)

abbrev pub met_in : Target → State → Option Met
met_in target s = met_by target s s.core.stopped
