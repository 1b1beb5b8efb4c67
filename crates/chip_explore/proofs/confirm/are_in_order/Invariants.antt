use Rattle.std.proofs.Common.{◌≡◌, drop}
use Rattle.chip_explore.specs.Scripts.{are_in_order}
use Rattle.chip_explore.proofs.confirm.are_in_order.Given as goal

abbrev pub invariant-loop-event : goal.invariant-loop-event
invariant-loop-event l = are_in_order l.least (drop l.event-index l.events) ≡ are_in_order 0 l.events
