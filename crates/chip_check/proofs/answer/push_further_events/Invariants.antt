use Rattle.std.proofs.Common.{◌≡◌, ◌++◌, take}
use Rattle.std.specs.List.{flat_map}
use Rattle.chip_check.specs.Answer.{further_event}
use Rattle.chip_check.proofs.answer.push_further_events.Given as goal

abbrev pub invariant-loop-event : goal.invariant-loop-event
invariant-loop-event l = l.text.items ≡ l.initial.text.items ++ flat_map further_event (take l.event-index l.events)
