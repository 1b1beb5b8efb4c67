use Rattle.std.proofs.Common.{length, Some}
use Rattle.chip_machine.proofs.QuirkLemmas.{Completes}
use Rattle.chip_machine.proofs.quirks.Quirks.with_choices.Given as goal

abbrev pub invariant-loop-next : goal.invariant-loop-next
invariant-loop-next l = Completes (Some (record { quirks = l.fn.self; taken = 0 })) l.fn.list l.rest l.chosen

abbrev pub decreases-loop-next : goal.decreases-loop-next
decreases-loop-next l = length l.rest
