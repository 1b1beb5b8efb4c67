use Rattle.std.proofs.Common.{◌+◌, ◌<◌, Any}
use Rattle.chip_machine.specs.State.{State}
use Rattle.chip_machine.specs.Step.{reg, go_to}
use Rattle.chip_facts.specs.inner.Steps.{IsNext}
use Rattle.chip_facts.specs.inner.Transfer.{IsAt}
use Rattle.chip_facts.proofs.transfer.Before.jumps_offset.Given as goal

abbrev pub invariant-loop-v : goal.invariant-loop-v
invariant-loop-v l = (s : State) → IsAt l.self s → reg s.core l.x < l.v → Any (IsNext l.self.frames.now (go_to (l.address + reg s.core l.x) s.core)) l.next.items
