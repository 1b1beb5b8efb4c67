use Rattle.std.proofs.Common.{◌≡◌, take}
use Rattle.chip_machine.specs.State.{exchanged}
use Rattle.chip_machine.proofs.memory.exchange_all.Given as goal

abbrev pub invariant-loop-i : goal.invariant-loop-i
invariant-loop-i l = l.bytes ≡ exchanged l.initial.bytes 0 (take l.i l.fn.old) (take l.i l.fn.new)
