use Rattle.std.proofs.Common.{◌≡◌, ◌<◌, ℕ, false, slice_index}
use Rattle.chip_machine.specs.Forgotten.{has_part, register_part}
use Rattle.chip_machine.proofs.processor.have_same_values.Given as goal

abbrev pub invariant-loop-x : goal.invariant-loop-x
invariant-loop-x l =
    (y : ℕ) → y < l.x → has_part l.forgotten (register_part y) ≡ false → slice_index l.mine y ≡ slice_index l.theirs y
