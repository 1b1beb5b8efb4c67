use Rattle.std.proofs.Common.{◌≡◌, ◌++◌, slice_index}
use Rattle.std.specs.List.{flat_map, range_with_len}
use Rattle.chip_trace.specs.inner.Usual.{register_member}
use Rattle.chip_trace.proofs.json.push_register_members.Given as goal

abbrev pub invariant-loop-place : goal.invariant-loop-place
invariant-loop-place l =
    l.text.items ≡ l.initial.text.items ++ flat_map (λ x. register_member x (slice_index l.machine.core.registers x)) (range_with_len 0 l.place)
