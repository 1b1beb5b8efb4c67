use Rattle.std.proofs.Common.{◌≡◌, ℕ, ◌+◌, ◌<◌, length, slice_index}
use Rattle.chip_machine.specs.Block.{block, first_noted}
use Rattle.chip_machine.specs.Touched.{touched}
use Rattle.chip_replay.specs.Limits.{memory_size}
use Rattle.chip_replay.proofs.traced.Traced.steps.Given as goal

abbrev pub invariant-loop-made : goal.invariant-loop-made
invariant-loop-made g l =
    let m = g.Self.Traced in
    let k = g.K.HeldKeys in
    let held = k.held l.fn.keys in
    record {
      state : l.self ≡ block m.step_of l.rate held l.from l.fn.self l.made;
      size : length l.first_touch ≡ memory_size;
      noted : (at : ℕ) → at < memory_size → slice_index l.first_touch at ≡ first_noted m.step_of l.rate held l.from l.fn.self (touched m.touches) at (slice_index l.fn.first_touch at) l.made;
      keys : k.held l.keys ≡ held;
      ready : k.is_ready l.keys (l.from + l.made);
    }
