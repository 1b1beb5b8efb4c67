use Rattle.std.proofs.Common.{◌≡◌, ◌<◌, ℕ}
use Rattle.chip_machine.specs.Choices.{IsWithin}
use Rattle.chip_machine.specs.Step.{step_of}
use Rattle.chip_replay.specs.Keys.{held}
use Rattle.chip_replay.specs.Run.{run}
use Rattle.chip_explore.specs.Scripts.{keys_of}
use Rattle.chip_explore.specs.inner.Played.{IsPlayed}
use Rattle.chip_explore.proofs.confirm.machine_under.Given as goal

abbrev pub invariant-loop-made : goal.invariant-loop-made
invariant-loop-made l =
    record {
      played : IsPlayed l.events l.made l.made l.played;
      reached : l.machine ≡ run step_of l.setting.rate (held (keys_of l.events)) l.start l.made;
      allowed_only : (t : ℕ) → t < l.made → IsWithin l.setting.allowed (held (keys_of l.events) t);
    }
