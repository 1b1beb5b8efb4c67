-- Targets that are never met.
-- Source: chosen by this project.
--     NeverMet        no state that the image can reach meets the target, with any keys down, any random
--                     bytes and any ticks of the timers
--     AvoidsAll       the law: a target that is never met is avoided up to each step under each key script, at
--                     any rate and with any tape of bytes
--     AvoidsAtAll     the law: a target that is never met is also avoided up to each step at any speed
use Rattle.std.specs.Prelude.{◌≡◌, ℕ, List, None}
use Rattle.chip_machine.specs.State.{State}
use Rattle.chip_machine.specs.Start.{start_of}
use Rattle.chip_machine.specs.declared.quirks.Quirks.{Quirks}
use Rattle.chip_explore.specs.Scripts.{Avoids}
use Rattle.chip_explore.specs.Speeds.{AvoidsAtAnySpeed}
use Rattle.chip_explore.specs.Target.{met_in}
use Rattle.chip_explore.specs.declared.target.Target.{Target}
use Rattle.chip_facts.specs.Reached.{IsByteTape, IsReached}

abbrev pub NeverMet : List ℕ → Quirks → Target → Type 0
NeverMet image quirks target = (s : State) → IsReached image quirks s → met_in target s ≡ None

abbrev pub AvoidsAll : Type 0
AvoidsAll =
    (image tape : List ℕ) (quirks : Quirks) (target : Target) (rate allowed n : ℕ) → IsByteTape tape →
    NeverMet image quirks target → Avoids rate allowed target (start_of image tape quirks) n

abbrev pub AvoidsAtAll : Type 0
AvoidsAtAll =
    (image tape : List ℕ) (quirks : Quirks) (target : Target) (allowed n : ℕ) → IsByteTape tape →
    NeverMet image quirks target → AvoidsAtAnySpeed allowed target (start_of image tape quirks) n
