-- The machine's frame law in the form that the trait requires.
-- Source: chosen by this project.
--     machine_framed          the frame law
--     machine_step_keeps      a step preserves that a state is proper
use Rattle.std.specs.Prelude.{◌≡◌, ℕ, Bool, All, IsFalse}
use Rattle.std.proofs.Common.{ap}
use Rattle.chip_machine.specs.State.{Core, State, IsProper, memory_of, with_memory}
use Rattle.chip_machine.specs.Step.{step_of, touches}
use Rattle.chip_machine.specs.inner.FrameTheorem.{frame_law, step_keeps_proper}
use Rattle.chip_replay.specs.Frame.{AgreeOff, IsFramed}

pub machine_framed : (set : ℕ → Bool) (keys : ℕ) (tick : Bool) (a b : State) → IsProper a
    → IsProper b → AgreeOff memory_of with_memory set a b → All (λ at. IsFalse (set at)) (touches a)
    → IsFramed memory_of with_memory (λ s. step_of s keys tick) touches set a b
machine_framed set keys tick a b proper_a proper_b agree misses =
    let core : a.core ≡ b.core = ap (λ (s : State). s.core) agree.rest in
    let framed = frame_law set keys tick a b proper_a proper_b
    (record { core = core; memory = agree.bytes }) misses in
    record {
      same_touches = framed.same_touches;
      still_agree = record {
        rest =
            ap (λ (c : Core). with_memory
            (record { core = c; memory = memory_of (step_of a keys tick) })
            (memory_of (step_of b keys tick))) framed.still_agree.core;
        bytes = framed.still_agree.memory;
      };
      first_keeps = framed.first_keeps;
      second_keeps = framed.second_keeps;
    }

pub machine_step_keeps : (s : State) (keys : ℕ) (tick : Bool) → IsProper s
    → IsProper (step_of s keys tick)
machine_step_keeps = step_keeps_proper
