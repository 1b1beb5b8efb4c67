use Rattle.chip_replay.proofs.TracedLaws.{IsTraced}
use Rattle.chip_replay.proofs.Bytes.{patched-with_image}
use Rattle.chip_replay.proofs.Patched.{run-patched}
use Rattle.chip_replay.proofs.law.patched_checkpoint.Goals as goal

pub returns-clause-start : goal.returns-clause-start
returns-clause-start g c start old new lo ln e =
    let m = g.M.Traced in
    let met = g.met.M.Traced in
    patched-with_image old new m.memory m.with_memory start lo ln e

pub returns-clause-state : goal.returns-clause-state
returns-clause-state g c start old new rate t held p u =
    let m = g.M.Traced in
    let met = g.met.M.Traced in
    let laws : IsTraced m.memory m.with_memory m.is_proper m.touches m.step_of = record {
      part = record { read_back = met.memory_of_changed; same = met.changed_to_same; replaced = met.changed_twice };
      size = met.proper_size;
      changed = met.proper_changed;
      by_step = met.step_keeps;
      frame = met.frame_law;
    } in
    run-patched m.memory m.with_memory m.is_proper m.touches m.step_of laws old new rate held start p t (λ r l i h d. u r i l h d)
