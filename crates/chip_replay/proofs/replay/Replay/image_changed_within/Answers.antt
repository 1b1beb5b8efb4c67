use Rattle.std.proofs.Common.{◌≡◌, ℕ, ◌+◌, ◌<◌, ◌≤◌, min, true, false, ap, ◌∙◌, subst, refl, slice_index, drop, ◌⊎◌, arith}
use Rattle.chip_replay.specs.Keys.{held}
use Rattle.chip_replay.specs.Image.{with_image, affected}
use Rattle.chip_machine.specs.State.{differs}
use Rattle.chip_replay.specs.History.{History}
use Rattle.chip_machine.specs.Touched.{touched}
use Rattle.chip_replay.specs.Run.{run}
use Rattle.chip_replay.proofs.TracedLaws.{IsTraced}
use Rattle.chip_replay.proofs.Changed.{right_patched, affected_le, not_touched}
use Rattle.chip_replay.proofs.Bytes.{patched-with_image}
use Rattle.chip_replay.specs.Limits.{image_room, image_start}
use Rattle.chip_replay.proofs.replay.Replay.image_changed_within.Goals as goal

pub invariant_of-self : goal.invariant_of-self
invariant_of-self g c =
    let m = g.M.Traced in
    let met = g.met.M.Traced in
    let laws : IsTraced m.memory m.with_memory m.is_proper m.touches m.step_of = record {
      part = record { read_back = met.memory_of_changed; same = met.changed_to_same; replaced = met.changed_twice };
      size = met.proper_size;
      changed = met.proper_changed;
      by_step = met.step_keeps;
      frame = met.frame_law;
    } in
    let was = c.self.inside in
    let old = c.args.old.now in
    let new = c.args.new.now in
    let first = c.least_touch-affected.result in
    let state = run m.step_of was.rate (held was.keys) was.start in
    let right = c.self.invariant.2 in
    let reach = c.forget.ensures.reach in
    let untouched = λ (s : ℕ) (l : s < c.forget.new.self.reach) (i : ℕ) (li : i < image_room) (d : differs old new i ≡ true). (
    let bound : first ≤ slice_index was.kept.first_touch.items (image_start + i) =
    subst (λ xs. first ≤ slice_index xs (image_start + i)) c.deref.ensures.value (c.least_touch-affected.ensures.least i li d) in
    let touched_not : touched m.touches (state s) (image_start + i) ≡ false =
    not_touched (touched m.touches) state was.kept.first_touch.items was.kept.reach c.forget.new.self.reach right.table (omega (arith, reach))
    (image_start + i) (omega arith) (omega (arith, reach, bound)) s l in touched_not) in
    let cut = c.forget.ensures.right was.rate was.start was.keys was.keys right (λ s l k. refl) in
    let above : 0 < c.forget.new.self.spacing = rw c.forget.ensures.others (omega (arith, c.self.invariant.1.0)) in
    let patched = right_patched m.memory m.with_memory m.is_proper m.touches m.step_of laws was.rate was.start was.keys
    c.forget.new.self c.patch-2.new.self old new above cut untouched c.patch-2.ensures.checkpoints
    (c.patch-2.ensures.others ∙ rw c.patch-2.ensures.current refl) in
    (c.self.invariant.0, rw (c.patch-2.ensures.others, c.forget.ensures.others) c.self.invariant.1, rw c.patch.ensures patched)

pub returns-clause-start : goal.returns-clause-start
returns-clause-start g c =
    let m = g.M.Traced in
    let met = g.met.M.Traced in
    let same : c.self.inside.start ≡ c.args.self.now.start = ap (λ (h : History g.row.M.Denot). h.start) c.self.view_is in
    c.patch.ensures
    ∙ patched-with_image c.args.old.now c.args.new.now m.memory m.with_memory c.self.inside.start c.requires.old_fits c.requires.new_fits (ap (λ s. drop image_start (m.memory s)) same ∙ c.requires.old_is_there)
    ∙ ap (with_image m.memory m.with_memory c.args.new.now) same

pub returns-clause-reach : goal.returns-clause-reach
returns-clause-reach g c =
    let m = g.M.Traced in
    let was = c.self.inside in
    let old = c.args.old.now in
    let new = c.args.new.now in
    let first = c.least_touch-affected.result in
    let attained = subst (λ xs. (first ≡ was.kept.reach) ⊎ ((i : ℕ) × (i < image_room) × (differs old new i ≡ true) × (first ≡ slice_index xs (image_start + i)))) c.deref.ensures.value c.least_touch-affected.ensures.attained in
    let bound : affected m.touches m.step_of was.rate (held was.keys) old new was.start was.kept.reach ≤ first =
    affected_le m.touches m.step_of was.rate (held was.keys) was.start was.kept.first_touch.items was.kept.reach
    c.self.invariant.2.checkpoints.in_range c.self.invariant.2.table old new first c.least_touch-affected.ensures.within attained in
    let left : c.patch-2.new.self.reach ≡ min was.kept.reach first = rw c.patch-2.ensures.others c.forget.ensures.reach in
    let within : affected m.touches m.step_of was.rate (held was.keys) old new was.start was.kept.reach ≤ c.patch-2.new.self.reach = omega (arith, bound, left, c.least_touch-affected.ensures.within) in
    subst (λ (h : History g.row.M.Denot). affected m.touches m.step_of h.rate (held h.keys) old new h.start h.reach ≤ c.patch-2.new.self.reach) c.self.view_is within
