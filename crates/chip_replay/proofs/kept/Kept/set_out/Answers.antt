use Rattle.std.proofs.Common.{ℕ, ◌+◌, ◌*◌, ◌/◌, ◌≤◌, ◌≡◌, length, min, slice_index_or, arith, ap, sym, subst, ◌∙◌}
use Rattle.std.specs.Prelude.{IfSome}
use Rattle.std.proofs.Math.Nat.{div-mul-le_self}
use Rattle.chip_replay.specs.Run.{run, IsStill}
use Rattle.chip_replay.specs.Keys.{held}
use Rattle.chip_replay.specs.inner.Cursor.{knows_later}
use Rattle.chip_replay.specs.inner.Kept.{IsAt}
use Rattle.chip_replay.proofs.Spaced.{div_mono}
use Rattle.chip_replay.proofs.Sound.{nearest_is, stays_to}
use Rattle.chip_replay.proofs.kept.Kept.set_out.Goals as goal

-- the current state is also that of each later step
pub returns-in-Some-2-clause-known : goal.returns-in-Some-2-clause-known
returns-in-Some-2-clause-known g c = λ rate right.
    let m = g.M.Traced in
    let kept = c.args.self.now in
    let keys = c.args.keys.now in
    let state = run m.step_of rate (held keys) c.args.start.now in
    let t = c.in-Some-2.current_step in
    let known = c.min-known.result in
    let is = subst (λ o. IfSome o (IsAt m.step_of rate c.args.start.now keys kept.current kept.holding kept.reach)) c.in-Some-2.is right.current in
    let still : IsStill m.step_of (state t) = subst (IsStill m.step_of) is.current (λ down tick. c.stays.ensures.still c.if-stays.true down tick tt) in
    let later : t ≤ known = omega (arith, c.min-known.ensures, c.if-current_step-step-2.true, is.reached) in
    record {
      reached = omega (arith, c.min-known.ensures);
      current = is.current ∙ sym (stays_to m.step_of rate (held keys) c.args.start.now t known still later);
      holding = knows_later keys t known kept.holding is.holding later;
    }

-- the current state is the nearest checkpoint
pub returns-in_ok-copy_from-in_default-current_step-clause-known : goal.returns-in_ok-copy_from-in_default-current_step-clause-known
returns-in_ok-copy_from-in_default-current_step-clause-known g c = λ rate right.
    let m = g.M.Traced in
    let kept = c.args.self.now in
    let cs = kept.checkpoints.items in
    let known = c.min-known.result in
    let place = known / kept.spacing in
    let there : place ≤ kept.reach / kept.spacing = div_mono known kept.reach kept.spacing c.requires.spaced (omega (arith, c.min-known.ensures)) in
    let below : place * kept.spacing ≤ known = div-mul-le_self known kept.spacing in
    let r = c.nearest-from_state.result.now in
    let nearest = λ (n : ℕ) (e : min place (length cs) ≡ n). ap (λ xs. min place (length xs)) c.deref-in_default-current_step.ensures.value ∙ e in
    record {
      reached = omega (arith, below, c.min-known.ensures);
      current = c.in_ok-copy_from-in_default-current_step.ensures.ok
          ∙ nearest_is m.is_proper m.step_of rate (held c.args.keys.now) c.args.start.now kept.spacing kept.reach cs right.checkpoints place r there
          (λ e. c.nearest-from_state.ensures.start (nearest 0 e))
          (λ i e. c.nearest-from_state.ensures.checkpoint i (nearest (i + 1) e) ∙ ap (λ xs. slice_index_or xs i r) c.deref-in_default-current_step.ensures.value);
      holding = c.before-self.ensures;
    }

pub returns-in_ok-copy_from-in_default-current_step-clause-right : goal.returns-in_ok-copy_from-in_default-current_step-clause-right
returns-in_ok-copy_from-in_default-current_step-clause-right g c = λ rate right.
    record { checkpoints = right.checkpoints; table = right.table; current = returns-in_ok-copy_from-in_default-current_step-clause-known g c rate right }
