use Rattle.std.proofs.Common.{◌≡◌, ◌++◌, ◌∷◌, [], max, length, cond, subst, sym, arith, rules}
use Rattle.std.proofs.lemmas.Grind.{common_steps}
use Rattle.std.proofs.lemmas.Option.{IfSome_then}
use Rattle.chip_machine.specs.Touched.{touched}
use Rattle.chip_replay.specs.Run.{run}
use Rattle.chip_replay.specs.Keys.{held}
use Rattle.chip_replay.specs.inner.Kept.{AreCheckpoints, IsKnown, IsTouched, is_due}
use Rattle.chip_replay.proofs.Changed.{table_cut}
use Rattle.chip_replay.proofs.Sound.{checkpoints_more}
use Rattle.chip_replay.proofs.kept.Kept.extend.Goals as goal

pub returns-then-last-self-clause-right : goal.returns-then-last-self-clause-right
returns-then-last-self-clause-right g c = λ rate start events ahead.
    let m = g.M.Traced in
    let same : max c.args.self.now.reach c.args.last ≡ c.args.self.now.reach = omega (arith, c.if-last-self.true) in
    subst (IsKnown m.is_proper m.touches m.step_of rate start events c.args.self.now) same ahead.known

pub returns-clause-right : goal.returns-clause-right
returns-clause-right g c = λ rate start events ahead.
    let m = g.M.Traced in
    let was = c.args.self.now in
    let state = run m.step_of rate (held events) start in
    rw c.keep.ensures.others (record {
      checkpoints = subst (AreCheckpoints m.is_proper m.step_of state was.spacing was.reach) (sym c.in-Err.ensures.err) ahead.known.checkpoints;
      table = table_cut (touched m.touches) state was.first_touch.items _ (max was.reach c.args.last) was.reach ahead.known.table (omega arith) (grind (arith, common_steps));
      current = tt;
    })

pub returns-2-clause-right : goal.returns-2-clause-right
returns-2-clause-right g c = λ rate start events ahead.
    let m = g.M.Traced in
    let was = c.args.self.now in
    let state = run m.step_of rate (held events) start in
    let after = c.else-is_due.self in
    let kept : after.checkpoints.items ≡ cond (is_due was.spacing (length was.checkpoints.items) c.args.at c.args.last) (was.checkpoints.items ++ was.current ∷ []) was.checkpoints.items =
    search rules in
    let others : after ≡ record was { checkpoints = after.checkpoints; spare = after.spare } = search rules in
    let last : max was.reach c.args.last ≡ c.args.last = omega (arith, c.if-last-self.false) in
    rw others (record {
      checkpoints = checkpoints_more m.is_proper m.step_of rate (held events) start was.spacing was.reach was.checkpoints.items ahead.known.checkpoints c.requires.spaced
          c.args.at c.args.last ahead.next c.if-last-self.false ahead.order (omega (arith, c.requires.in_range)) was.current ahead.current ahead.stays _ kept;
      table = subst (λ n. IsTouched (touched m.touches) state n was.first_touch.items) last ahead.known.table;
      current = IfSome_then was.current_step ahead.known.current (λ t is. record { reached = omega (arith, is.reached, last); current = is.current; holding = is.holding });
    })
