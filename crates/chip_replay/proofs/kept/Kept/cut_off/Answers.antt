use Rattle.std.proofs.Common.{◌≡◌, ℕ, Option, Some, subst}
use Rattle.std.specs.Prelude.{IfSome}
use Rattle.std.proofs.lemmas.Option.{IfSome_then}
use Rattle.chip_replay.specs.Run.{run}
use Rattle.chip_replay.specs.Keys.{held}
use Rattle.chip_replay.specs.inner.Kept.{IsAt}
use Rattle.chip_replay.proofs.Changed.{checkpoints_cut}
use Rattle.chip_replay.proofs.kept.Kept.cut_off.Goals as goal

pub returns-clause-right : goal.returns-clause-right
returns-clause-right g c = λ rate start events right l.
    let m = g.M.Traced in
    let was = c.args.self.now in
    let at = IsAt m.step_of rate start events was.current was.holding was.reach in
    let there = λ (t : ℕ) (same : was.current_step ≡ Some t). subst (λ (o : Option ℕ). IfSome o at) same right.current in
    let table = c.cut_touches.ensures.table rate start events was.reach right.table
    (IfSome_then c.if_within-self.result c.if_within-self.ensures (λ t kept. there t kept.1)) l in
    rw c.cut_touches.ensures.others (record {
      checkpoints = checkpoints_cut m.is_proper m.step_of (run m.step_of rate (held events) start) was.spacing was.reach c.args.reach was.checkpoints.items _ c.requires
          right.checkpoints l c.set_apart.ensures;
      table = table;
      current = IfSome_then c.if_within-self.result c.if_within-self.ensures
          (λ t kept. record { reached = kept.0; current = (there t kept.1).current; holding = (there t kept.1).holding });
    })
