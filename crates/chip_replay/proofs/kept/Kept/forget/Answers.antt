use Rattle.std.proofs.Common.{arith}
use Rattle.chip_replay.proofs.Changed.{right_keys}
use Rattle.chip_replay.proofs.kept.Kept.forget.Goals as goal
use Rattle.chip_replay.proofs.kept.Kept.forget.Goals.{then-from-self, else-from-self}

pub returns-clause-right : goal.returns-clause-right
returns-clause-right g c = λ rate start events later right same.
    let m = g.M.Traced in
    let was = c.args.self.now in
    elim c.if-from-self.branch [
      | then-from-self w ↦ (
          let cut = w.cut_off.ensures.right rate start events right (omega (arith, w.if-from-self.true)) in
          rw (c.min-self.ensures, w.self-is) (right_keys m.is_proper m.touches m.step_of rate start events later w.cut_off.new.self c.args.from
          (rw w.cut_off.ensures.others c.requires) cut (rw w.cut_off.ensures.others (omega arith)) same))
      | else-from-self w ↦ rw (c.min-self.ensures, w.self-is) (right_keys m.is_proper m.touches m.step_of rate start events later was c.args.from
          c.requires right (omega (arith, w.if-from-self.false)) same)
    ]
