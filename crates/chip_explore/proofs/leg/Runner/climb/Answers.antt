use Rattle.std.proofs.Common.{◌≡◌, suc, refl, arith}
use Rattle.chip_machine.specs.Step.{step_of}
use Rattle.chip_explore.specs.inner.Cover.{tick_at}
use Rattle.chip_explore.proofs.Reached.{none_within}
use Rattle.chip_explore.proofs.leg.Runner.climb.Goals as goal

pub loop-way-preserved : goal.loop-way-preserved
loop-way-preserved c =
    let p = c.args.setting.now in
    let t = c.loop-way.step in
    let made : c.step.new.self ≡ step_of c.loop-way.self.machine 0 (tick_at p t) = cc in
    let unneeded = rw (c.way.ensures.forgotten, c.way.ensures.same) at c.in-Ok.ensures.unneeded in
    let is_after = rw (c.way.ensures.forgotten, c.way.ensures.same) at (c.in-Ok.ensures.after (tick_at p t)) in
    record {
      few = omega arith;
      path = λ v ranks rank moves low path.
          c.loop-way.invariant.path v ranks rank (suc moves) (omega (arith, c.in_default.ensures.left refl)) (
            c.in_default.ensures.open refl,
            unneeded,
            (0, none_within p.allowed, (c.in-Ok.after, is_after, rw made at path)),
          );
    }

pub returns-in-Some-clause-path : goal.returns-in-Some-clause-path
returns-in-Some-clause-path c = λ v ranks rank arrives.
    c.loop-way.invariant.path v ranks rank 0 (omega arith) (rw (c.way.ensures.forgotten, c.way.ensures.same) at arrives)

pub returns-in-Err-clause-path : goal.returns-in-Err-clause-path
returns-in-Err-clause-path c = λ v ranks rank arrives.
    c.loop-way.invariant.path v ranks rank 0 (omega arith)
    (rw (c.way.ensures.forgotten, c.in-Err.ensures.same, c.way.ensures.same) at arrives)
