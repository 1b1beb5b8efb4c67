use Rattle.std.proofs.Common.{◌≡◌, suc, refl, arith}
use Rattle.chip_machine.specs.Step.{step_of}
use Rattle.chip_explore.specs.inner.Cover.{tick_at}
use Rattle.chip_explore.proofs.Growth.{still_moves}
use Rattle.chip_explore.proofs.leg.Runner.run.Goals as goal

pub loop-end-preserved : goal.loop-end-preserved
loop-end-preserved c =
    let p = c.args.setting.now in
    let s = c.loop-end.self.machine in
    let f = c.loop-end.self.forgotten in
    let t = c.loop-end.step in
    let made : c.step.new.self ≡ step_of s 0 (tick_at p t) = cc in
    let unneeded = rw (c.end.ensures.forgotten, c.end.ensures.same) at c.in-Ok.ensures.unneeded in
    let is_after = rw (c.end.ensures.forgotten, c.end.ensures.same) at (c.in-Ok.ensures.after (tick_at p t)) in
    record {
      grows = λ pc h. c.end.ensures.grows pc (c.loop-end.invariant.grows pc h);
      few = omega arith;
      path = λ v more moves low path.
          c.loop-end.invariant.path v (λ pc h. more pc (c.end.ensures.grows pc h)) (suc moves) (omega (arith, c.in_default.ensures.left refl)) (
            still_moves p c.end.new.executed v.executed more f s (c.in_default.ensures.moves refl),
            unneeded,
            (c.in-Ok.after, is_after, rw made at path),
          );
    }

pub returns-in-Some-clause-path : goal.returns-in-Some-clause-path
returns-in-Some-clause-path c = λ v more ends.
    c.loop-end.invariant.path v (λ pc h. more pc (c.end.ensures.grows pc h)) 0 (omega arith) (rw (c.end.ensures.forgotten, c.end.ensures.same) at ends)

pub returns-in-Err-clause-path : goal.returns-in-Err-clause-path
returns-in-Err-clause-path c = λ v more ends.
    c.loop-end.invariant.path v (λ pc h. more pc (c.end.ensures.grows pc h)) 0 (omega arith)
    (rw (c.end.ensures.forgotten, c.in-Err.ensures.same, c.end.ensures.same) at ends)
