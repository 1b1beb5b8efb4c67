use Rattle.std.proofs.Common.{◌≡◌, inr}
use Rattle.chip_machine.specs.Choices.{IsWithin}
use Rattle.chip_replay.specs.Keys.{held}
use Rattle.chip_explore.specs.Scripts.{keys_of}
use Rattle.chip_explore.proofs.Played.{allowed_on, keys_held, ran_on}
use Rattle.std.proofs.Common.{ℕ, sym, subst}
use Rattle.chip_explore.proofs.confirm.machine_under.Goals as goal

pub returns-then-presses_other-clause-refused : goal.returns-then-presses_other-clause-refused
returns-then-presses_other-clause-refused c = λ _.
    let events = c.args.events.now in
    let made = c.loop-made.made in
    let now = keys_held events made c.pass.new.self c.pass.ensures in
    inr (record {
      at = made;
      before = c.loop-made-test.true;
      other = λ within. c.presses_other.ensures.other c.if-presses_other.true (subst (λ (k : ℕ). IsWithin c.args.setting.now.allowed k) (sym now) within);
    })

pub loop-made-preserved : goal.loop-made-preserved
loop-made-preserved c =
    let p = c.args.setting.now in
    let events = c.args.events.now in
    let made = c.loop-made.made in
    let before = c.loop-made.invariant in
    let now = keys_held events made c.pass.new.self c.pass.ensures in
    record {
      played = c.pass.ensures;
      reached = ran_on p.rate (held (keys_of events)) c.args.start.now c.loop-made.machine _ made _ _ before.reached now c.ticks.ensures c.step.ensures.state;
      allowed_only = allowed_on p.allowed (held (keys_of events)) made _ before.allowed_only now (c.presses_other.ensures.within c.if-presses_other.false);
    }
