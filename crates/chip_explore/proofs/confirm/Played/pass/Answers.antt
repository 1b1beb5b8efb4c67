use Rattle.std.proofs.Common.{refl, false}
use Rattle.chip_explore.specs.declared.script.KeyEvent.{KeyEvent}
use Rattle.chip_explore.proofs.Played.{one_more}
use Rattle.chip_explore.proofs.confirm.Played.pass.Goals as goal

pub loop-self-preserved : goal.loop-self-preserved
loop-self-preserved c =
    let none : KeyEvent = record { step = 0; key = 0; down = false } in
    one_more c.args.events.now c.args.step c.loop-self.self _ none c.loop-self.invariant c.loop-self-test.true c.if-events-self.true refl refl c.with_key-self.ensures
