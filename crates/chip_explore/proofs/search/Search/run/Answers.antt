use Rattle.chip_explore.proofs.Growth.{goes_up_to}
use Rattle.chip_explore.proofs.search.Search.run.Goals as goal

pub loop-turns-preserved : goal.loop-turns-preserved
loop-turns-preserved g c =
    goes_up_to c.args.setting.now c.args.self.now.members c.loop-turns.self.members c.take_turn.new.self.members _
    c.loop-turns.invariant.goes c.take_turn.ensures.goes c.take_turn.ensures.few
