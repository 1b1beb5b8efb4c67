use Rattle.chip_replay.proofs.ByStep.{holds_held}
use Rattle.chip_replay.proofs.keys.CursorHeldKeys.at.Goals as goal

pub returns-clause-keys : goal.returns-clause-keys
returns-clause-keys c = holds_held c.args.self.now.keys.now c.args.step c.hold.new.known c.hold.ensures
