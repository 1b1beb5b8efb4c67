use Rattle.std.proofs.Common.{arith}
use Rattle.chip_replay.proofs.ByStep.{knows_holds}
use Rattle.chip_replay.proofs.keys.Keys.hold.Goals as goal

pub returns-else-step-known : goal.returns-else-step-known
returns-else-step-known c = knows_holds c.args.self.now c.args.step c.args.known.now c.requires.known (omega arith)
