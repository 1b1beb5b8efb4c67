use Rattle.std.proofs.Common.{arith}
use Rattle.chip_explore.proofs.Deep.{covers_before}
use Rattle.chip_explore.proofs.question.told_up_to.Goals as goal

pub returns-clause-covers : goal.returns-clause-covers
returns-clause-covers c =
    let m = c.args.members.now in
    let least = c.min.ensures in
    covers_before c.args.setting.now m.executed m.start _ c.args.covered (omega arith) c.requires.covers
