use Rattle.std.proofs.Common.{arith}
use Rattle.chip_explore.proofs.Growth.{goes_as}
use Rattle.chip_explore.proofs.members.Members.lower_limit.Goals as goal

pub returns-clause-goes : goal.returns-clause-goes
returns-clause-goes c =
    let least = c.min-least.ensures in
    goes_as c.args.setting.now c.args.self.now c.requires.holds _ _ (omega arith) (λ pc h. h)
