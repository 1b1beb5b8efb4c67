use Rattle.std.proofs.Common.{◌≡◌, ◌<◌, ◌∙◌, ◌+◌, ◌*◌, rules, arith, length}
use Rattle.chip_facts.proofs.BitSets.{holds_inside}
use Rattle.chip_facts.proofs.Blocks.{block_there, block_elsewhere}
use Rattle.chip_facts.proofs.Knowing.{put_known}
use Rattle.chip_facts.proofs.known.Known.put.Goals as goal

pub returns-clause-known : goal.returns-clause-known
returns-clause-known c = λ core b known among.
    let size : length c.args.self.now.registers ≡ 64 = search rules in
    put_known c.args.self.now core c.args.x c.args.values.now b known size c.told-values c.requires among

pub returns-clause-there : goal.returns-clause-there
returns-clause-there c = λ b among.
    let size : length c.args.self.now.registers ≡ 64 = search rules in
    let room : 4 * c.args.x + 3 < length c.args.self.now.registers = omega (arith, size, c.requires) in
    block_there c.args.self.now.registers c.args.x c.args.values.now b room (omega (arith, holds_inside c.args.values.now b among, c.told-values)) ∙ among

pub returns-clause-others : goal.returns-clause-others
returns-clause-others c = λ y b other small among.
    let size : length c.args.self.now.registers ≡ 64 = search rules in
    let room : 4 * c.args.x + 3 < length c.args.self.now.registers = omega (arith, size, c.requires) in
    block_elsewhere c.args.self.now.registers c.args.x c.args.values.now y b room other small ∙ among
