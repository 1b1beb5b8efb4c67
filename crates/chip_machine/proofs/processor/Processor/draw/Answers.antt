use Rattle.std.proofs.Common.{rules}
use Rattle.chip_machine.specs.Step.{has_wide_sixteen}
use Rattle.chip_machine.proofs.SpriteLemmas.{row_bytes_by_rows}
use Rattle.chip_machine.proofs.processor.Processor.draw.Goals as goal

pub returns : goal.returns
returns c = λ n small size.
    let e = row_bytes_by_rows (has_wide_sixteen c.args.self.now) n c.args.sprite.now small size in
    rw (← e) (search rules)
