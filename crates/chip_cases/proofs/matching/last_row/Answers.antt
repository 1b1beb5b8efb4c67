use Rattle.std.proofs.Common.{arith}
use Rattle.chip_cases.specs.Matching.{texts}
use Rattle.chip_cases.proofs.RowLemmas.{row_of_none, texts_length}
use Rattle.chip_cases.proofs.matching.last_row.Goals as goal

pub returns-clause-row : goal.returns-clause-row
returns-clause-row c =
    let size = texts_length c.args.answered.now in
    row_of_none (texts c.args.answered.now) c.loop.row.items (omega (arith, size)) c.loop.invariant.first c.loop.invariant.others
