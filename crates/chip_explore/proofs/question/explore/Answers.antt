use Rattle.std.proofs.Common.{rules}
use Rattle.chip_explore.proofs.Deep.{avoids_none}
use Rattle.chip_explore.proofs.question.explore.Goals as goal

pub returns-in_default-search_by_step-clause-answers : goal.returns-in_default-search_by_step-clause-answers
returns-in_default-search_by_step-clause-answers g c =
    let q = c.args.question.now in
    rw c.at_once-in_default-search_by_step.ensures.outcome (avoids_none q.rate q.allowed q.target c.args.start.now (search rules))
