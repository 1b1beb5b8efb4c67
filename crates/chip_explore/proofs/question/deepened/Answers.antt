use Rattle.chip_explore.proofs.Deep.{later_says}
use Rattle.chip_explore.proofs.question.deepened.Goals as goal

pub returns-in-Ok-clause-says : goal.returns-in-Ok-clause-says
returns-in-Ok-clause-says g c =
    let deep = c.in-Ok.deep in
    rw (c.deepened_by.ensures.outcome, c.deepened_by.ensures.executed)
    (later_says c.args.setting.now c.with_ticks-known.result c.with_ticks-known.ensures.same c.args.bounds.now c.args.first.executed deep.executed c.args.start.now
    c.args.covered c.requires.covers c.requires.short c.requires.deep deep.outcome c.in-Ok.ensures.says)
