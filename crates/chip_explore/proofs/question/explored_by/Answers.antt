use Rattle.chip_explore.proofs.Deep.{says_none}
use Rattle.chip_explore.proofs.question.explored_by.Goals as goal

pub returns-then-members-eq0-clause-says : goal.returns-then-members-eq0-clause-says
returns-then-members-eq0-clause-says c =
    let m = c.args.search.now.members in
    rw (c.after.ensures.outcome, c.after.ensures.executed)
    (says_none c.args.setting.now c.args.bounds.now m.executed m.start c.requires.begins.going c.requires.searched.noted)
