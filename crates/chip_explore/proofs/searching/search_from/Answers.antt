use Rattle.std.proofs.Common.{◌∙◌}
use Rattle.chip_explore.proofs.Growth.{still_noted}
use Rattle.chip_explore.proofs.searching.search_from.Goals as goal

pub returns-clause-searched : goal.returns-clause-searched
returns-clause-searched g c =
    let n = c.search_all.new.search.members in
    let goes = c.search_all.ensures.grows.goes in
    let start = goes.start ∙ c.in_ok-new.ensures.start in
    record {
      holds = goes.holds;
      begins = start;
      proper = rw goes.start c.in_ok-new.ensures.proper;
      noted = rw start (still_noted c.in_ok-new.field-0.executed n.executed goes.extends.executed c.args.beginning.now.machine.now c.in_ok-new.ensures.noted);
      begun = rw start (rw (c.in_ok-new-2.ensures.nothing, c.in_ok-new-2.ensures.machine) at c.search_all.ensures.begun);
    }
