use Rattle.chip_replay.specs.inner.Changes.{all_events, index_of}
use Rattle.chip_replay.proofs.InOrder.{first_by_rank}
use Rattle.chip_replay.proofs.by_step.Steps.first_from.Goals as goal

pub returns-else-is_first_from-clause-first : goal.returns-else-is_first_from-clause-first
returns-else-is_first_from-clause-first c =
    let pages = c.args.self.now.pages.items in
    first_by_rank (all_events pages) c.requires c.args.step (index_of pages c.place.result) c.place.ensures.at_most c.place.ensures.before c.place.ensures.after
