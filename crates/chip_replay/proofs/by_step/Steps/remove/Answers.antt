use Rattle.std.proofs.Common.{subst, sym, ap, ◌∙◌}
use Rattle.chip_replay.specs.inner.Changes.{IsInOrder, change_at, all_events, index_of}
use Rattle.chip_replay.proofs.InOrder.{at_place, removed, remove_in_order}
use Rattle.chip_replay.proofs.by_step.Steps.remove.Goals as goal

pub remove_at-requires-clause-there : goal.remove_at-requires-clause-there
remove_at-requires-clause-there c =
    let pages = c.args.self.now.pages.items in
    let found = c.place-place.ensures in
    (at_place (all_events pages) c.requires.in_order c.args.step c.args.key (index_of pages c.place-place.result) found.at_most found.before found.after c.requires.there).0

pub returns : goal.returns
returns c =
    let pages = c.args.self.now.pages.items in
    let es = all_events pages in
    let order = c.requires.in_order in
    let step = c.args.step in
    let key = c.args.key in
    let place = index_of pages c.place-place.result in
    let found = c.place-place.ensures in
    let there = at_place es order step key place found.at_most found.before found.after c.requires.there in
    record {
      in_order = subst IsInOrder (sym c.remove_at.ensures) (remove_in_order es order step key place found.at_most found.before found.after there.0);
      set = λ s k. ap (λ xs. change_at xs s k) c.remove_at.ensures
          ∙ removed es order step key place found.at_most found.before found.after there.0 there.1 c.requires.key s k;
    }
