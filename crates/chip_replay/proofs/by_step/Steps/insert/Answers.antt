use Rattle.std.proofs.Common.{refl, subst, sym, ap, ◌∙◌}
use Rattle.chip_replay.specs.inner.Changes.{IsInOrder, change_at, all_events, index_of}
use Rattle.chip_replay.proofs.InOrder.{inserted, insert_in_order, none_at_place}
use Rattle.chip_replay.proofs.by_step.Steps.insert.Goals as goal

pub returns : goal.returns
returns c =
    let pages = c.args.self.now.pages.items in
    let es = all_events pages in
    let order = c.requires.in_order in
    let e = c.args.event in
    let place = index_of pages c.place-place.result in
    let found = c.place-place.ensures in
    record {
      in_order = subst IsInOrder (sym c.in_ok-insert_at.ensures.ok)
          (insert_in_order es order e.step e.key place found.at_most found.before found.after e refl refl c.requires.key
          (none_at_place es order e.step e.key place found.at_most found.before found.after c.requires.key c.requires.absent));
      ok = λ s k. ap (λ xs. change_at xs s k) c.in_ok-insert_at.ensures.ok
          ∙ inserted es order e.step e.key place found.at_most found.before found.after e refl refl s k;
      err = tt;
    }
