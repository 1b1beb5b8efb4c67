use Rattle.std.proofs.Common.{◌<◌, length, refl, subst, sym, ap, ◌∙◌, arith}
use Rattle.std.specs.Global.{Vec}
use Rattle.std.specs.Vec.{with_item}
use Rattle.chip_replay.specs.inner.Changes.{IsInOrder, change_at, all_events, index_of}
use Rattle.chip_replay.specs.declared.by_step.Event.{Event}
use Rattle.chip_replay.proofs.InOrder.{at_place, replaced, set_in_order}
use Rattle.chip_replay.proofs.Pages.{list_inside, flat_set}
use Rattle.chip_replay.proofs.by_step.Steps.replace.Goals as goal

pub index_mut-requires : goal.index_mut-requires
index_mut-requires c =
    let pages = c.args.self.now.pages.items in
    let place = c.place-place.result in
    let found = c.place-place.ensures in
    let there = at_place (all_events pages) c.requires.in_order c.args.event.step c.args.event.key (index_of pages place) found.at_most found.before found.after c.requires.there in
    omega (arith, list_inside (λ (p : Vec Event). p.items) pages place.page place.index there.0, c.args.self.now.pages.ok.0)

pub index_mut-requires-2 : goal.index_mut-requires-2
index_mut-requires-2 c =
    let pages = c.args.self.now.pages.items in
    let place = c.place-place.result in
    let page = c.index_mut.result.now in
    let found = c.place-place.ensures in
    let there = at_place (all_events pages) c.requires.in_order c.args.event.step c.args.event.key (index_of pages place) found.at_most found.before found.after c.requires.there in
    let within = list_inside (λ (p : Vec Event). p.items) pages place.page place.index there.0 in
    omega (arith, found.place page within, ap (λ (p : Vec Event). length p.items) c.index_mut.ensures.value, page.ok.0)

pub returns : goal.returns
returns c =
    let pages = c.args.self.now.pages.items in
    let es = all_events pages in
    let order = c.requires.in_order in
    let e = c.args.event in
    let place = c.place-place.result in
    let index = index_of pages place in
    let page = c.index_mut.result.now in
    let found = c.place-place.ensures in
    let there = at_place es order e.step e.key index found.at_most found.before found.after c.requires.there in
    let within = list_inside (λ (p : Vec Event). p.items) pages place.page place.index there.0 in
    let inside : place.index < length page.items = omega (arith, found.place page within, ap (λ (p : Vec Event). length p.items) c.index_mut.ensures.value) in
    let set = flat_set (λ (p : Vec Event). p.items) pages place.page page within c.index_mut.ensures.value place.index (with_item page place.index e) e inside refl in
    record {
      in_order = subst IsInOrder (sym set) (set_in_order es order e.step e.key index found.at_most found.before found.after e refl refl c.requires.key there.0 there.1);
      set = λ s k. ap (λ es. change_at es s k) set
          ∙ replaced es order e.step e.key index found.at_most found.before found.after there.0 there.1 c.requires.key e refl refl s k;
    }
