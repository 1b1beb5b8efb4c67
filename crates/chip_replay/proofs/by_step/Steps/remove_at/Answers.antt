use Rattle.std.proofs.Common.{◌<◌, length, ap, ◌∙◌, arith}
use Rattle.std.specs.Global.{Vec}
use Rattle.chip_replay.specs.inner.Changes.{all_events}
use Rattle.chip_replay.specs.declared.by_step.Event.{Event}
use Rattle.chip_replay.proofs.Pages.{list_inside, flat_remove, flat_removed}
use Rattle.chip_replay.proofs.by_step.Steps.remove_at.Goals as goal

pub index-requires : goal.index-requires
index-requires c =
    let pages = c.args.self.now.pages.items in
    omega (arith, list_inside (λ (p : Vec Event). p.items) pages c.args.place.page c.args.place.index c.requires.there, c.args.self.now.pages.ok.0)

pub remove-requires : goal.remove-requires
remove-requires c =
    let pages = c.args.self.now.pages.items in
    omega (arith, list_inside (λ (p : Vec Event). p.items) pages c.args.place.page c.args.place.index c.requires.there, c.args.self.now.pages.ok.0)

pub index_mut-requires : goal.index_mut-requires
index_mut-requires c =
    let pages = c.args.self.now.pages.items in
    omega (arith, list_inside (λ (p : Vec Event). p.items) pages c.args.place.page c.args.place.index c.requires.there, c.args.self.now.pages.ok.0)

pub remove-requires-else-len-eq1 : goal.remove-requires-else-len-eq1
remove-requires-else-len-eq1 c =
    let pages = c.args.self.now.pages.items in
    let page = c.index_mut.result.now in
    let within = list_inside (λ (p : Vec Event). p.items) pages c.args.place.page c.args.place.index c.requires.there in
    omega (arith, c.requires.place page within, ap (λ (p : Vec Event). length p.items) c.index_mut.ensures.value, page.ok.0)

pub returns-then-len-eq1 : goal.returns-then-len-eq1
returns-then-len-eq1 c =
    let pages = c.args.self.now.pages.items in
    let page = c.index.result.now in
    let within = list_inside (λ (p : Vec Event). p.items) pages c.args.place.page c.args.place.index c.requires.there in
    let inside : c.args.place.index < length page.items = omega (arith, c.requires.place page within, ap (λ (p : Vec Event). length p.items) c.index.ensures) in
    ap all_events c.remove.ensures.items
    ∙ flat_removed (λ (p : Vec Event). p.items) pages c.args.place.page page within c.index.ensures c.args.place.index inside (omega (arith, c.len.ensures, c.if-len-eq1.true, page.ok.0))

pub returns-else-len-eq1 : goal.returns-else-len-eq1
returns-else-len-eq1 c =
    let pages = c.args.self.now.pages.items in
    let page = c.index_mut.result.now in
    let within = list_inside (λ (p : Vec Event). p.items) pages c.args.place.page c.args.place.index c.requires.there in
    let inside : c.args.place.index < length page.items = omega (arith, c.requires.place page within, ap (λ (p : Vec Event). length p.items) c.index_mut.ensures.value) in
    flat_remove (λ (p : Vec Event). p.items) pages c.args.place.page page within c.index_mut.ensures.value c.args.place.index c.remove-else-len-eq1.new.self inside c.remove-else-len-eq1.ensures.items
