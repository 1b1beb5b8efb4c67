use Rattle.std.proofs.Common.{◌<◌, length, sym, ap, subst, arith}
use Rattle.std.specs.Global.{Vec}
use Rattle.chip_replay.specs.inner.Changes.{IsInOrder}
use Rattle.chip_replay.specs.declared.by_step.Event.{Event}
use Rattle.chip_replay.proofs.Pages.{read_at}
use Rattle.chip_replay.proofs.PlaceIn.{page_in_order, placed_in}
use Rattle.chip_replay.proofs.by_step.Steps.place.Goals as goal

pub index_in-requires : goal.index_in-requires
index_in-requires c =
    let pages = c.args.self.now.pages.items in
    let within : c.page-page.result < length pages = omega (arith, c.if-page-len.false, c.len.ensures, c.args.self.now.pages.ok.0, c.page-page.ensures.at_most) in
    subst IsInOrder (sym c.deref.ensures.value) (page_in_order pages c.requires c.page-page.result c.index.result.now within c.index.ensures)

pub returns : goal.returns
returns c =
    let pages = c.args.self.now.pages.items in
    let at = c.page-page.result in
    let page = c.index.result.now in
    let found = c.page-page.ensures in
    let in_page = c.index_in.ensures in
    let within : at < length pages = omega (arith, c.if-page-len.false, c.len.ensures, c.args.self.now.pages.ok.0, found.at_most) in
    let some : 0 < length page.items = omega (arith, (c.args.self.now.paged at page within).0, ap (λ (p : Vec Event). length p.items) c.index.ensures) in
    let placed = placed_in pages c.requires at page within c.index.ensures c.rank-wanted.result c.index_in.result found.before found.after some
    c.deref.result.now c.deref.ensures.value in_page.at_most in_page.before in_page.after in
    record {
      place = λ d l. omega (arith, placed.0, ap (λ (p : Vec Event). length p.items) (read_at pages at page within c.index.ensures d));
      at_most = placed.1;
      before = λ i d l. omega (arith, placed.2 i d l, c.rank-wanted.ensures);
      after = λ i d l li. omega (arith, placed.3 i d l li, c.rank-wanted.ensures);
    }
