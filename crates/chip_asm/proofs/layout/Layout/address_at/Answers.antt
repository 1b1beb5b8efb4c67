use Rattle.std.proofs.Common.{◌∙◌, ◌<◌, arith, ap, sym, length, get_or}
use Rattle.std.proofs.lemmas.List.{take_all}
use Rattle.chip_asm.specs.computed.Walk.{address, placed}
use Rattle.chip_asm.specs.inner.Placements.{found}
use Rattle.chip_asm.proofs.LinesByPlace.{found-at, here-at}
use Rattle.chip_asm.proofs.Resumed.{length-laid}
use Rattle.chip_asm.proofs.layout.Layout.address_at.Goals as goal

pub returns-in-Some : goal.returns-in-Some
returns-in-Some c = λ lines laid h.
    let there = c.in-Some.ensures.lookup in
    let inside : c.args.place < length lines = omega (arith, there.3.0, ap length c.deref.ensures.value, length-laid c.args.self.now lines laid) in
    c.address.ensures
    ∙ here-at lines c.args.place (found c.in-Some.placement.now)
    (found-at c.args.self.now lines laid c.args.place c.in-Some.placement.now inside (there.1 ∙ ap (λ qs. get_or qs c.args.place c.in-Some.placement.now) c.deref.ensures.value))

pub returns-in-None : goal.returns-in-None
returns-in-None c = λ lines laid h.
    let past = c.in-None.ensures.lookup in
    laid.end_address
    ∙ ap (λ ls. address (placed ls)) (sym (take_all c.args.place lines (omega (arith, past.3, ap length c.deref.ensures.value, length-laid c.args.self.now lines laid))))
