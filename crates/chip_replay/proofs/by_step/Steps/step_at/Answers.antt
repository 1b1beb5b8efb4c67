use Rattle.std.proofs.Common.{◌<◌, length, sym, ap, arith}
use Rattle.std.specs.Global.{Vec}
use Rattle.chip_replay.specs.declared.by_step.Event.{Event}
use Rattle.chip_replay.proofs.Pages.{element_at, count_within}
use Rattle.chip_replay.proofs.by_step.Steps.step_at.Goals as goal

pub returns-then-place-len : goal.returns-then-place-len
returns-then-place-len c =
    let pages = c.args.self.now.pages.items in
    let place = c.args.place in
    let page = c.index.result.now in
    let within : place.page < length pages = omega (arith, c.if-place-len.true, c.len.ensures, c.args.self.now.pages.ok.0) in
    let inside : place.index < length page.items = omega (arith, c.requires page within, ap (λ (p : Vec Event). length p.items) c.index.ensures) in
    record {
      there = λ d there. sym (ap (λ (e : Event). e.step) (element_at (λ (p : Vec Event). p.items) pages place.page page within c.index.ensures place.index
          c.index-then-place-len.result.now d inside c.index-then-place-len.ensures));
      past = λ past. absurd (omega (arith, past, inside, count_within (λ (p : Vec Event). p.items) pages place.page page within c.index.ensures));
    }
