use Rattle.std.proofs.Common.{◌≡◌, ◌+◌, ◌-◌, ◌<◌, length, ap, ◌∙◌, arith, slice_index_or}
use Rattle.std.specs.Global.{Vec}
use Rattle.chip_replay.specs.inner.Changes.{all_events, count_before}
use Rattle.chip_replay.specs.declared.by_step.Event.{Event}
use Rattle.chip_replay.proofs.Pages.{element_at, count_more, count_within}
use Rattle.chip_replay.proofs.by_step.Steps.last_of.Goals as goal

pub returns-clause-within : goal.returns-clause-within
returns-clause-within c =
    let pages = c.args.self.now.pages.items in
    let page = c.index-events.result.now in
    omega (arith, count_more (λ (p : Vec Event). p.items) pages c.args.page page c.requires c.index-events.ensures, count_within (λ (p : Vec Event). p.items) pages c.args.page page c.requires c.index-events.ensures)

pub returns-clause-last : goal.returns-clause-last
returns-clause-last c = λ i d at.
    let pages = c.args.self.now.pages.items in
    let page = c.index-events.result.now in
    let full : page.len ≡ length page.items = page.ok.0 in
    let some = (c.args.self.now.paged c.args.page page c.requires).0 in
    let last = c.len.result - 1 in
    let inside : last < length page.items = omega (arith, c.len.ensures, full, some, ap (λ (p : Vec Event). length p.items) c.index-events.ensures) in
    let is : i ≡ count_before pages c.args.page + last = omega (arith, at, inside, c.len.ensures, full, count_more (λ (p : Vec Event). p.items) pages c.args.page page c.requires c.index-events.ensures) in
    ap (λ n. slice_index_or (all_events pages) n d) is
    ∙ element_at (λ (p : Vec Event). p.items) pages c.args.page page c.requires c.index-events.ensures last c.index.result.now d inside c.index.ensures
