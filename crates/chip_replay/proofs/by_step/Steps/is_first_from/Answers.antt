use Rattle.std.proofs.Common.{◌≡◌, ◌+◌, ◌-◌, ◌<◌, length, ap, arith, leb-true, slice_index_or}
use Rattle.std.specs.Global.{Vec}
use Rattle.chip_replay.specs.inner.Changes.{all_events, count_before, index_of}
use Rattle.chip_replay.specs.declared.by_step.Event.{Event}
use Rattle.chip_replay.proofs.InOrder.{is_first}
use Rattle.chip_replay.proofs.Pages.{element_at, count_within}
use Rattle.chip_replay.proofs.by_step.Steps.is_first_from.Goals as goal

pub returns-then-place-gt0-clause-first : goal.returns-then-place-gt0-clause-first
returns-then-place-gt0-clause-first c = λ yes.
    let pages = c.args.self.now.pages.items in
    let place = c.args.place in
    let page = c.index-events.result.now in
    let items = λ (p : Vec Event). p.items in
    let within : place.page < length pages = omega (arith, c.if-place-len.false, c.len.ensures, c.args.self.now.pages.ok.0) in
    let inside : place.index < length page.items = omega (arith, c.if-place-len-2.false, c.len-2.ensures, page.ok.0) in
    let before = place.index - 1 in
    let earlier : before < length page.items = omega (arith, inside) in
    let at : count_before pages place.page + place.index - 1 ≡ count_before pages place.page + before = omega (arith, c.if-place-gt0.true) in
    let fewer : c.index-then-place-gt0.result.now.step < c.args.step = leb-true _ _ yes in
    is_first (all_events pages) c.requires c.args.step (index_of pages place) (omega (arith, inside, count_within items pages place.page page within c.index-events.ensures))
    (λ d some. omega (arith, fewer, ap (λ n. (slice_index_or (all_events pages) n d).step) at, ap (λ (e : Event). e.step) (element_at items pages place.page page within c.index-events.ensures before c.index-then-place-gt0.result.now d earlier c.index-then-place-gt0.ensures)))
    (λ d l. omega (arith, c.if-index-step.false, ap (λ (e : Event). e.step) (element_at items pages place.page page within c.index-events.ensures place.index c.index.result.now d inside c.index.ensures)))

pub returns-then-place-eq0-clause-first : goal.returns-then-place-eq0-clause-first
returns-then-place-eq0-clause-first c = λ yes.
    let pages = c.args.self.now.pages.items in
    let place = c.args.place in
    let page = c.index-events.result.now in
    let items = λ (p : Vec Event). p.items in
    let within : place.page < length pages = omega (arith, c.if-place-len.false, c.len.ensures, c.args.self.now.pages.ok.0) in
    let inside : place.index < length page.items = omega (arith, c.if-place-len-2.false, c.len-2.ensures, page.ok.0) in
    let none : count_before pages place.page ≡ 0 = ap (count_before pages) c.if-place-eq0.true in
    is_first (all_events pages) c.requires c.args.step (index_of pages place) (omega (arith, inside, count_within items pages place.page page within c.index-events.ensures))
    (λ d some. absurd (omega (arith, none, some, c.if-place-gt0.false)))
    (λ d l. omega (arith, c.if-index-step.false, ap (λ (e : Event). e.step) (element_at items pages place.page page within c.index-events.ensures place.index c.index.result.now d inside c.index.ensures)))

pub returns-else-place-eq0-clause-first : goal.returns-else-place-eq0-clause-first
returns-else-place-eq0-clause-first c = λ yes.
    let pages = c.args.self.now.pages.items in
    let place = c.args.place in
    let page = c.index-events.result.now in
    let items = λ (p : Vec Event). p.items in
    let within : place.page < length pages = omega (arith, c.if-place-len.false, c.len.ensures, c.args.self.now.pages.ok.0) in
    let inside : place.index < length page.items = omega (arith, c.if-place-len-2.false, c.len-2.ensures, page.ok.0) in
    let same : place.page - 1 + 1 ≡ place.page = omega (arith, c.if-place-eq0.false) in
    let fewer : c.last_of.result.step < c.args.step = leb-true _ _ yes in
    is_first (all_events pages) c.requires c.args.step (index_of pages place) (omega (arith, inside, count_within items pages place.page page within c.index-events.ensures))
    (λ d some. omega (arith, fewer, ap (λ (e : Event). e.step) (c.last_of.ensures.last (index_of pages place - 1) d (omega (arith, ap (count_before pages) same, some, c.if-place-gt0.false)))))
    (λ d l. omega (arith, c.if-index-step.false, ap (λ (e : Event). e.step) (element_at items pages place.page page within c.index-events.ensures place.index c.index.result.now d inside c.index.ensures)))
