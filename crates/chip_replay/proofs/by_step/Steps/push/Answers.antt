use Rattle.std.proofs.Common.{◌≡◌, ◌+◌, ◌-◌, ◌<◌, length, slice_set, arith, rules}
use Rattle.std.specs.Global.{Vec}
use Rattle.chip_replay.specs.inner.Changes.{all_events}
use Rattle.chip_replay.specs.declared.by_step.Event.{Event}
use Rattle.chip_replay.proofs.Pages.{flat_push, flat_same}
use Rattle.chip_replay.proofs.by_step.Steps.push.Goals as goal

pub returns-in_err-push-clause-err : goal.returns-in_err-push-clause-err
returns-in_err-push-clause-err c =
    let pages = c.args.self.now.pages.items in
    let last = c.len-count.result - 1 in
    let within : last < length pages = omega (arith, c.if-count-gt0.true, c.len-count.ensures, c.args.self.now.pages.ok.0) in
    let same : all_events (slice_set pages last c.push.new.self) ≡ all_events pages = flat_same (λ (p : Vec Event). p.items) pages last c.index_mut.result.now within c.index_mut.ensures.value c.push.new.self c.in_err-push.ensures.items in
    search rules

pub returns-then-len-lt-PAGE_EVENTS-clause-ok : goal.returns-then-len-lt-PAGE_EVENTS-clause-ok
returns-then-len-lt-PAGE_EVENTS-clause-ok c =
    let pages = c.args.self.now.pages.items in
    let last = c.len-count.result - 1 in
    let within : last < length pages = omega (arith, c.if-count-gt0.true, c.len-count.ensures, c.args.self.now.pages.ok.0) in
    let at : last + 1 ≡ length pages = omega (arith, c.if-count-gt0.true, c.len-count.ensures, c.args.self.now.pages.ok.0) in
    flat_push (λ (p : Vec Event). p.items) pages last c.index_mut.result.now within c.index_mut.ensures.value c.push.new.self c.args.event at c.in_ok-push.ensures.items
