use Rattle.std.proofs.Common.{◌≡◌, ◌≤◌, length, slice_set, sym, ap, ◌∙◌, arith, rules}
use Rattle.std.specs.List.{insert}
use Rattle.std.specs.Global.{Vec}
use Rattle.std.proofs.lemmas.Result.{on_ok_weaker}
use Rattle.std.proofs.lemmas.List.Edits.{insert_end}
use Rattle.chip_replay.specs.inner.Changes.{all_events, index_of}
use Rattle.chip_replay.specs.declared.by_step.Event.{Event}
use Rattle.chip_replay.proofs.Pages.{flat_insert, flat_same, count_all}
use Rattle.chip_replay.proofs.by_step.Steps.insert_at.Goals as goal

pub returns-then-place-len-clause-ok : goal.returns-then-place-len-clause-ok
returns-then-place-len-clause-ok c =
    let pages = c.args.self.now.pages.items in
    let all = count_all (λ (p : Vec Event). p.items) pages c.args.place.page (omega (arith, c.if-place-len.true, c.len.ensures, c.args.self.now.pages.ok.0)) in
    let end : length (all_events pages) ≡ index_of pages c.args.place = omega (arith, all, c.requires.at_most) in
    on_ok_weaker c.push.result (λ pushed. pushed ∙ sym (insert_end (all_events pages) c.args.event) ∙ ap (λ n. insert (all_events pages) n c.args.event) end) c.push.ensures.ok

pub returns-in_err-insert-clause-err : goal.returns-in_err-insert-clause-err
returns-in_err-insert-clause-err c =
    let pages = c.with_room.new.self.pages.items in
    let place = c.in_ok-place.place in
    let same : all_events (slice_set pages place.page c.insert.new.self) ≡ all_events c.args.self.now.pages.items = flat_same (λ (p : Vec Event). p.items) pages place.page c.index_mut.result.now c.in_ok-place.ensures.room.0 c.index_mut.ensures.value c.insert.new.self c.in_err-insert.ensures.items ∙ c.with_room.ensures.same in
    search rules

pub returns-clause-ok : goal.returns-clause-ok
returns-clause-ok c =
    let pages = c.with_room.new.self.pages.items in
    let place = c.in_ok-place.place in
    let page = c.index_mut.result.now in
    let room = c.in_ok-place.ensures.room in
    let inside : place.index ≤ length page.items = omega (arith, (room.1 page).0, ap (λ (p : Vec Event). length p.items) c.index_mut.ensures.value) in
    flat_insert (λ (p : Vec Event). p.items) pages place.page page room.0 c.index_mut.ensures.value place.index c.insert.new.self c.args.event inside c.in_ok-insert.ensures.items
    ∙ ap (λ es. insert es (index_of pages place) c.args.event) c.with_room.ensures.same
    ∙ ap (λ n. insert (all_events c.args.self.now.pages.items) n c.args.event) c.in_ok-place.ensures.index
