use Rattle.std.proofs.Common.{◌≡◌, ◌+◌, ◌<◌, ◌++◌, length, take, drop, get_or, List, sym, ap, ◌∙◌, arith}
use Rattle.std.specs.Global.{Vec}
use Rattle.std.proofs.lemmas.List.{take-append-drop}
use Rattle.chip_replay.specs.inner.Changes.{all_events, index_of}
use Rattle.chip_replay.specs.declared.by_step.Event.{Event}
use Rattle.chip_replay.proofs.Pages.{flat_parted, first_part, length-parted, take-parted, count_more}
use Rattle.chip_replay.proofs.by_step.Steps.with_room.Goals as goal

-- the two parts of a page
both : (page front later : List Event) → front ≡ take 64 page → later ≡ drop 64 page → front ++ later ≡ page
both page front later is rest = ap (λ es. es ++ later) is ∙ ap (λ es. take 64 page ++ es) rest ∙ take-append-drop 64 page

pub returns-then-place-le-HALF_PAGE : goal.returns-then-place-le-HALF_PAGE
returns-then-place-le-HALF_PAGE c =
    let pages = c.reserve.new.self.items in
    let page = c.index_mut.result.now in
    let front = c.split_off.new.self in
    let later = c.in_ok-later.later in
    let i = c.args.place.page in
    let within : i < length pages = omega (arith, ap length c.reserve.ensures.items, c.requires.page) in
    let is = c.in_ok-insert.ensures.items in
    let size : length front.items ≡ 64 = omega (arith, c.in_ok-later.ensures.len) in
    record {
      same = ap all_events is
          ∙ flat_parted (λ (p : Vec Event). p.items) pages i page within c.index_mut.ensures.value front later
          (both page.items front.items later.items c.in_ok-later.ensures.items c.in_ok-later.ensures.tail)
          ∙ ap all_events c.reserve.ensures.items;
      room = (
        omega (arith, ap length is, length-parted pages i front later within, within),
        λ d. let there = ap (λ (ps : List (Vec Event)). length (get_or ps i d).items) is ∙ ap (λ (p : Vec Event). length p.items) (first_part pages i front later d within) in
            (omega (arith, there, size, c.if-place-le-HALF_PAGE.true), omega (arith, there, size)),
      );
      index = ap (λ (ps : List (Vec Event)). index_of ps c.args.place) is
          ∙ ap (λ (ps : List (Vec Event)). length (all_events ps) + c.args.place.index) (take-parted pages i front later within)
          ∙ ap (λ (ps : List (Vec Event)). index_of ps c.args.place) c.reserve.ensures.items;
    }

pub returns-else-place-le-HALF_PAGE-clause-same : goal.returns-else-place-le-HALF_PAGE-clause-same
returns-else-place-le-HALF_PAGE-clause-same c =
    let pages = c.reserve.new.self.items in
    let front = c.split_off.new.self in
    let later = c.in_ok-later.later in
    let within : c.args.place.page < length pages = omega (arith, ap length c.reserve.ensures.items, c.requires.page) in
    ap all_events c.in_ok-insert.ensures.items
    ∙ flat_parted (λ (p : Vec Event). p.items) pages c.args.place.page c.index_mut.result.now within c.index_mut.ensures.value front later
    (both c.index_mut.result.now.items front.items later.items c.in_ok-later.ensures.items c.in_ok-later.ensures.tail)
    ∙ ap all_events c.reserve.ensures.items

pub returns-else-place-le-HALF_PAGE-clause-index : goal.returns-else-place-le-HALF_PAGE-clause-index
returns-else-place-le-HALF_PAGE-clause-index c =
    let pages = c.reserve.new.self.items in
    let front = c.split_off.new.self in
    let later = c.in_ok-later.later in
    let i = c.args.place.page in
    let within : i < length pages = omega (arith, ap length c.reserve.ensures.items, c.requires.page) in
    let is = c.in_ok-insert.ensures.items in
    let within_parted : i < length c.insert.new.self.items = omega (arith, ap length is, length-parted pages i front later within, within) in
    let read = sym (ap (λ (ps : List (Vec Event)). get_or ps i front) is ∙ first_part pages i front later front within) in
    let more = count_more (λ (p : Vec Event). p.items) c.insert.new.self.items i front within_parted read in
    let before = ap (λ (ps : List (Vec Event)). length (all_events (take i ps))) is
    ∙ ap (λ (ps : List (Vec Event)). length (all_events ps)) (take-parted pages i front later within)
    ∙ ap (λ (ps : List (Vec Event)). length (all_events (take i ps))) c.reserve.ensures.items in
    let size : length front.items ≡ 64 = omega (arith, c.in_ok-later.ensures.len) in
    omega (arith, more, before, size, c.if-place-le-HALF_PAGE.false)
